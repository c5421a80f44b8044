-- The lining up of three runs of stamps, their parts and the places as bytes, the lowest first. This project's own, for the customer's three recorders: the
-- stamps that nothing refused in the order of their exact sums. Refusals by document 01's numbers: 14 a broken length, 12 sizes that differ, 13 too many, 11
-- too few places; of a stamp 9 and document 02's 17. Assumes nothing.
use Rattle.std.specs.Prelude.{ℕ, ◌+◌, ◌-◌, ◌*◌, ◌/◌, ◌%◌, Bool, cond, ◌&&◌, List, [], ◌∷◌, ◌++◌, eqb, leb, ltb, length, drop, Result}
use Rattle.refusals.specs.declared.Refusal.{Refusal}
use Rattle.refusals.specs.Outcome.{Outcome, refusal, outcome}
use Rattle.numerals.specs.little_endian.LittleEndian.{four_bytes}
unfoldable pub use Rattle.line_up.specs.keep.Stamps.{unordered_at, sooner_at}
use Rattle.line_up.specs.Runs.{all_tested, numbers_after, ordered}

-- a place in four bytes
unfoldable pub places_bytes : List ℕ → List ℕ
places_bytes [] = []
places_bytes (p ∷ ps) = four_bytes p ++ places_bytes ps

-- eight bytes for each of n stamps, where the size is a multiple of eight
abbrev pub eight_each : ℕ → ℕ → Bool
eight_each size n = eqb (size / 8) n

-- the refusal of the sizes in bytes of the parts, of n stamps of which the first runs have `first` and `second`, and of the least of the bytes for the places
-- and of the two work areas; 0 for none
unfoldable pub line_refusal : ℕ → ℕ → ℕ → ℕ → ℕ → ℕ → ℕ
line_refusal size1 size2 n first second room =
    cond (eqb (size1 % 8) 0 && eqb (size2 % 8) 0)
    (cond (eight_each size1 n && eight_each size2 n)
    (cond (leb first n && leb second (n - first)) (cond (leb n 4294967295) (cond (leb n (room / 4)) 0 11) 13) 14)
    12)
    14

-- the answer, and what is left in the two slices that are written
pub record LinedUp : Type 0 where
  pub answer : Outcome ℕ
  pub numbers : List ℕ
  pub out : List ℕ

abbrev pub result : Result ℕ Refusal → List ℕ → List ℕ → LinedUp
result r numbers out = record { answer = outcome r; numbers = numbers; out = out }

-- the ordered places at the start of `out`, whose rest stays
unfoldable pub line_written : List ℕ → List ℕ → List ℕ → LinedUp
line_written ms places out = record { answer = Outcome.answer (length places); numbers = ms; out = places_bytes places ++ drop (4 * length places) out }

unfoldable pub put_in_line : (ℕ → ℕ → Bool) → List ℕ → ℕ → ℕ → List ℕ → LinedUp
put_in_line lt ns a b out = line_written (numbers_after lt ns a b (length ns)) (ordered lt (numbers_after lt ns a b (length ns)) a b (length ns)) out

abbrev pub smaller : ℕ → ℕ → ℕ
smaller a b = cond (ltb a b) a b

-- the bytes of the least of the places and the two work areas
abbrev pub least_room : ℕ → ℕ → ℕ → ℕ
least_room out tails ranks = smaller out (smaller tails ranks)

-- with work areas of so many bytes
unfoldable pub lined_up : List ℕ → List ℕ → List ℕ → ℕ → ℕ → List ℕ → ℕ → ℕ → LinedUp
lined_up js ks ns first second out tails ranks =
    cond (eqb (line_refusal (length js) (length ks) (length ns) first second (least_room (length out) tails ranks)) 0)
    (put_in_line (sooner_at js ks) (all_tested (unordered_at js ks) 0 ns) first (first + second) out)
    (record { answer = refusal (line_refusal (length js) (length ks) (length ns) first second (least_room (length out) tails ranks)); numbers = ns; out = out })
