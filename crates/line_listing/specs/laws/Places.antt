-- What the theorems of the listing's order say, in places and plain lists. Written from the head of programs/line_up.c, apart from the definition: each stamp
-- has one line, the lines of a recorder are in the order of its run, the ordered stamps are in the order of the lining up, and where each other one stands.
-- Assumes nothing.
use Rattle.std.specs.Prelude.{◌≡◌, ℕ, zero, suc, ◌+◌, ◌-◌, ◌*◌, ◌<◌, ◌≤◌, Bool, cond, ◌&&◌, List, [], ◌∷◌, ◌++◌, length, drop, ◌==◌, ◌≢◌, nat_le, nat_lt}
use Rattle.std.specs.Prelude.{slice_index, slice_index_or}
use Rattle.refusals.specs.Outcome.{answer}
use Rattle.numerals.specs.little_endian.LittleEndian.{u32_at}
use Rattle.julian.specs.declared.JulianDate.{JulianDate}
use Rattle.line_up.specs.Runs.{times_in}
use Rattle.line_up.specs.LineUp.{LinedUp}
use Rattle.line_up.specs.laws.Claims.{Each, OneLine, zeros_in}

-- so many places from i on, one after the other
unfoldable pub up_from : ℕ → ℕ → List ℕ
up_from i zero = []
up_from i (suc d) = i ∷ up_from (suc i) d

-- those of a list that pass a test, in their order
unfoldable pub only : (ℕ → Bool) → List ℕ → List ℕ
only t [] = []
only t (x ∷ xs) = cond (t x) (x ∷ only t xs) (only t xs)

-- the runs, from a place up to a place: they end at a, b and n
pub data Run (a b n : ℕ) : ℕ → ℕ → Type 0 where
  run_1 : Run a b n 0 a
  run_2 : Run a b n a b
  run_3 : Run a b n b n

abbrev pub in_run : ℕ → ℕ → ℕ → Bool
in_run from to x = nat_le from x && nat_lt x to

-- the number of an ordered stamp is 0; past the end no stamp is
abbrev pub is_ordered : List ℕ → ℕ → Bool
is_ordered ms x = slice_index_or ms x 1 == 0

-- from p to q all places stand in the lines one directly behind the other
pub record DirectlyBehind (lines : List ℕ) (p q : ℕ) : Type 0 where
  pub before : List ℕ
  pub after : List ℕ
  pub whole : lines ≡ before ++ (up_from p (suc (q - p)) ++ after)

-- before q stand no others than smaller places that are not ordered
pub record BeforeAll (ms lines : List ℕ) (q : ℕ) : Type 0 where
  pub before : List ℕ
  pub after : List ℕ
  pub whole : lines ≡ before ++ (q ∷ after)
  pub none : Each (λ (x : ℕ). (x < q) × (slice_index ms x ≢ 0)) before

-- the places of the lines of three runs that end at places a, b and the length; ms are the numbers, and `line` has the ordered places
pub record EveryLine (ms : List ℕ) (a b : ℕ) (line lines : List ℕ) : Type 0 where
  pub many : length lines ≡ length ms
  pub once : (p : ℕ) → times_in p lines ≡ cond (nat_lt p (length ms)) 1 0
  pub run : (from to : ℕ) → Run a b (length ms) from to → only (in_run from to) lines ≡ up_from from (to - from)
  pub ordered : only (is_ordered ms) lines ≡ line
  pub behind : (from to : ℕ) → Run a b (length ms) from to → (p q : ℕ) → from ≤ p → p < q → q < to → slice_index ms p ≡ 0
      → ((x : ℕ) → p < x → x ≤ q → slice_index ms x ≢ 0) → DirectlyBehind lines p q
  pub start : (from to : ℕ) → Run a b (length ms) from to → (q : ℕ) → from ≤ q → q < to → ((x : ℕ) → from ≤ x → x ≤ q → slice_index ms x ≢ 0)
      → BeforeAll ms lines q

-- what a call that is not refused answers and leaves; the stamp at place i is date i, and `lines` are the places that a caller reads, each from its own four
-- bytes
pub record AllListed (date : ℕ → JulianDate) (ns : List ℕ) (first second : ℕ) (out : List ℕ) (l : LinedUp) : Type 0 where
  pub line : List ℕ
  pub lines : List ℕ
  pub answers : l.answer ≡ answer (length line)
  pub counted : length line ≡ zeros_in l.numbers
  pub place_at : (i : ℕ) → i < length ns → u32_at l.out (4 * i) ≡ slice_index lines i
  pub spare : drop (4 * length ns) l.out ≡ drop (4 * length ns) out
  pub right : OneLine date ns first (first + second) line l.numbers
  pub each : EveryLine l.numbers first (first + second) line lines
