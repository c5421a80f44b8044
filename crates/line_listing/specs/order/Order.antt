-- The order of the listing's lines, a line for every stamp of up to three runs. Written from the head of programs/line_up.c: the ordered stamps rise by their
-- exact TAI, a tie goes by recorder and then by index; a stamp that is not ordered stands directly behind the last ordered stamp before it in its own run, with
-- those of its run that follow it up to the next ordered one, by index; where there is none before it, it stands before all ordered stamps, by recorder and
-- then by index. A stamp is told by its place, the runs one after the other; `ms` are the numbers that the lining up leaves, 0 for an ordered stamp. Assumes
-- nothing.
use Rattle.std.specs.Prelude.{ℕ, suc, ◌+◌, ◌*◌, Bool, cond, List, [], ◌∷◌, ◌++◌, length, drop, ◌==◌, nat_lt}
use Rattle.std.proofs.Math.Seq.{slice}
use Rattle.refusals.specs.Outcome.{Outcome, refusal}
use Rattle.line_up.specs.Runs.{all_tested, numbers_after, ordered}
use Rattle.line_up.specs.LineUp.{unordered_at, sooner_at, places_bytes, least_room, line_refusal, LinedUp}

-- places from i on, one for each number before the first 0
unfoldable pub until_zero : ℕ → List ℕ → List ℕ
until_zero i [] = []
until_zero i (m ∷ ms) = cond (m == 0) [] (i ∷ until_zero (suc i) ms)

-- the places from `from` up to `to` before the first ordered one of them
abbrev pub behind : List ℕ → ℕ → ℕ → List ℕ
behind ms from to = until_zero from (slice from to ms)

-- where the run of place p ends, of runs that end at a, b and n
abbrev pub run_end : ℕ → ℕ → ℕ → ℕ → ℕ
run_end a b n p = cond (nat_lt p a) a (cond (nat_lt p b) b n)

-- each of the places, and behind it those that are not ordered, up to the end of its run
unfoldable pub each_behind : List ℕ → (ℕ → ℕ) → List ℕ → List ℕ
each_behind ms end [] = []
each_behind ms end (p ∷ ps) = (p ∷ behind ms (suc p) (end p)) ++ each_behind ms end ps

-- the places that have no ordered one before them in their run
unfoldable pub run_starts : List ℕ → ℕ → ℕ → List ℕ
run_starts ms a b = behind ms 0 a ++ (behind ms a b ++ behind ms b (length ms))

-- THE ORDER: with the ordered places in `line`
unfoldable pub line_order : List ℕ → ℕ → ℕ → List ℕ → List ℕ
line_order ms a b line = run_starts ms a b ++ each_behind ms (run_end a b (length ms)) line

-- ---- the call

-- the places of all stamps at the start of `out`, whose rest stays; the answer is how many are ordered
unfoldable pub order_written : List ℕ → ℕ → ℕ → List ℕ → List ℕ → LinedUp
order_written ms a b line out = record {
  answer = Outcome.answer (length line);
  numbers = ms;
  out = places_bytes (line_order ms a b line) ++ drop (4 * length ms) out;
}

unfoldable pub put_in_order : (ℕ → ℕ → Bool) → List ℕ → ℕ → ℕ → List ℕ → LinedUp
put_in_order lt ns a b out =
    order_written (numbers_after lt ns a b (length ns)) a b (ordered lt (numbers_after lt ns a b (length ns)) a b (length ns)) out

-- refused as the lining up is; with work areas of so many bytes
unfoldable pub lines_in_order : List ℕ → List ℕ → List ℕ → ℕ → ℕ → List ℕ → ℕ → ℕ → LinedUp
lines_in_order js ks ns first second out work1 work2 =
    cond (line_refusal (length js) (length ks) (length ns) first second (least_room (length out) work1 work2) == 0)
    (put_in_order (sooner_at js ks) (all_tested (unordered_at js ks) 0 ns) first (first + second) out)
    (record { answer = refusal (line_refusal (length js) (length ks) (length ns) first second (least_room (length out) work1 work2)); numbers = ns; out = out })
