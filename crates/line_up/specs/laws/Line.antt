-- The line of three runs, where the call is not refused. Assumes nothing.
use Rattle.std.specs.Prelude.{◌≡◌, List, ℕ, length}
use Rattle.line_up.specs.LineUp.{least_room, line_refusal, lined_up}
use Rattle.line_up.specs.laws.Claims.{Lined}

abbrev pub LineRight : List ℕ → List ℕ → List ℕ → ℕ → ℕ → List ℕ → ℕ → ℕ → Type 0
LineRight js ks ns first second out tails ranks =
    line_refusal (length js) (length ks) (length ns) first second (least_room (length out) tails ranks) ≡ 0
    → Lined js ks ns first second out (lined_up js ks ns first second out tails ranks)
