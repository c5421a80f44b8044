-- The milliseconds that two stamps were made of. Written from the request: "a date made of a GPS week and millisecond, through GPS to TAI too, gives its own
-- millisecond". Assumes nothing.
use Rattle.std.specs.Prelude.{◌≡◌, ℕ, ◌+◌, ◌*◌, ◌^◌, ◌≤◌, ◌<◌}
use Rattle.refusals.specs.Outcome.{Outcome, answer, refusal}

-- milliseconds since 1980-01-06 0h GPS
abbrev pub week_millis : ℕ → ℕ → ℕ
week_millis week ms = 604800000 * week + ms

-- from millisecond T to millisecond T' there are T' - T, and 18 where that is not 0 to 2 ^ 40 - 1
pub data Own (T T' : ℕ) : Outcome ℕ → Type 0 where
  since : (r : ℕ) → r < 2 ^ 40 → T' ≡ T + r → Own T T' (answer r)
  before : T' < T → Own T T' (refusal 18)
  past : T + 2 ^ 40 ≤ T' → Own T T' (refusal 18)
