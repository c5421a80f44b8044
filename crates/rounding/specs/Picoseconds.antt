-- A float of days that is within so many picoseconds of an exact fraction of days. A day is 86400 * 10 ^ 12 ps. Assumes nothing.
use Rattle.std.specs.Prelude.{ℕ, ◌+◌, ◌*◌, ◌≤◌, Float}
use Rattle.rounding.specs.Value.{Val, L}

-- the picoseconds of a day
abbrev pub day_ps : ℕ
day_ps = 86400000000000000

-- x is within ps picoseconds of (P - N) / D days
pub record Within (ps : ℕ) (x : Float) (P N D : ℕ) : Type 0 where
  pub p : ℕ
  pub n : ℕ
  pub val : Val x p n L
  pub over : day_ps * (p * D + N * L) ≤ day_ps * (n * D + P * L) + ps * (L * D)
  pub under : day_ps * (n * D + P * L) ≤ day_ps * (p * D + N * L) + ps * (L * D)
