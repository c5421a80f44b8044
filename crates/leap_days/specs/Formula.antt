-- How near a float is to the exact formula of a row that drifts. Written from the IERS table: TAI-UTC is units times 10^-7 s, and more by rate times 10^-10 s
-- for each day since the row's start. Assumes nothing.
use Rattle.std.specs.Prelude.{ℕ, ◌+◌, ◌*◌, ◌^◌, ◌≤◌, Float}
use Rattle.rounding.specs.Value.{Val, L}
use Rattle.leap_table.specs.rows.Table.{Row}

-- x is within 10^-12 s of the formula at MJD j and the fraction f of its day: with f = (q - m) / L and x = (p - n) / L, both sides times 10^12 times 10^10 L
pub record NearFormula (r : Row) (j : ℕ) (f x : Float) : Type 0 where
  pub q : ℕ
  pub m : ℕ
  pub fraction : Val f q m L
  pub p : ℕ
  pub n : ℕ
  pub offset : Val x p n L
  pub over : 10 ^ 12 * (p * 10 ^ 10 + (m + r.start * L) * r.rate) ≤ 10 ^ 12 * (n * 10 ^ 10 + (r.units * (1000 * L) + (j * L + q) * r.rate)) + 10 ^ 10 * L
  pub under : 10 ^ 12 * (n * 10 ^ 10 + (r.units * (1000 * L) + (j * L + q) * r.rate)) ≤ 10 ^ 12 * (p * 10 ^ 10 + (m + r.start * L) * r.rate) + 10 ^ 10 * L
