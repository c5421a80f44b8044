-- Passes that no call refuses, and a result against the exact line. Written from document 02, item 10. Assumes nothing.
use Rattle.std.specs.Prelude.{ℕ, ◌+◌, ◌-◌, ◌*◌, ◌≤◌, ◌<◌}
use Rattle.ticks.specs.Passes.{Passes}

-- 2 to 2,000 passes that rise strictly in both, with numbers below 2^40
pub record Sound (p : Passes) : Type 0 where
  pub two : 2 ≤ p.size
  pub most : p.size ≤ 2000
  pub ticks_rise : (i : ℕ) → i + 1 < p.size → p.tick i < p.tick (i + 1)
  pub millis-rise : (i : ℕ) → i + 1 < p.size → p.milli i < p.milli (i + 1)
  pub ticks_small : (i : ℕ) → i < p.size → p.tick i < 0x100_0000_0000
  pub millis_small : (i : ℕ) → i < p.size → p.milli i < 0x100_0000_0000

-- the tick lies from the first pass to the last
pub record Inside (p : Passes) (t : ℕ) : Type 0 where
  pub low : p.tick 0 ≤ t
  pub high : t ≤ p.tick (p.size - 1)

-- The passes j and j + 1 hold tick t, and r is at most the exact line there and less than 1 ms below it. With d ticks between the passes, the line is at (milli
-- j * d + (t - tick j) * (milli (j + 1) - milli j)) / d, a fraction: r * d is at most the dividend and (r + 1) * d above it. And r lies between their
-- milliseconds.
abbrev pub line_rise : Passes → ℕ → ℕ → ℕ
line_rise p j t = (t - p.tick j) * (p.milli (j + 1) - p.milli j)

abbrev pub ticks_between : Passes → ℕ → ℕ
ticks_between p j = p.tick (j + 1) - p.tick j

pub record JustBelow (p : Passes) (t r : ℕ) : Type 0 where
  pub j : ℕ
  pub next : j + 1 < p.size
  pub from : p.tick j ≤ t
  pub to : t ≤ p.tick (j + 1)
  pub not_above : r * ticks_between p j ≤ p.milli j * ticks_between p j + line_rise p j t
  pub less_than_one : p.milli j * ticks_between p j + line_rise p j t < (r + 1) * ticks_between p j
  pub least : p.milli j ≤ r
  pub most : r ≤ p.milli (j + 1)
  pub small : r < 0x100_0000_0000
