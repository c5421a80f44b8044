-- The marker passes of a run, and a tick between them. Written from document 02, item 10. Assumes nothing.
use Rattle.std.specs.Prelude.{ℕ, zero, suc, ◌+◌, ◌-◌, ◌≤◌, ◌<◌, ◌≡◌, cond, leb}
use Rattle.ticks.specs.Line.{line_at}

-- pass i, from 0 up to size - 1, has tick number `tick i` and TAI millisecond `milli i`
pub record Passes : Type 0 where
  pub size : ℕ
  pub tick : ℕ → ℕ
  pub milli : ℕ → ℕ

-- the last of the passes 0 to k that is not after tick t; 0 where there is none
unfoldable pub last_not_after : (ℕ → ℕ) → ℕ → ℕ → ℕ
last_not_after tick t zero = zero
last_not_after tick t (suc k) = cond (leb (tick (suc k)) t) (suc k) (last_not_after tick t k)

-- the millisecond of tick t on the line between the passes j and j + 1
abbrev pub millis_between : Passes → ℕ → ℕ → ℕ
millis_between p j t = line_at (p.tick j) (p.milli j) (p.tick (j + 1)) (p.milli (j + 1)) t

-- The millisecond of tick t: on the line from the last pass, of all but the very last, that is not after it, to the next. Any other two neighbours that hold
-- the tick give the same (`on_line`).
unfoldable pub millis_at : Passes → ℕ → ℕ
millis_at p t = millis_between p (last_not_after p.tick t (p.size - 2)) t

-- r is the millisecond of tick t by some two neighbours that hold it
pub record OnSomeLine (p : Passes) (t r : ℕ) : Type 0 where
  pub j : ℕ
  pub next : j + 1 < p.size
  pub from : p.tick j ≤ t
  pub to : t ≤ p.tick (j + 1)
  pub is : r ≡ millis_between p j t
