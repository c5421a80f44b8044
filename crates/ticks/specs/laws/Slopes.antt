-- Passes that are nowhere steeper than so many millimetres a millisecond, and a place against the exact line at an exact time: the error over both steps, where
-- a stamp has been rounded to a whole millisecond and the millisecond is placed. Written from the customer's words ("exact at a pass, never backwards, less
-- than 1 mm below the line") and docs/PROMISES.md, Places. Fractions are multiplied out: time a / d, a distance of e / d milliseconds and a slope of
-- rise / run. Assumes nothing.
use Rattle.std.specs.Prelude.{ℕ, ◌+◌, ◌-◌, ◌*◌, ◌≤◌, ◌<◌, ◌≡◌, List, Result, Ok}
use Rattle.refusals.specs.declared.Refusal.{Refusal}
use Rattle.ticks.specs.Passes.{Passes}
use Rattle.ticks.specs.judging.Refusing.{number_at}
use Rattle.ticks.specs.Ticks.{passes_of}
use Rattle.ticks.specs.laws.Sound.{ticks_between}
use Rattle.ticks.specs.laws.Readings.{IsPlaced}

-- the millimetres between pass j and the next
abbrev pub millis_rise : Passes → ℕ → ℕ
millis_rise p j = p.milli (j + 1) - p.milli j

-- from each pass to the next at most rise / run millimetres a millisecond
pub record SlopeAtMost (p : Passes) (rise run : ℕ) : Type 0 where
  pub some : 0 < run
  pub each : (j : ℕ) → j + 1 < p.size → millis_rise p j * run ≤ rise * ticks_between p j

-- time a / d lies from pass j to the next
pub record TimeBetween (p : Passes) (a d j : ℕ) : Type 0 where
  pub next : j + 1 < p.size
  pub from : p.tick j * d ≤ a
  pub to : a ≤ p.tick (j + 1) * d

-- the whole millisecond t is at most e / d from time a / d
pub record NearTime (t a d e : ℕ) : Type 0 where
  pub not_late : t * d ≤ a + e
  pub not_early : a ≤ t * d + e

-- the exact line at time a / d, between pass j and the next, is at line_dividend / line_divisor
abbrev pub line_divisor : Passes → ℕ → ℕ → ℕ
line_divisor p j d = d * ticks_between p j

abbrev pub line_dividend : Passes → ℕ → ℕ → ℕ → ℕ
line_dividend p j a d = p.milli j * line_divisor p j d + (a - p.tick j * d) * millis_rise p j

-- place r is at most e / d * rise / run above the exact line at time a / d, and less than 1 more below it: both sides are multiplied by line_divisor and run
pub record NearExact (p : Passes) (rise run a d e j r : ℕ) : Type 0 where
  pub not_above : r * line_divisor p j d * run ≤ line_dividend p j a d * run + e * (rise * ticks_between p j)
  pub not_below : line_dividend p j a d * run < (r + 1) * line_divisor p j d * run + e * (rise * ticks_between p j)

-- Over both steps, for the places of a call: reading i, whose stamp is at time a / d and whose millisecond is at most e / d from it, has a place near the exact
-- line at that time; and of two readings the later's place is less than 1 mm and the slope times the milliseconds between them further.
pub record ReadingsNear (ps ls ms ns' after : List ℕ) (rise run : ℕ) : Type 0 where
  pub each : (i : ℕ) → IsPlaced ms ns' i → (a d e j : ℕ) → 0 < d → TimeBetween (passes_of ps ls) a d j → NearTime (number_at ms i) a d e
      → NearExact (passes_of ps ls) rise run a d e j (number_at after i)
  pub two : (i i' : ℕ) → IsPlaced ms ns' i → IsPlaced ms ns' i' → number_at ms i ≤ number_at ms i'
      → number_at after i' * run + rise * number_at ms i < (number_at after i + 1) * run + rise * number_at ms i'

-- that, of a call that is answered, by passes nowhere steeper than rise / run
abbrev pub NearOverBoth : List ℕ → List ℕ → List ℕ → Result ℕ Refusal → List ℕ → List ℕ → Type 0
NearOverBoth ps ls ms r ns' after = (n : ℕ) → r ≡ Ok n → (rise run : ℕ) → SlopeAtMost (passes_of ps ls) rise run
    → ReadingsNear ps ls ms ns' after rise run
