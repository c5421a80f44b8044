-- The ranges of dates and offsets that the theorems speak of, each as a test on floats, and what it is for an outcome to be a finite date. Written from
-- demand 1; `Practical`, `Modified` and `HalfDay` are this project's own. Assumes nothing.
use Rattle.std.specs.Prelude.{◌≡◌, ℕ, true, false, T, ◌⊎◌, pos, Float}
use Rattle.std.specs.Float.{fin, binary64}
use Rattle.std.specs.Float.Ieee.{fits, le}
use Rattle.std.specs.Float.Ieee.Scale.{finite}
use Rattle.floats.specs.Whole.{abs}
use Rattle.constants.specs.Constants.{decimal}
use Rattle.refusals.specs.Outcome.{Outcome, answer, refusal}
use Rattle.julian.specs.declared.JulianDate.{JulianDate}

-- an f64 at most c in size
abbrev pub AtMost : Float → Float → Type 0
AtMost c x = T (fits binary64 x) × T (le (abs x) c)

-- both parts are f64's, as those of every date that the code holds
abbrev pub Held : JulianDate → Type 0
Held d = T (fits binary64 d.jd1) × T (fits binary64 d.jd2)

-- 2 ^ k
abbrev pub power : ℕ → Float
power k = fin false 1 (pos k)

-- demand 1's range of an offset: at most 10 ^ 9 seconds in size
abbrev pub Billion : Float → Type 0
Billion s = AtMost (decimal 1000000000 0) s

-- one part is at most 2 ^ 23 days in size and the other at most 1 day: the years -27000 to 18000, split at a day
abbrev pub Practical : JulianDate → Type 0
Practical d = (AtMost (power 23) d.jd1 × AtMost (power 0) d.jd2) ⊎ (AtMost (power 0) d.jd1 × AtMost (power 23) d.jd2)

-- one part is at most 2 ^ 23 days in size and the other at most 2 ^ 17 - 1 days: the split of document 01's stamps at 2400000.5, to MJD 131071 in the year
-- 2217. At 2 ^ 17 days a unit in the last place is twice as long, so that day is left out.
abbrev pub Modified : JulianDate → Type 0
Modified d = (AtMost (power 23) d.jd1 × AtMost (decimal 131071 0) d.jd2) ⊎ (AtMost (decimal 131071 0) d.jd1 × AtMost (power 23) d.jd2)

-- at most half a day, in seconds
abbrev pub HalfDay : Float → Type 0
HalfDay s = AtMost (decimal 43200 0) s

-- both parts of a date are finite: the fact that the test `finite_parts` of `julian` finds
abbrev pub FiniteParts : JulianDate → Type 0
FiniteParts d = (finite d.jd1 ≡ true) × (finite d.jd2 ≡ true)

-- a date, both parts of it finite
abbrev pub FiniteDate : Outcome JulianDate → Type 0
FiniteDate (answer d) = FiniteParts d
FiniteDate (refusal n) = ⊥
