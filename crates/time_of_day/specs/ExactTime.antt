-- The exact time of day and the time shown, by whole numbers. Written from document 01, "UTC text". A float's value is a fraction:
-- `Val x p n d` says x = (p - n) / d. Assumes nothing.
use Rattle.std.specs.Prelude.{◌≡◌, ℕ, ◌+◌, ◌*◌, ◌≤◌, ◌<◌, false, T, negsuc, Float}
use Rattle.std.specs.Float.{fin, binary64}
use Rattle.std.specs.Float.Ieee.{of_bits, lt}
use Rattle.floats.specs.Whole.{abs, nought, half, one}
use Rattle.rounding.specs.Value.{Val}
use Rattle.time_of_day.specs.declared.TimeOfDay.{TimeOfDay}
use Rattle.time_of_day.specs.declared.TimeShown.{TimeShown}
use Rattle.time_of_day.specs.declared.TimeShown.TheVariants.{At, NextMidnight}
use Rattle.time_of_day.specs.Milliseconds.{whole_leap}

-- -1.0
abbrev pub minus_one_f : Float
minus_one_f = of_bits binary64 0xbff0_0000_0000_0000

-- the leap at the end of 1959-12-31, where the table of TAI-UTC begins: 0.9434819999999999, bits 0x3fee310129cbab64
abbrev pub leap1959 : Float
leap1959 = fin false 2124532591815385 (negsuc 50)

-- the leaps that a text is shown for: of half a second at most in size, of a second, that of 1959-12-31, and of a second less, which announced rows alone have
pub data Leap : Float → Type 0 where
  little : {x : Float} → lt half (abs x) ≡ false → Leap x
  second : Leap one
  first : Leap leap1959
  minus_second : Leap minus_one_f

-- document 01's day length is W / E seconds: 86,400 plus the leap that counts, (p - n) / E
pub record DayLength (leap : Float) (W E : ℕ) : Type 0 where
  pub p : ℕ
  pub n : ℕ
  pub leap_is : Val (whole_leap leap) p n E
  pub is : W + n ≡ 86400 * E + p

-- Document 01's exact time of day, "the exact fraction × the day length": of the fraction F / D and a day of W / E seconds it is F * W / (D * E) seconds. This
-- is what stands over D * E
abbrev pub exact_time : ℕ → ℕ → ℕ
exact_time F W = F * W

-- the milliseconds that a time's fields stand for
abbrev pub time_ms : TimeOfDay → ℕ
time_ms t = 3600000 * t.hour + 60000 * t.minute + 1000 * t.second + t.milli

-- Document 01's time shown, in milliseconds of a day of W / E seconds, times E: "where the text is the next day's midnight, it is the day length"
unfoldable pub shown_ms : TimeShown → ℕ → ℕ → ℕ
shown_ms (At t) W E = time_ms t * E
shown_ms NextMidnight W E = 1000 * W

-- s / E milliseconds are within e / c milliseconds of the exact time of the fraction F / D of a day of W / E seconds. Both sides are taken times c * D * E
pub record TimeWithin (c e s F D W E : ℕ) : Type 0 where
  pub over : c * (s * D) ≤ c * (1000 * exact_time F W) + e * (D * E)
  pub under : c * (1000 * exact_time F W) ≤ c * (s * D) + e * (D * E)

-- The fields are a time of day's. Second 60 is only in the last minute of a day that the leap makes longer; on a day that it makes shorter the last minute ends
-- below 59 s
pub record GoodTime (t : TimeOfDay) (leap : Float) : Type 0 where
  pub hour : t.hour ≤ 23
  pub minute : t.minute ≤ 59
  pub second : t.second ≤ 60
  pub milli : t.milli ≤ 999
  pub sixty : t.second ≡ 60 → (t.hour ≡ 23) × (t.minute ≡ 59) × T (lt nought leap)
  pub shorter : T (lt leap nought) → t.hour ≡ 23 → t.minute ≡ 59 → t.second ≤ 58

unfoldable pub Good : TimeShown → Float → Type 0
Good (At t) leap = GoodTime t leap
Good NextMidnight leap = Unit

-- What is shown has good fields, and is within e / c milliseconds of F / D of the day, whatever fraction W / E the day length is written as
pub record ShownWithin (c e F D : ℕ) (leap : Float) (r : TimeShown) : Type 0 where
  pub good : Good r (whole_leap leap)
  pub near : (W E : ℕ) → 0 < E → DayLength leap W E → TimeWithin c e (shown_ms r W E) F D W E

-- What is shown has good fields, and is within 0.501 ms, and even within 1 / 2 + 2 ^ -24 ms, of the exact time of day, whatever fractions F / D and W / E the
-- fraction and the day length are written as
pub record ShownRight (fraction leap : Float) (r : TimeShown) : Type 0 where
  pub good : Good r (whole_leap leap)
  pub near : (F D W E : ℕ) → 0 < D → 0 < E → Val fraction F 0 D → DayLength leap W E → TimeWithin 1000 501 (shown_ms r W E) F D W E
  pub nearer : (F D W E : ℕ) → 0 < D → 0 < E → Val fraction F 0 D → DayLength leap W E → TimeWithin 16777216 8388609 (shown_ms r W E) F D W E
