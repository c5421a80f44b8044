-- The ranges of the distances are met at their ends: each theorem at a date, a year or a number of seconds of the largest size that it speaks of. Closed
-- theorems: a narrower range would leave them without a proof. Assumes nothing.
use mathlib.Core.Path.{refl}
use mathlib.Core.Bool.{false}
use Prim.Native.Nat.{ℕ, ◌*◌, ◌^◌}
use native.Mathlib.Omega.{arith}
use lib.Dec.{lit≤}
use lib.IntN.{pos}
use lib.Ieee.{Float, fin, round}
use Rattle.rounding.specs.Value.{Val, L}
use Rattle.rounding.proofs.Sizes.{whole_val}
use Rattle.constants.specs.Constants.{decimal}
use Rattle.julian.specs.JulianDate.{julian, add_days, add_seconds}
use Rattle.julian.specs.JulianYear.{to_julian_year, from_julian_year}
use Rattle.julian.specs.laws.Distances.{UpTo, HalfDays, LaterBy, DifferenceNear, YearOf, DateOfYear}
use Rattle.julian.proofs.laws.JulianYears.{julian-year-near, year-date-near}
use Rattle.julian.proofs.laws.AddSeconds.{add_days_near, add_seconds_near, add_many_seconds_near}
use Rattle.julian.proofs.laws.Differences.{difference-near, difference-short}

-- ---- the floats

whole-up-to : (K : ℕ) {x : Float} → Val x K 0 1 → UpTo K x
whole-up-to K v = record { p = K * L; n = 0 * L; val = whole_val v; high = omega arith; low = omega arith }

one-day : UpTo 1 (decimal 1 0)
unfolding round
one-day = whole-up-to 1 (record { sign = false; size = 1; has = (refl, refl); is = refl })

many-years : UpTo 8000000 (decimal 8000000 0)
unfolding round
many-years = whole-up-to 8000000 (record { sign = false; size = 8000000; has = (refl, refl); is = refl })

year-20000 : UpTo 20000 (decimal 20000 0)
unfolding round
year-20000 = whole-up-to 20000 (record { sign = false; size = 20000; has = (refl, refl); is = refl })

day-of-seconds : UpTo 86400 (decimal 86400 0)
unfolding round
day-of-seconds = whole-up-to 86400 (record { sign = false; size = 86400; has = (refl, refl); is = refl })

billion : UpTo 1000000000 (decimal 1000000000 0)
unfolding round
billion = whole-up-to 1000000000 (record { sign = false; size = 1000000000; has = (refl, refl); is = refl })

-- 2 ^ 50 and 2 ^ 49 days
abbrev pub far_midnight : Float
far_midnight = fin false 1 (pos 50)

abbrev pub far_days : Float
far_days = fin false 1 (pos 49)

half-days : HalfDays (2 ^ 50) far_midnight
half-days = record { p = 2 ^ 51; n = 0; val = record { sign = false; size = 2 ^ 51; has = (refl, refl); is = refl }; high = lit≤ tt; low = lit≤ tt }

far : UpTo (2 ^ 49) far_days
far = whole-up-to (2 ^ 49) (record { sign = false; size = 2 ^ 49; has = (refl, refl); is = refl })

-- ---- the theorems there

pub year-at-the-end : YearOf 15 (julian (decimal 8000000 0) (decimal 8000000 0)) (to_julian_year (julian (decimal 8000000 0) (decimal 8000000 0)))
year-at-the-end = julian-year-near (julian (decimal 8000000 0) (decimal 8000000 0)) many-years many-years

pub date-of-year-20000 : DateOfYear 138000000 (decimal 20000 0) (from_julian_year (decimal 20000 0))
date-of-year-20000 = year-date-near (decimal 20000 0) year-20000

pub difference-at-the-end : DifferenceNear 161000000 (julian (decimal 8000000 0) (decimal 1 0)) (julian (decimal 8000000 0) (decimal 1 0))
difference-at-the-end = difference-near (julian (decimal 8000000 0) (decimal 1 0)) (julian (decimal 8000000 0) (decimal 1 0)) many-years one-day many-years
    one-day

pub short-at-the-end : DifferenceNear 39 (julian far_midnight (decimal 1 0)) (julian far_midnight (decimal 1 0))
unfolding half-days
short-at-the-end = difference-short (julian far_midnight (decimal 1 0)) (julian far_midnight (decimal 1 0)) half-days one-day half-days one-day (lit≤ tt)
    (lit≤ tt)

pub days-at-the-end : LaterBy 29 (2 ^ 49 * L) (0 * L) 1 (julian far_midnight (decimal 1 0)) (add_days (julian far_midnight (decimal 1 0)) far_days)
unfolding far whole-up-to
days-at-the-end = add_days_near (julian far_midnight (decimal 1 0)) far_days half-days one-day far

pub seconds-at-the-end : LaterBy 39 (86400 * L) (0 * L) 86400 (julian far_midnight (decimal 1 0))
    (add_seconds (julian far_midnight (decimal 1 0)) (decimal 86400 0))
unfolding day-of-seconds whole-up-to
seconds-at-the-end = add_seconds_near (julian far_midnight (decimal 1 0)) (decimal 86400 0) half-days one-day day-of-seconds

pub billion_at_the_end : LaterBy 78610 (1000000000 * L) (0 * L) 86400 (julian far_midnight (decimal 1 0))
    (add_seconds (julian far_midnight (decimal 1 0)) (decimal 1000000000 0))
unfolding billion whole-up-to
billion_at_the_end = add_many_seconds_near (julian far_midnight (decimal 1 0)) (decimal 1000000000 0) half-days one-day billion
