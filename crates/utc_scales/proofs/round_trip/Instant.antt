-- A worked case of one instant: 2017-01-01 0h UTC, which is 37 s later by TAI and 18 s later by GPS, stamped by three recorders in floats. It is one instant to
-- 2 ps, and the TAI dates agree to 12, 79 and 89 ps. Assumes nothing.
use mathlib.Core.Path.{◌≡◌, refl, sym, ◌∙◌, subst, subst₂}
use mathlib.Core.Bool.{false}
use mathlib.Core.Logic.{inl}
use Prim.Native.Nat.{ℕ, ◌+◌, ◌-◌, ◌*◌, ◌^◌, ◌≤◌}
use native.Mathlib.Omega.{arith}
use lib.IntN.{pos, negsuc}
use lib.Ieee.{Float, fin, fits, le, lt, eq}
use Rattle.refusals.specs.Outcome.{onward}
use Rattle.floats.specs.Whole.{abs, nought}
use Rattle.rounding.specs.Value.{Val, L}
use Rattle.rounding.proofs.Value.{L-pos}
use Rattle.julian.proofs.day_number.Units.{nought-L}
use Rattle.calendar.specs.Calendar.{date, date_of, leap_size, lengths, days_in_month}
use Rattle.calendar.specs.Refusals.{valid_date}
use Rattle.calendar.specs.DayCount.{mjd_of, mjd_number, civil_count}
use Rattle.calendar.proofs.Mjd.{date-of-mjd}
use Rattle.julian.specs.declared.JulianDate.{JulianDate}
use Rattle.julian.specs.JulianDate.{julian}
use Rattle.julian.specs.Worth.{Worth}
use Rattle.leap_table.specs.rows.Table.{fixed, reached, month_number}
use Rattle.scales.specs.laws.Ranges.{Practical}
use Rattle.rounding.specs.Picoseconds.{day_ps}
use Rattle.scales.specs.laws.Meaning.{Close, Means, tai_over_gps}
use Rattle.utc_scales.specs.round_trip.Ranges.{HalfDaySplit}
use Rattle.utc_scales.specs.round_trip.UtcDays.{H, seconds_on, leap_after, short_after, ExactDay}
use Rattle.utc_scales.specs.round_trip.Relation.{tai_over_utc}
use Rattle.utc_scales.specs.round_trip.Recorders.{OneInstant, Agree}
use Rattle.utc_scales.proofs.round_trip.Units.{L-H, in_units}
use Rattle.utc_scales.proofs.round_trip.Parts.{parts-joined}
use Rattle.utc_scales.proofs.round_trip.DaySeconds.{date-of}
use Rattle.utc_scales.proofs.round_trip.Cases.{seconds-of, thirty_seven}
use Rattle.utc_scales.proofs.round_trip.Recorders.{by_tai, three-recorders}

-- ---- the day: 37 s, and no leap second at its end
second-of-2017 : date_of (pos 2457756) ≡ date (pos 2017) 1 2
unfolding mjd_of mjd_number civil_count valid_date days_in_month lengths leap_size onward
second-of-2017 = sym (date-of 2457756 (omega arith)) ∙ date-of-mjd (pos 2017) (pos 1) (pos 2) (pos 57755) refl refl

still : seconds_on fixed 2457756 ≡ 37
unfolding fixed reached month_number
still = seconds-of 2457756 (date (pos 2017) 1 2) second-of-2017

no_leap : leap_after fixed 2457755 ≡ 0
unfolding leap_after
no_leap = (λ i. still i - thirty_seven i)

-- ---- the floats: 2457754.5, 37 / 86400 and 18 / 86400
abbrev midnight-2017 : Float
midnight-2017 = fin false 4915509 (negsuc 0)

abbrev thirty_seven_s : Float
thirty_seven_s = fin false 987455918297531 (negsuc 60)

abbrev eighteen_s : Float
eighteen_s = fin false 7686143364045647 (negsuc 64)

abbrev pub u : JulianDate
u = julian midnight-2017 nought

abbrev pub t : JulianDate
t = julian midnight-2017 thirty_seven_s

abbrev pub g : JulianDate
g = julian midnight-2017 eighteen_s

-- 2 ^ -65 day
unfoldable q : ℕ
q = 2 ^ 1009

L-q : L ≡ 36893488147419103232 * q
unfolding L q
L-q = refl

midnight-val : Val midnight-2017 (4915509 * H) 0 L
midnight-val = in_units 4915509 2 H L-H (record { sign = false; size = 4915509; has = (refl, refl); is = refl })

tai-val : Val thirty_seven_s (987455918297531 * (16 * q)) 0 L
tai-val = in_units 987455918297531 (2 ^ 61) (16 * q) (omega (arith, L-q)) (record { sign = false; size = 987455918297531; has = (refl, refl); is = refl })

gps-val : Val eighteen_s (7686143364045647 * q) 0 L
gps-val = in_units 7686143364045647 (2 ^ 65) q L-q (record { sign = false; size = 7686143364045647; has = (refl, refl); is = refl })

worth : {x : Float} {m : ℕ} → Val x m 0 L → Worth (julian midnight-2017 x) (4915509 * H + m) 0 L
worth v = parts-joined midnight-val v

on : ExactDay u 2457755
on = record { p = 4915509 * H + 0; m = 0; worth = worth nought-L; on = record { f = 0; below = L-pos; is = omega (arith, L-H) } }

in_split : HalfDaySplit u
unfolding fits le lt eq abs
in_split = record {
  held = (tt, tt);
  halves = 4915509;
  first = record { sign = false; size = 4915509; has = (refl, refl); is = refl };
  low = omega arith;
  high = omega arith;
  second = tt;
}

-- ---- in numbers: x is y + s seconds, to 2 q
picoseconds : (x y : ℕ) → x ≤ y + 100000 * q → day_ps * x ≤ day_ps * y + 1 * (86400 * L)
picoseconds x y k = omega (arith, L-q)

by_gps : Means 1 tai_over_gps g t
by_gps = record {
  p = 4915509 * H + 7686143364045647 * q;
  n = 0;
  p' = 4915509 * H + 987455918297531 * (16 * q);
  n' = 0;
  from = worth gps-val;
  to = worth tai-val;
  over = picoseconds _ _ (omega (arith, L-q));
  under = picoseconds _ _ (omega (arith, L-q));
}

none_out : short_after fixed 2457755 ≡ 0
unfolding short_after
none_out = (λ i. thirty_seven i - still i)

plain : Close 1 (86400 + 0 - 0) 86400 (37 * L + (0 * H + 0 * (2457755 * L))) (0 * (2457755 * L) + 0 * H) u t
plain = record {
  p = 4915509 * H + 0;
  n = 0;
  p' = 4915509 * H + 987455918297531 * (16 * q);
  n' = 0;
  from = worth nought-L;
  to = worth tai-val;
  over = picoseconds _ _ (omega (arith, L-q));
  under = picoseconds _ _ (omega (arith, L-q));
}

by_utc : Means 1 (tai_over_utc fixed 2457755) u t
by_utc =
    subst (λ (r : ℕ). Close 1 (86400 + leap_after fixed 2457755 - r) 86400 (seconds_on fixed 2457755 * L + (leap_after fixed 2457755 * H + r * (2457755 * L)))
    (leap_after fixed 2457755 * (2457755 * L) + r * H) u t) (sym none_out)
    (subst₂ (λ (D s : ℕ). Close 1 (86400 + s - 0) 86400 (D * L + (s * H + 0 * (2457755 * L))) (s * (2457755 * L) + 0 * H) u t) (sym thirty_seven)
    (sym no_leap) plain)

-- ---- THE CASE
pub new_year_2017 : OneInstant fixed 2 g t u
new_year_2017 = by_tai 2457755 1 on by_gps by_utc

in_range : Practical g
unfolding fits le lt eq abs
in_range = inl ((tt, tt), (tt, tt))

pub agreed : Agree fixed 2 g t u
agreed = three-recorders 2 g t in_range in_split new_year_2017
