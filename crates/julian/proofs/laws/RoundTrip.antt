-- A date to its Julian date and back: every valid date whose midnight is at most Julian date 10^9 comes back the same, with the fraction exactly +0.0. Assumes
-- nothing.
use mathlib.Core.Path.{◌≡◌, refl, sym, ap, ◌∙◌, subst}
use Prim.Native.Nat.{ℕ, ◌+◌, ◌*◌, ◌^◌, ◌≤◌, ◌<◌}
use native.Mathlib.Omega.{arith}
use mathlib.Core.Bool.{true, false}
use mathlib.Core.Logic.{◌⊎◌, inl, inr}
use lib.Dec.{T, lit<}
use lib.IntN.{ℤ, pos, negsuc, nat_abs, ◌+ℤ◌, ◌-ℤ◌}
use lib.Signed.{lt_z, le_z, mag}
use lib.Ieee.{Float, binary64, round, of_int, add, mul, div, lt, eq, le, fits}
use lib.Ieee.Fits.{round-fits, add-fits}
use borrow.Author.Tests.{leb-true}
use Rattle.refusals.specs.Outcome.{answer, onward}
use Rattle.floats.specs.Whole.{nought}
use Rattle.rounding.specs.Value.{Val}
use Rattle.rounding.proofs.Value.{val-move, val-scale}
use Rattle.rounding.proofs.Casts.{plus_z, minus_z, one_side, add_pair, sub_pair, pair_le}
use Rattle.constants.specs.Constants.{mjd_zero_point, seconds_per_day}
use Rattle.calendar.specs.declared.CalendarDate.{CalendarDate}
use Rattle.calendar.specs.Calendar.{date}
use Rattle.calendar.specs.Gregorian.{gregorian_date}
use Rattle.calendar.specs.DayCount.{civil_count, mjd_number, mjd_of}
use Rattle.calendar.proofs.Mjd.{date-of-mjd}
use Rattle.julian.specs.day_number.ExactDay.{OnGrid, grid_sum, GridSumInRange, exact_day_number, fraction_of, DayAt}
use Rattle.julian.proofs.day_number.ExactDay.{only, exact}
use Rattle.julian.proofs.day_number.Ends.{nought-fits}
use Rattle.julian.specs.JulianDate.{rounded_sum}
use Rattle.julian.specs.DayFraction.{day_fraction, time_in_day, second_limit}
use Rattle.julian.specs.Calendar.{fields, calendar_to_julian, at_time, from_calendar, julian_to_calendar}
use Rattle.julian.proofs.Integers.{integer_val, integer_fits}
use Rattle.julian.proofs.Midnights.{midnight-answered, midnight-given, zero_point_val, midnight-sum}
use Rattle.julian.proofs.laws.CalendarDays.{fields-of, not_above}

-- ---- parts on the grid: a float worth (p - n) / 2^52, both small

record Placed (x : Float) (p n : ℕ) : Type 0 where
  grid : OnGrid x
  units : plus_z grid.units + n ≡ p + minus_z grid.units

placed : {x : Float} {p n : ℕ} → Val x p n (2 ^ 52) → p < 2 ^ 104 → n < 2 ^ 104 → Placed x p n
placed {x} {p} {n} v h k =
    let e = sub_pair (pos p) (pos n) in
    let b = pair_le (pos p -ℤ pos n) p n (omega (arith, e)) in
    record {
      grid = record { units = pos p -ℤ pos n; val = val-move v (omega (arith, e)); high = omega (arith, b.0); low = omega (arith, b.1) };
      units = omega (arith, e);
    }

-- ---- a Julian date that is worth n + 2400000.5 days: the midnight of MJD n

abbrev Midnight : ℤ → ℤ → Type 0
Midnight n sum = plus_z sum + minus_z n * 2 ^ 52 ≡ minus_z sum + 4800001 * 2 ^ 51 + plus_z n * 2 ^ 52

day-at : (n sum : ℤ) → Midnight n sum → DayAt sum (n +ℤ pos 2400001) 0
day-at n sum e = record { below = lit< tt; total = omega (arith, e, add_pair n (pos 2400001)) }

in_range : (n sum : ℤ) → plus_z n ≤ 997599999 → minus_z n ≤ 2432076 → Midnight n sum → GridSumInRange sum
in_range n sum high low e = go (one_side sum)
  where
    go : (plus_z sum ≡ 0) ⊎ (minus_z sum ≡ 0) → GridSumInRange sum
    go (inl h) = record { low = omega arith; high = omega arith }
    go (inr h) = record { low = omega arith; high = omega arith }

module _ (x y : Float) (fx : T (fits binary64 x)) (fy : T (fits binary64 y)) (a : OnGrid x) (b : OnGrid y) (n : ℤ) (high : plus_z n ≤ 997599999)
    (low : minus_z n ≤ 2432076) (e : Midnight n (grid_sum a b)) where
  back : julian_to_calendar x y ≡ answer (fields (gregorian_date (n +ℤ pos 2400001)) nought)
  unfolding fraction_of round
  back =
      let o = only (day-at n (grid_sum a b) e) in
      fields-of x y (exact_day_number (grid_sum a b)) (exact x y fx fy a b (in_range n (grid_sum a b) high low e))
      ∙ sym (λ i. answer (fields (gregorian_date (o.0 i)) (fraction_of (o.1 i))))

-- ---- the two parts of `calendar_to_julian`

zero_point_fits : T (fits binary64 mjd_zero_point)
unfolding mjd_zero_point
zero_point_fits = round-fits binary64 false 24000005 (10 ^ 1)

mag_small : (n : ℤ) → plus_z n ≤ 997599999 → minus_z n ≤ 2432076 → mag n < 2 ^ 42
mag_small (pos n) h k = omega arith
mag_small (negsuc n) h k = omega arith

module _ (n : ℤ) (high : plus_z n ≤ 997599999) (low : minus_z n ≤ 2432076) where
  zero_point_placed : Placed mjd_zero_point (4800001 * 2 ^ 51) 0
  zero_point_placed = placed (val-scale (2 ^ 51) zero_point_val) (lit< tt) (lit< tt)

  int_placed : Placed (of_int binary64 n) (plus_z n * 2 ^ 52) (minus_z n * 2 ^ 52)
  int_placed = placed (val-scale (2 ^ 52) (integer_val n (omega (arith, mag_small n high low)))) (omega arith) (omega arith)

  parts-back : julian_to_calendar mjd_zero_point (of_int binary64 n) ≡ answer (fields (gregorian_date (n +ℤ pos 2400001)) nought)
  parts-back =
      let a = zero_point_placed in
      let b = int_placed in
      back mjd_zero_point (of_int binary64 n) zero_point_fits (integer_fits n) a.grid b.grid n high low
      (omega (arith, add_pair a.grid.units b.grid.units, a.units, b.units))

  -- ---- and the one of `from_calendar`, which has their sum in its first part

  sum-placed : Placed (add binary64 mjd_zero_point (of_int binary64 n)) ((4800001 + plus_z n * 2) * 2 ^ 51) (minus_z n * 2 * 2 ^ 51)
  sum-placed = placed (val-scale (2 ^ 51) (midnight-sum n (mag_small n high low))) (omega arith) (omega arith)

  nought-placed : Placed nought 0 0
  nought-placed = placed (record { sign = false; size = 0; has = (refl, refl); is = refl }) (lit< tt) (lit< tt)

  sum_back : julian_to_calendar (add binary64 mjd_zero_point (of_int binary64 n)) nought ≡ answer (fields (gregorian_date (n +ℤ pos 2400001)) nought)
  sum_back =
      let a = sum-placed in
      let b = nought-placed in
      back (add binary64 mjd_zero_point (of_int binary64 n)) nought (add-fits binary64 mjd_zero_point (of_int binary64 n)) nought-fits a.grid b.grid n high low
      (omega (arith, add_pair a.grid.units b.grid.units, a.units, b.units))

-- ---- the size of the Modified Julian Date of a valid date

mjd-low : (y m d n : ℤ) → mjd_of y m d ≡ answer n → minus_z n ≤ 2432076
unfolding mjd_number
mjd-low y m d n e =
    let a = midnight-answered y m d n e in
    let c = civil_count (nat_abs (y +ℤ pos 4800)) (nat_abs m) (nat_abs d) in
    subst (λ (z : ℤ). minus_z z ≤ 2432076) (sym a.is) (pair_le (pos c -ℤ pos 2432076) c 2432076 (omega (arith, sub_pair (pos c) (pos 2432076)))).1

-- the midnight of MJD n is n + 2400000.5, which is at most 10^9 where n is at most 997599999
mjd-high : (n : ℤ) → le_z n (pos 997599999) ≡ true → plus_z n ≤ 997599999
mjd-high (pos n) h = leb-true n 997599999 h
mjd-high (negsuc n) h = omega arith

not_past : (n : ℤ) → plus_z n ≤ 997599999 → lt_z (pos 1000000000) (n +ℤ pos 2400001) ≡ false
not_past n h =
    let b = pair_le (n +ℤ pos 2400001) (plus_z n + 2400001) (minus_z n) (omega (arith, add_pair n (pos 2400001))) in
    not_above (n +ℤ pos 2400001) (omega (arith, b.0))

-- ---- DEMAND 2: there and back

pub round_trip : (y m d n : ℤ) → mjd_of y m d ≡ answer n → le_z n (pos 997599999) ≡ true
    → onward (calendar_to_julian y m d) (λ j. julian_to_calendar j.jd1 j.jd2) ≡ answer (fields (date y (nat_abs m) (nat_abs d)) nought)
unfolding onward
round_trip y m d n e h =
    let p = mjd-high n h in
    let q = mjd-low y m d n e in
    rw (midnight-given y m d n e) (parts-back n p q ∙ ap (λ (t : CalendarDate). answer (fields t nought)) (date-of-mjd y m d n e (not_past n p)))

-- the same through `from_calendar` at 0h, whose fraction is 0.0
pub midnight-fraction : day_fraction 0 0 nought nought ≡ answer nought
unfolding day_fraction time_in_day second_limit seconds_per_day of_int round add mul div lt le eq
midnight-fraction = refl

pub round_trip_at_midnight : (y : ℤ) (m d : ℕ) (n : ℤ) → mjd_of y (pos m) (pos d) ≡ answer n → le_z n (pos 997599999) ≡ true
    → onward (from_calendar y m d 0 0 nought) (λ j. julian_to_calendar j.jd1 j.jd2) ≡ answer (fields (date y m d) nought)
unfolding from_calendar at_time rounded_sum onward
round_trip_at_midnight y m d n e h =
    let p = mjd-high n h in
    let q = mjd-low y (pos m) (pos d) n e in
    rw (midnight-given y (pos m) (pos d) n e, midnight-fraction)
    (sum_back n p q ∙ ap (λ (t : CalendarDate). answer (fields t nought)) (date-of-mjd y (pos m) (pos d) n e (not_past n p)))
