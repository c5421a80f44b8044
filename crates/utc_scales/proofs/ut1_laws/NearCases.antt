-- A date about a leap second: (2457753.5, 0.25), 6h UT1 of 2016-12-31. The scan finds the leap second at the end of that day on its third day. Assumes nothing.
use mathlib.Core.Path.{◌≡◌, refl, sym, ap, ◌∙◌, subst}
use mathlib.Core.Bool.{false}
use Prim.Native.Nat.{ℕ, zero, suc, ◌+◌, ◌*◌, ◌^◌, ◌≤◌, ◌<◌}
use native.Mathlib.Nat.{lt_of_mul-lt-mul_right, add-mul}
use native.Mathlib.Omega.{arith}
use lib.Dec.{lit≤}
use lib.IntN.{ℤ, pos, negsuc}
use lib.Ieee.{Float, fin, fits}
use Rattle.refusals.specs.Outcome.{onward}
use Rattle.rounding.specs.Value.{Val, L, plus_z, minus_z}
use Rattle.rounding.proofs.Value.{L-pos}
use Rattle.calendar.specs.Calendar.{date, date_of, leap_size, lengths, days_in_month}
use Rattle.calendar.specs.Refusals.{valid_date}
use Rattle.calendar.specs.DayCount.{mjd_of, mjd_number, civil_count}
use Rattle.calendar.proofs.Mjd.{date-of-mjd}
use Rattle.julian.specs.JulianDate.{julian}
use Rattle.leap_table.specs.rows.Table.{fixed, reached, month_number}
use Rattle.utc_scales.specs.round_trip.UtcDays.{H, seconds_on}
use Rattle.utc_scales.specs.ut1_laws.Back.{FoundWith}
use Rattle.utc_scales.specs.ut1_laws.Near.{LeapFound}
use Rattle.utc_scales.proofs.round_trip.Units.{h, L-H, h_small, in_units}
use Rattle.utc_scales.proofs.round_trip.Parts.{FirstPart, SecondPart}
use Rattle.utc_scales.proofs.round_trip.DaySeconds.{date-of}
use Rattle.utc_scales.proofs.round_trip.Cases.{seconds-of, thirty_six, thirty_seven}
use Rattle.utc_scales.proofs.ut1_laws.Back.{spot}
use Rattle.utc_scales.proofs.ut1_laws.Back.{moved as shifted}

abbrev midnight : Float
midnight = fin false 4915507 (negsuc 0)

abbrev six : Float
six = fin false 1 (negsuc 1)

a-part : FirstPart midnight (4915507 * H)
unfolding fits
a-part = record {
  held = tt;
  val = in_units 4915507 2 H L-H (record { sign = false; size = 4915507; has = (refl, refl); is = refl });
  k = 4915507;
  halves = refl;
  low = omega arith;
  high = omega arith;
}

-- a quarter of a day, 2 ^ 1072 units
unfoldable R : ℕ
R = 2 ^ 1072

L-R : L ≡ 4 * R
unfolding L R
L-R = refl

u-part : SecondPart six R 0
unfolding fits
u-part = record {
  held = tt;
  val = val;
  over = omega (arith, L-R);
  under = omega (arith, L-R);
}
  where
    val : Val six R 0 L
    val = subst (λ (z : ℕ). Val six z 0 L) (one R) (in_units 1 4 R L-R (record { sign = false; size = 1; has = (refl, refl); is = refl }))
      where
        one : (x : ℕ) → 1 * x ≡ x
        one x = omega arith

-- 2457753.5 and a half, in units; and what lies within 8 h of a quarter of a day of N is on its day
noon : (p X : ℕ) → 4915507 * H + p + H ≤ X → 2457754 * L + p ≤ X
noon p X i = omega (arith, L-H)

noon' : (p X : ℕ) → X ≤ 4915507 * H + p + H + 4 * h → X ≤ 2457754 * L + p + 4 * h
noon' p X i = omega (arith, L-H)

quarter : 8 * h < R
quarter = omega (arith, L-R, h_small, L-pos)

below : (B M f N p m q r N' : ℕ) → N + r ≡ B + q → N' ≡ N + L → M + f + m ≤ B + p + 4 * h → p + (0 + r) ≤ m + (R + q) + 4 * h → M < N'
below B M f N p m q r N' a b c d = omega (arith, L-R, quarter)

above : (B M f N p m q r M' : ℕ) → N + r ≡ B + q → M' ≡ M + L → f < L → B + p ≤ M + f + m + 4 * h → m + (R + q) ≤ p + (0 + r) + 4 * h → N < M'
above B M f N p m q r M' a b c d e = omega (arith, quarter)

-- the day that the calendar finds i days later
found-day : (i : ℤ) (ip : plus_z i ≤ 3) (im : minus_z i ≤ 1) (n : ℕ) → n + minus_z i ≡ 2457754 + plus_z i → (spot a-part u-part i ip im).n ≡ n
found-day i ip im n e =
    let z = spot a-part u-part i ip im in
    let o = shifted a-part u-part i ip im in
    let f : n * L + minus_z i * L ≡ 2457754 * L + plus_z i * L =
    sym (add-mul n (minus_z i) L) ∙ ap (λ (x : ℕ). x * L) e ∙ add-mul 2457754 (plus_z i) L in
    same z.n n
    (lt_of_mul-lt-mul_right L (below (2457754 * L) (z.n * L) z.f (n * L) o.p o.n (plus_z i * L) (minus_z i * L) _ f (next n)
    (noon' o.p _ z.near-over) o.over))
    (lt_of_mul-lt-mul_right L (above (2457754 * L) (z.n * L) z.f (n * L) o.p o.n (plus_z i * L) (minus_z i * L) _ f (next z.n) z.below
    (noon o.p _ z.near-under)
    o.under))
  where
    next : (n : ℕ) → (n + 1) * L ≡ n * L + L
    next n = add-mul n 1 L ∙ ap (λ (x : ℕ). n * L + x) (one L)
      where
        one : (x : ℕ) → 1 * x ≡ x
        one x = omega arith

    same : (x y : ℕ) → x < y + 1 → y < x + 1 → x ≡ y
    same x y a b = omega arith

found : (i : ℤ) (ip : plus_z i ≤ 3) (im : minus_z i ≤ 1) (n D : ℕ) → n + minus_z i ≡ 2457754 + plus_z i → 2441318 ≤ n → seconds_on fixed n ≡ D
    → FoundWith fixed D (julian midnight six) i
found i ip im n D e g s = record { n = n; from = g; day = (spot a-part u-part i ip im).day ∙ ap pos (found-day i ip im n e); seconds = s }

december_30 : date_of (pos 2457753) ≡ date (pos 2016) 12 30
unfolding mjd_of mjd_number civil_count valid_date days_in_month lengths leap_size onward
december_30 = sym (date-of 2457753 (omega arith)) ∙ date-of-mjd (pos 2016) (pos 12) (pos 30) (pos 57752) refl refl

on-december-30 : seconds_on fixed 2457753 ≡ 36
unfolding fixed reached month_number
on-december-30 = seconds-of 2457753 (date (pos 2016) 12 30) december_30

-- ---- THE CASE
pub about_2017 : LeapFound fixed 2457754 (julian midnight six)
unfolding found
about_2017 = record {
  D = 36;
  i = 1;
  most = lit≤ tt;
  before = found (negsuc 0) (lit≤ tt) (lit≤ tt) 2457753 36 refl (lit≤ tt) on-december-30;
  same = same;
  after = found (pos 1) (lit≤ tt) (lit≤ tt) 2457755 37 refl (lit≤ tt) thirty_seven;
  day = refl;
  until = lit≤ tt;
}
  where
    same : (j : ℕ) → j < 1 → FoundWith fixed 36 (julian midnight six) (pos j)
    same zero l = found (pos 0) (lit≤ tt) (lit≤ tt) 2457754 36 refl (lit≤ tt) thirty_six
    same (suc j) l = absurd (omega arith)
