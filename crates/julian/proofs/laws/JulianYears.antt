-- The Julian year of a date and the date of a Julian year, against 2000 + (JD - 2451545) / 365.25: within 15 * 10 ^ -12 years, and within 138 microseconds.
-- Assumes nothing.
use mathlib.Core.Path.{◌≡◌, refl}
use mathlib.Core.Bool.{false}
use Prim.Native.Nat.{ℕ, ◌+◌, ◌*◌, ◌^◌, ◌≤◌}
use native.Mathlib.Omega.{arith}
use lib.Dec.{lit≤, lit<}
use lib.Ieee.{Float, binary64, round, add, sub, neg}
use Rattle.rounding.specs.Value.{Val, L}
use Rattle.rounding.proofs.Value.{L-pos}
use Rattle.rounding.proofs.Sizes.{whole_val}
use Rattle.constants.specs.Constants.{decimal, days_per_julian_year, j2000_jd, mjd_zero_point}
use Rattle.julian.specs.declared.JulianDate.{JulianDate}
use Rattle.julian.proofs.Midnights.{zero_point_val}
use Rattle.julian.specs.JulianYear.{to_julian_year, from_julian_year}
use Rattle.rounding.specs.Picoseconds.{day_ps}
use Rattle.julian.specs.laws.Distances.{UpTo, YearOf, DateOfYear}
use Rattle.julian.proofs.laws.Steps.{E, L-E, H, L-H, half-val, step-add, step-sub, step-mul, step-div, worth-of}

-- ---- the constants: J2000.0, the year 2000, and 365.25 = 1461 / 4

j2000_val : Val j2000_jd (2451545 * L) (0 * L) L
unfolding j2000_jd round
j2000_val = whole_val (record { sign = false; size = 2451545; has = (refl, refl); is = refl })

year-2000-val : Val (decimal 2000 0) (2000 * L) (0 * L) L
unfolding round
year-2000-val = whole_val (record { sign = false; size = 2000; has = (refl, refl); is = refl })

year-val : Val days_per_julian_year 1461 0 4
unfolding days_per_julian_year round
year-val = record { sign = false; size = 1461; has = (refl, refl); is = refl }

-- ---- the year of a date

to-year : (p n q m p1 n1 p2 n2 p3 n3 a b l e : ℕ) → l ≡ 18014398509481984 * e
    → p1 + (n + 2451545 * l) ≤ n1 + (p + 0 * l) + 2 ^ 24 * e → p2 + (n1 + m) ≤ n2 + (p1 + q) + 2 ^ 25 * e
    → 1461 * p3 + 4 * n2 ≤ 1461 * n3 + 4 * p2 + 1461 * (2 ^ 16 * e) → a + (0 * l + n3) ≤ b + (2000 * l + p3) + 2 ^ 16 * e
    → 10 ^ 12 * (1461 * a + 4 * (n + m + 2451545 * l)) ≤ 10 ^ 12 * (1461 * (b + 2000 * l) + 4 * (p + q)) + 15 * (1461 * l)
to-year p n q m p1 n1 p2 n2 p3 n3 a b l e h x1 x2 x3 x4 = omega arith

to-year-low : (p n q m p1 n1 p2 n2 p3 n3 a b l e : ℕ) → l ≡ 18014398509481984 * e
    → n1 + (p + 0 * l) ≤ p1 + (n + 2451545 * l) + 2 ^ 24 * e → n2 + (p1 + q) ≤ p2 + (n1 + m) + 2 ^ 25 * e
    → 1461 * n3 + 4 * p2 ≤ 1461 * p3 + 4 * n2 + 1461 * (2 ^ 16 * e) → b + (2000 * l + p3) ≤ a + (0 * l + n3) + 2 ^ 16 * e
    → 10 ^ 12 * (1461 * (b + 2000 * l) + 4 * (p + q)) ≤ 10 ^ 12 * (1461 * a + 4 * (n + m + 2451545 * l)) + 15 * (1461 * l)
to-year-low p n q m p1 n1 p2 n2 p3 n3 a b l e h x1 x2 x3 x4 = omega arith

-- THE YEAR OF A DATE, for parts of at most 8,000,000 days in size (to the year 17,000, and as far before)
pub julian-year-near : (d : JulianDate) → UpTo 8000000 d.jd1 → UpTo 8000000 d.jd2 → YearOf 15 d (to_julian_year d)
unfolding to_julian_year
julian-year-near d s t =
    let x1 = step-sub 24 (lit≤ tt) (omega (arith, s.high, L-pos)) (omega (arith, s.low, L-pos)) s.val j2000_val in
    let x2 = step-add 25 (lit≤ tt) (omega (arith, s.high, t.high, x1.over, L-pos, L-E)) (omega (arith, s.low, t.low, x1.under, L-pos, L-E)) x1.val
    t.val in
    let x3 = step-div 16 {B = 4} {C = 1461} (lit< tt) (lit< tt) (lit≤ tt) (omega (arith, s.high, t.high, x1.over, x2.over, L-pos, L-E))
    (omega (arith, s.low, t.low, x1.under, x2.under, L-pos, L-E)) x2.val year-val in
    let x4 = step-add 16 (lit≤ tt) (omega (arith, s.high, t.high, x1.over, x2.over, x3.over, L-pos, L-E))
    (omega (arith, s.low, t.low, x1.under, x2.under, x3.under, L-pos, L-E)) year-2000-val x3.val in
    record {
      p = s.p + t.p;
      n = s.n + t.n;
      a = x4.p;
      b = x4.n;
      worth = worth-of s.val t.val;
      val = x4.val;
      over = to-year s.p s.n t.p t.n x1.p x1.n x2.p x2.n x3.p x3.n x4.p x4.n L E L-E x1.over x2.over x3.over
          x4.over;
      under = to-year-low s.p s.n t.p t.n x1.p x1.n x2.p x2.n x3.p x3.n x4.p x4.n L E L-E x1.under x2.under
          x3.under x4.under;
    }

-- ---- the date of a year

-- 51544.5, the Modified Julian Date of J2000.0
j2000_mjd_val : Val (sub binary64 j2000_jd mjd_zero_point) 103089 0 2
unfolding j2000_jd mjd_zero_point sub neg add round
j2000_mjd_val = record { sign = false; size = 103089; has = (refl, refl); is = refl }

-- in units, with h for half a day, and then in picoseconds
from-year : (p n p1 n1 p2 n2 p3 n3 l h e : ℕ) → l ≡ 2 * h → p1 + (n + 2000 * l) ≤ n1 + (p + 0 * l) + 2 ^ 15 * e
    → 4 * p2 + 1461 * n1 ≤ 4 * n2 + 1461 * p1 + 4 * (2 ^ 23 * e) → p3 + (0 * h + n2) ≤ n3 + (103089 * h + p2) + 2 ^ 23 * e
    → 4 * (4800001 * h + p3) + 1461 * (n + 2000 * l) ≤ 4 * (0 * h + n3 + 2451545 * l) + 1461 * p + 114982912 * e
from-year p n p1 n1 p2 n2 p3 n3 l h e k x1 x2 x3 = omega arith

from-year-low : (p n p1 n1 p2 n2 p3 n3 l h e : ℕ) → l ≡ 2 * h → n1 + (p + 0 * l) ≤ p1 + (n + 2000 * l) + 2 ^ 15 * e
    → 4 * n2 + 1461 * p1 ≤ 4 * p2 + 1461 * n1 + 4 * (2 ^ 23 * e) → n3 + (103089 * h + p2) ≤ p3 + (0 * h + n2) + 2 ^ 23 * e
    → 4 * (0 * h + n3 + 2451545 * l) + 1461 * p ≤ 4 * (4800001 * h + p3) + 1461 * (n + 2000 * l) + 114982912 * e
from-year-low p n p1 n1 p2 n2 p3 n3 l h e k x1 x2 x3 = omega arith

in_picoseconds : (x y l e : ℕ) → l ≡ 18014398509481984 * e → x ≤ y + 114982912 * e → day_ps * x ≤ day_ps * y + 138000000 * (4 * l)
in_picoseconds x y l e h k = omega arith

-- THE DATE OF A YEAR, for years of at most 20,000 in size
pub year-date-near : (year : Float) → UpTo 20000 year → DateOfYear 138000000 year (from_julian_year year)
unfolding from_julian_year
year-date-near year s =
    let x1 = step-sub 15 (lit≤ tt) (omega (arith, s.high, L-pos)) (omega (arith, s.low, L-pos)) s.val year-2000-val in
    let x2 = step-mul 23 (lit< tt) (lit≤ tt) (omega (arith, s.high, x1.over, L-pos, L-E)) (omega (arith, s.low, x1.under, L-pos, L-E)) x1.val year-val in
    let x3 = step-add 23 (lit≤ tt) (omega (arith, s.high, x1.over, x2.over, L-pos, L-E)) (omega (arith, s.low, x1.under, x2.under, L-pos, L-E))
    (half-val j2000_mjd_val) x2.val in
    record {
      p = 4800001 * H + x3.p;
      n = 0 * H + x3.n;
      a = s.p;
      b = s.n;
      worth = worth-of (half-val zero_point_val) x3.val;
      val = s.val;
      over = in_picoseconds _ _ L E L-E (from-year s.p s.n x1.p x1.n x2.p x2.n x3.p x3.n L H E L-H x1.over x2.over x3.over);
      under = in_picoseconds _ _ L E L-E
          (from-year-low s.p s.n x1.p x1.n x2.p x2.n x3.p x3.n L H E L-H x1.under x2.under x3.under);
    }
