-- UTC to TAI in the years 1961 to 1971: on a day that ends without a step the answer is on the row's line to 77 ps, the line taken in exact decimals. Assumes
-- nothing.
use mathlib.Core.Path.{◌≡◌, refl, sym, ap, ◌∙◌, subst, subst₂}
use Prim.Native.Nat.{ℕ, suc, ◌+◌, ◌-◌, ◌*◌, ◌≤◌}
use native.Mathlib.Nat.{add-mul, mul-add, zero-mul, mul_assoc, mul_comm, mul_right_comm, mul_left_comm, mul-le-mul_right, le_trans}
use native.Mathlib.Omega.{arith}
use lib.Dec.{lit≤}
use lib.IntN.{ℤ, pos, ◌-ℤ◌}
use lib.Ieee.{Float, binary64, add, sub, div, of_int}
use lib.Ieee.Fits.{add-fits}
use Rattle.refusals.specs.Outcome.{answer}
use Rattle.constants.specs.Constants.{seconds_per_day, mjd_zero_point}
use Rattle.rounding.specs.Value.{Val, L}
use Rattle.rounding.proofs.Value.{L-pos, val-move, val-scale, add_rounds, rounds-move}
use Rattle.rounding.proofs.Casts.{of_int_val}
use Rattle.rounding.proofs.Exact.{add_exact, sub_exact}
use Rattle.calendar.specs.Gregorian.{gregorian_date}
use Rattle.calendar.proofs.Signs.{sub_at}
use Rattle.julian.specs.day_number.DayNumber.{day_of}
use Rattle.julian.proofs.day_number.Units.{H, H-L}
use Rattle.julian.proofs.day_order.Once.{again}
use Rattle.julian.specs.declared.JulianDate.{JulianDate}
use Rattle.julian.specs.JulianDate.{julian}
use Rattle.julian.proofs.Midnights.{zero_point_val}
use Rattle.leap_table.specs.rows.Table.{Row, fixed}
use Rattle.leap_table.specs.offsets.Leap.{offsets, drift_rate, leap_amount}
use Rattle.leap_table.specs.declared.offsets.DayOffsets.{DayOffsets}
use Rattle.rounding.specs.Picoseconds.{day_ps}
use Rattle.utc_scales.specs.days.Dates.{offsets_of}
use Rattle.utc_scales.specs.UtcTai.{stretch_day_fraction, tai_from_midnight, tai_fraction, utc_to_tai}
use Rattle.utc_scales.proofs.days.Midnights.{midnight_of_day}
use Rattle.utc_scales.proofs.Steps.{tai-of-day}
use Rattle.utc_scales.specs.drift.Drift.{row_on, NoStep, DriftDate, drift_ps, OnLine}
use Rattle.utc_scales.proofs.round_trip.Kept.{first-larger, kept-changed}
use Rattle.utc_scales.proofs.drift.Days.{Offsets, offsets-near}
use Rattle.utc_scales.proofs.drift.Located.{Located, located}
use Rattle.utc_scales.proofs.drift.Seconds.{day_fs, Sec, sec_move, drift-near, leap-near, Factor, factor}
use Rattle.utc_scales.proofs.drift.Products.{in-days, Summed, summed}
use Rattle.utc_scales.proofs.drift.Rows.{Bounds, row-bounds, row_plus, row_minus, half_drift, whole-drift, size-high, size_low, at_midnight}
use Rattle.utc_scales.proofs.drift.Rows.{at_noon, no_step}

-- ---- 77 / 100 of 10^-10 s are 77 ps
by-hundred : (a b x y g : ℕ) → 100 * a ≤ 100 * b + 77 * L → x ≡ 2 * a + g → y ≡ 2 * b + g → day_ps * x ≤ day_ps * y + drift_ps * (1728000000000000 * L)
by-hundred a b x y g h e f = omega arith

-- ---- the days from jd1 to its midnight are none
module _ (n : ℕ) {d : JulianDate} (k : DriftDate n d) where
  none-since : Val (add binary64 (sub binary64 mjd_zero_point d.jd1) (of_int binary64 (pos n -ℤ pos 2400001))) 0 0 L
  none-since = subst₂ (λ (p q : ℕ). Val (add binary64 (sub binary64 mjd_zero_point d.jd1) (of_int binary64 (pos n -ℤ pos 2400001))) p p q) (zero-mul H)
      (sym H-L) (val-scale H halves)
    where
      days : Val (of_int binary64 (pos n -ℤ pos 2400001)) ((n - 2400001) * 2) (0 * 2) 2
      days = val-scale 2 (subst (λ (z : ℤ). Val (of_int binary64 z) (n - 2400001) 0 1) (sym (sub_at n 2400001 (omega (arith, k.low))))
          (of_int_val (pos (n - 2400001)) (omega (arith, k.high)) (omega arith)))

      halves : Val (add binary64 (sub binary64 mjd_zero_point d.jd1) (of_int binary64 (pos n -ℤ pos 2400001))) 0 0 2
      halves = val-move (add_exact 1 (lit≤ tt) (omega (arith, k.low, k.high)) (omega (arith, k.low, k.high))
          (sub_exact 1 {p = 4800001} {n = 0} {q = 2 * n - 1} {m = 0} (lit≤ tt) (omega (arith, k.low, k.high)) (omega (arith, k.low, k.high))
          zero_point_val k.midnight) days) (omega (arith, k.low))

  abbrev r : Row
  r = row_on n

  abbrev o : Offsets n
  o = offsets-near n k.low k.high

  abbrev at : Located d.jd1 d.jd2 n
  at = located n k

  module _ (s : NoStep n) where
    b : Bounds (row_on n)
    b = row-bounds n k.low (omega (arith, k.high))

    high : row_plus r (n - 2400001) ≤ row_minus r + 120000000000 * L
    high = size-high r b (n - 2400001) (omega (arith, k.low)) (omega (arith, k.high))

    low : row_minus r ≤ row_plus r (n - 2400001) + 120000000000 * L
    low = size_low r b (n - 2400001) (omega (arith, k.low)) (omega (arith, k.high))

    small : 2 * half_drift r ≤ 25920000 * L
    small = subst (λ (z : ℕ). z ≤ 25920000 * L) (sym (whole-drift r)) (mul-le-mul_right L b.rate)

    abbrev Three : DayOffsets
    Three = offsets o.x o.y o.z

    drift : Sec (drift_rate Three) (2 * half_drift r) 0 4006
    drift = drift-near (row_plus r (n - 2400001)) (row_minus r) (half_drift r) (row_plus (row_on (suc n)) (suc n - 2400001)) (row_minus (row_on (suc n)))
        (at_midnight o.at-0h) (at_noon o.at-12h) (at_midnight o.at-24h) high low small (no_step n k.low s)

    leap : Sec (leap_amount Three) 0 0 6010
    leap = leap-near (row_plus r (n - 2400001)) (row_minus r) (half_drift r) (row_plus (row_on (suc n)) (suc n - 2400001)) (row_minus (row_on (suc n)))
        (at_midnight o.at-0h) (at_noon o.at-12h) (at_midnight o.at-24h) high low small (no_step n k.low s)

    abbrev part : Float
    part = add binary64 (stretch_day_fraction Three (day_of d.jd1 d.jd2).fraction) (div binary64 o.x seconds_per_day)

    whole : Summed part at.f r.rate (row_plus r (n - 2400001)) (row_minus r)
    unfolding stretch_day_fraction
    whole =
        summed at.val at.below (subst (Factor _) (sym (zero-mul L)) (factor leap (omega arith)))
        (subst (Factor _) (whole-drift r) (factor (sec_move (2 * half_drift r) 0 6010 drift refl (omega arith)) small)) b.rate
        (in-days (at_midnight o.at-0h) high low) high low

    abbrev t : Float
    t = tai_from_midnight d.jd1 (midnight_of_day (pos n)) Three (day_of d.jd1 d.jd2).fraction

    t-val : Val t whole.p whole.n L
    unfolding tai_from_midnight
    t-val = again (add-fits binary64 _ _) whole.val (rounds-move (add_rounds binary64 L-pos none-since whole.val) (omega arith))

    given : tai_fraction fixed d.jd1 d.jd2 ≡ answer t
    given =
        tai-of-day fixed d.jd1 d.jd2 (day_of d.jd1 d.jd2) at.given at.in-days Three
        (ap (λ (z : ℤ). offsets_of fixed (gregorian_date z)) at.day ∙ o.is)
        ∙ ap (λ (z : ℤ). answer (tai_from_midnight d.jd1 (midnight_of_day z) Three (day_of d.jd1 d.jd2).fraction)) at.day

    -- ---- jd1 stays
    abbrev A : ℕ
    A = (2 * n - 1) * H

    first : Val d.jd1 A 0 L
    first = subst₂ (λ (m q : ℕ). Val d.jd1 A m q) (zero-mul H) (sym H-L) (val-scale H k.midnight)

    large : L ≤ A
    large = le_trans (omega (arith, H-L)) (mul-le-mul_right H (least n k.low))
      where
        least : (n : ℕ) → 2437301 ≤ n → 2 ≤ 2 * n - 1
        least n l = omega arith

    is : utc_to_tai fixed d ≡ answer (julian d.jd1 t)
    unfolding utc_to_tai
    is = kept-changed (tai_fraction fixed) d.jd1 d.jd2 t (first-larger first at.second (omega (arith, at.below, large)) (omega arith)) given

    -- ---- the line, in the numbers of the sum
    line_at : (x : ℕ) → 2 * (864000000000000 + r.rate) * x ≡ 2 * (864000000000000 * x) + 2 * (r.rate * x)
    line_at x = mul_assoc 2 (864000000000000 + r.rate) x ∙ ap (λ (z : ℕ). 2 * z) (add-mul 864000000000000 r.rate x)
        ∙ plain (864000000000000 * x) (r.rate * x)
      where
        plain : (a b : ℕ) → 2 * (a + b) ≡ 2 * a + 2 * b
        plain a b = omega arith

    noon : 2 * (r.rate * A) ≡ 2 * ((n - 2400001) * L * r.rate) + 4800001 * (r.rate * L)
    noon =
        sym (mul_left_comm r.rate 2 A)
        ∙ ap (λ (z : ℕ). r.rate * z) (mul_left_comm 2 (2 * n - 1) H ∙ ap (λ (z : ℕ). (2 * n - 1) * z) (sym H-L)
        ∙ ap (λ (z : ℕ). z * L) (count n k.low) ∙ add-mul (2 * (n - 2400001)) 4800001 L)
        ∙ mul-add r.rate (2 * (n - 2400001) * L) (4800001 * L)
        ∙ ap (λ (z : ℕ). z + r.rate * (4800001 * L))
        (mul_comm r.rate (2 * (n - 2400001) * L) ∙ ap (λ (z : ℕ). z * r.rate) (mul_assoc 2 (n - 2400001) L) ∙ mul_assoc 2 ((n - 2400001) * L) r.rate)
        ∙ ap (λ (z : ℕ). 2 * ((n - 2400001) * L * r.rate) + z) (mul_left_comm r.rate 4800001 L)
      where
        count : (n : ℕ) → 2437301 ≤ n → 2 * n - 1 ≡ 2 * (n - 2400001) + 4800001
        count n l = omega arith

    start : (2 * r.start + 4800001) * r.rate * L ≡ 2 * row_minus r + 4800001 * (r.rate * L)
    start =
        ap (λ (z : ℕ). z * L) (add-mul (2 * r.start) 4800001 r.rate) ∙ add-mul (2 * r.start * r.rate) (4800001 * r.rate) L
        ∙ ap (λ (z : ℕ). z + 4800001 * r.rate * L)
        (ap (λ (z : ℕ). z * L) (mul_assoc 2 r.start r.rate) ∙ mul_assoc 2 (r.start * r.rate) L
        ∙ ap (λ (z : ℕ). 2 * z) (mul_right_comm r.start r.rate L))
        ∙ ap (λ (z : ℕ). 2 * row_minus r + z) (mul_assoc 4800001 r.rate L)

    seconds : 2 * (r.units * 1000) * L ≡ 2 * (r.units * (1000 * L))
    seconds = mul_assoc 2 (r.units * 1000) L ∙ ap (λ (z : ℕ). 2 * z) (mul_assoc r.units 1000 L)

    sides_high : (p n f x b c m : ℕ) → day_fs * p + 100000 * m ≤ day_fs * n + day_fs * f + 100000 * x + 100000 * (b + c) + 76150 * L
        → 100 * (864000000000000 * p + m) ≤ 100 * (864000000000000 * n + 864000000000000 * f + x + b + c) + 77 * L
    sides_high p n f x b c m h = omega arith

    sides_low : (p n f x b c m : ℕ) → day_fs * n + day_fs * f + 100000 * x + 100000 * (b + c) ≤ day_fs * p + 100000 * m + 76150 * L
        → 100 * (864000000000000 * n + 864000000000000 * f + x + b + c) ≤ 100 * (864000000000000 * p + m) + 77 * L
    sides_low p n f x b c m h = omega arith

    left-side : 1728000000000000 * (A + whole.p) + 2 * (864000000000000 + r.rate) * 0 + (2 * r.start + 4800001) * r.rate * L ≡ 2 *
        (864000000000000 * whole.p + row_minus r) + (1728000000000000 * A + 4800001 * (r.rate * L))
    left-side = go A whole.p (row_minus r) (4800001 * (r.rate * L)) (2 * (864000000000000 + r.rate)) ((2 * r.start + 4800001) * r.rate * L) start
      where
        go : (a p m t s e : ℕ) → e ≡ 2 * m + t → 1728000000000000 * (a + p) + s * 0 + e ≡ 2 * (864000000000000 * p + m) + (1728000000000000 * a + t)
        go a p m t s e h = omega arith

    right_side : 1728000000000000 * whole.n + 2 * (864000000000000 + r.rate) * (A + at.f) + 2 * (r.units * 1000) * L
        ≡ 2 * (864000000000000 * whole.n + 864000000000000 * at.f + r.rate * at.f + r.units * (1000 * L) + (n - 2400001) * L * r.rate) +
        (1728000000000000 * A + 4800001 * (r.rate * L))
    right_side =
        go A whole.n at.f (r.rate * at.f) (r.rate * A) (r.units * (1000 * L)) ((n - 2400001) * L * r.rate) (4800001 * (r.rate * L))
        (2 * (864000000000000 + r.rate) * (A + at.f)) (r.rate * (A + at.f)) (2 * (r.units * 1000) * L)
        (line_at (A + at.f)) (mul-add r.rate A at.f) noon seconds
      where
        go : (a m f x v b c t e y g : ℕ) → e ≡ 2 * (864000000000000 * (a + f)) + 2 * y → y ≡ v + x → 2 * v ≡ 2 * c + t → g ≡ 2 * b
            → 1728000000000000 * m + e + g ≡ 2 * (864000000000000 * m + 864000000000000 * f + x + b + c) + (1728000000000000 * a + t)
        go a m f x v b c t e y g h i j k = omega arith

    -- THE THEOREM
    pub utc-to-tai-on-line : OnLine drift_ps n d
    utc-to-tai-on-line = record {
      date = julian d.jd1 t;
      is = is;
      means = record {
        p = A + at.f;
        n = 0;
        p' = A + whole.p;
        n' = whole.n;
        from = record { p = A; n = 0; q = at.f; m = 0; first = first; second = at.second; total = omega arith };
        to = record { p = A; n = 0; q = whole.p; m = whole.n; first = first; second = t-val; total = omega arith };
        over = by-hundred _ _ _ _ _ (sides_high whole.p whole.n at.f (r.rate * at.f) (r.units * (1000 * L)) ((n - 2400001) * L * r.rate)
            (row_minus r) whole.over) left-side right_side;
        under = by-hundred _ _ _ _ _ (sides_low whole.p whole.n at.f (r.rate * at.f) (r.units * (1000 * L)) ((n - 2400001) * L * r.rate)
            (row_minus r) whole.under) right_side left-side;
      };
    }
