-- UTC to TAI keeps the order of two stamps of one jd1, no gap asked, where the calendar keeps it: where their days and fractions are in order, so are their
-- answers. Assumes nothing.
use mathlib.Core.Path.{◌≡◌, sym, subst}
use mathlib.Core.Logic.{◌⊎◌, inl, inr}
use Prim.Native.Nat.{ℕ, suc, ◌+◌, ◌*◌, ◌≤◌, ◌<◌}
use native.Mathlib.Nat.{add-mul, mul-le-mul_right, eq-or-lt_of_le, lt_of_mul-lt-mul_right}
use native.Mathlib.Omega.{arith}
use lib.Dec.{T}
use lib.Ieee.{Float, le}
use Rattle.rounding.specs.Value.{Val, L}
use Rattle.rounding.proofs.Value.{val-unique}
use Rattle.julian.specs.declared.JulianDate.{JulianDate}
use Rattle.julian.specs.JulianDate.{julian}
use Rattle.julian.specs.day_number.DayNumber.{day_of}
use Rattle.leap_table.specs.rows.Table.{fixed}
use Rattle.rounding.specs.Picoseconds.{day_ps}
use Rattle.utc_scales.specs.UtcTai.{utc_to_tai}
use Rattle.utc_scales.specs.round_trip.Ranges.{HalfDaySplit}
use Rattle.utc_scales.specs.round_trip.UtcDays.{H}
use Rattle.utc_scales.specs.round_trip.Order.{Follows, PartsInOrder}
use Rattle.utc_scales.proofs.round_trip.Units.{h, h_small, next_midnight}
use Rattle.utc_scales.proofs.round_trip.Parts.{stamp-of, parts-worth, first_part, second-part}
use Rattle.utc_scales.proofs.round_trip.Located.{Located, located}
use Rattle.utc_scales.proofs.round_trip.DaySeconds.{fixed-whole}
use Rattle.utc_scales.proofs.round_trip.Evaluated.{tai, given, answered-by}
use Rattle.utc_scales.proofs.round_trip.Order.{utc-order-same}
use Rattle.utc_scales.proofs.round_trip.Monotone.{same-day, next-day}
use Rattle.utc_scales.proofs.round_trip.Fraction.{fraction-fits}

gap_of : (x y Q h : ℕ) → 1000000 * h ≤ Q → x + Q ≤ y + 8 * h → day_ps * x + 154 * Q ≤ day_ps * y
gap_of x y Q h k l = omega arith

-- ---- THE THEOREM: for the days and fractions that the calendar finds
module _ {d d' : JulianDate} (i : HalfDaySplit d) (i' : HalfDaySplit d') (same : d.jd1 ≡ d'.jd1) where
  abbrev pub z : Located d.jd1 d.jd2 (i.halves * H) (second-part i).0 (second-part i).1
  z = located (stamp-of (first_part i) (second-part i).2)

  abbrev pub z' : Located d'.jd1 d'.jd2 (i'.halves * H) (second-part i').0 (second-part i').1
  z' = located (stamp-of (first_part i') (second-part i').2)

  -- the floats of the two answers
  abbrev one-tai : Float
  one-tai = tai fixed d.jd1 z.n (day_of d.jd1 d.jd2).fraction

  abbrev other_tai : Float
  other_tai = tai fixed d'.jd1 z'.n (day_of d'.jd1 d'.jd2).fraction

  floats : T (le one-tai other_tai) → PartsInOrder (utc_to_tai fixed) d d'
  floats l = record {
    x = julian d.jd1 one-tai;
    y = julian d'.jd1 other_tai;
    first = answered-by fixed-whole (first_part i) (second-part i).2 one-tai (given fixed-whole (first_part i) (second-part i).2);
    second = answered-by fixed-whole (first_part i') (second-part i').2 other_tai (given fixed-whole (first_part i') (second-part i').2);
    in_order = record { larger = same; smaller = l };
  }

  -- the larger part's value is the same
  one-first : i.halves * H ≡ i'.halves * H
  one-first = plain (val-unique (subst (λ (x : Float). Val x (i.halves * H) 0 L) same (first_part i).val) (first_part i').val)
    where
      plain : {x y : ℕ} → x + 0 ≡ y + 0 → x ≡ y
      plain e = omega arith

  -- more than a day apart
  far_apart : suc z.n < z'.n → Follows 154 d d'
  far_apart l = record {
    p = i.halves * H + (second-part i).0;
    n = (second-part i).1;
    p' = i'.halves * H + (second-part i').0;
    n' = (second-part i').1;
    from = parts-worth (first_part i) (second-part i).2;
    to = parts-worth (first_part i') (second-part i').2;
    gap = go (i.halves * H) (i'.halves * H) (second-part i).0 (second-part i).1 (second-part i').0 (second-part i').1 (z.n * L) (z'.n * L) z.f
        z'.f one-first z.near-under z'.near-over z.below
        (subst (λ (x : ℕ). x ≤ z'.n * L) (add-mul 2 z.n L) (mul-le-mul_right L (two z.n z'.n l)));
  }
    where
      two : (n m : ℕ) → suc n < m → 2 + n ≤ m
      two n m l = omega arith

      go : (A A' p n p' n' N M g g' : ℕ) → A ≡ A' → A + p + H ≤ N + g + n + 4 * h → M + g' + n' ≤ A' + p' + H + 4 * h → g < L → 2 * L + N ≤ M
          → day_ps * (A + p + n') + 154 * L ≤ day_ps * (A' + p' + n)
      go A A' p n p' n' N M g g' e i j l m = gap_of (A + p + n') (A' + p' + n) L h h_small (omega arith)

  -- the second answer's float with the first one's larger part
  abbrev same_first : ℕ → Float
  same_first m = tai fixed d.jd1 m (day_of d'.jd1 d'.jd2).fraction

  by_first : T (le one-tai (same_first z'.n)) → PartsInOrder (utc_to_tai fixed) d d'
  by_first l = floats (subst (λ (a : Float). T (le one-tai (tai fixed a z'.n (day_of d'.jd1 d'.jd2).fraction))) same l)

  pub utc-order-by-days : z.n * L + z.f ≤ z'.n * L + z'.f → PartsInOrder (utc_to_tai fixed) d d'
  utc-order-by-days o = days (eq-or-lt_of_le
      (first z.n z'.n (lt_of_mul-lt-mul_right L (low (z.n * L) (z'.n * L) z.f z'.f (next_midnight z'.n) z'.below o))))
    where
      first : (n m : ℕ) → n < suc m → n ≤ m
      first n m l = omega arith

      low : (N M g g' : ℕ) {M' : ℕ} → M' ≡ L + M → g' < L → N + g ≤ M + g' → N < M'
      low N M g g' e l k = omega arith

      later : (suc z.n ≡ z'.n) ⊎ (suc z.n < z'.n) → PartsInOrder (utc_to_tai fixed) d d'
      later (inl e) = by_first (subst (λ (m : ℕ). T (le one-tai (same_first m))) e
          (next-day (first_part i) z.n z.low (subst (λ (m : ℕ). m ≤ 5000002) (sym e) z'.high) (fraction-fits d.jd1 d.jd2) z.val z'.val
          z.below z'.below))
      later (inr l) = utc-order-same i i' same (far_apart l)

      days : (z.n ≡ z'.n) ⊎ (z.n < z'.n) → PartsInOrder (utc_to_tai fixed) d d'
      days (inl e) =
          by_first (subst (λ (m : ℕ). T (le one-tai (same_first m))) e
          (same-day (first_part i) z.n z.low z.high z.val z'.val
          (cancel (z.n * L) z.f z'.f (subst (λ (m : ℕ). z.n * L + z.f ≤ m * L + z'.f) (sym e) o)) z'.below))
        where
          cancel : (N g g' : ℕ) → N + g ≤ N + g' → g ≤ g'
          cancel N g g' k = omega arith
      days (inr l) = later (eq-or-lt_of_le l)
