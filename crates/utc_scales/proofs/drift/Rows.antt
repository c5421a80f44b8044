-- The rows of 1961 to 1971 on their days: TAI-UTC is at most 12 s and the rate at most 2.592 ms a day, computed of each row; and the floats of the offsets as
-- seconds near the row's decimals. Assumes nothing.
use mathlib.Core.Path.{◌≡◌, sym, ap, ◌∙◌, subst, subst₂}
use mathlib.Core.Bool.{Bool}
use Prim.Native.Nat.{ℕ, suc, ◌+◌, ◌-◌, ◌*◌, ◌^◌, ◌≤◌, ◌<◌}
use native.Mathlib.Nat.{add-mul, mul_assoc, mul_comm, mul_right_comm, mul-le-mul_right, zero-mul, one-mul}
use native.Mathlib.Omega.{arith}
use lib.Dec.{T, leb, leb→le}
use lib.ListN.{get_or, take}
use lib.Seq.{get_or-take}
use lib.IntN.{ℤ, pos}
use lib.Ieee.{Float}
use Rattle.floats.specs.Whole.{nought, half}
use Rattle.rounding.specs.Value.{Val, L}
use Rattle.rounding.proofs.Value.{val-unique}
use Rattle.calendar.specs.Calendar.{date_of}
use Rattle.calendar.proofs.Years.{date-of-in-calendar}
use Rattle.julian.proofs.day_number.Units.{H, H-L, half-L, nought-L}
use Rattle.leap_table.specs.rows.Table.{Row, fixed, starts, reached, month_number, month_of, none}
use Rattle.leap_table.specs.offsets.Offset.{row_at}
use Rattle.leap_table.proofs.rows.Rows.{at}
use Rattle.leap_table.proofs.offsets.Years.{one-row, drift-rows}
use Rattle.leap_days.proofs.drift.Tests.{then, then_left, then_right}
use Rattle.leap_days.specs.Formula.{NearFormula}
use Rattle.utc_scales.specs.drift.Drift.{row_on, NoStep}
use Rattle.utc_scales.proofs.drift.Days.{year-of}
use Rattle.utc_scales.proofs.drift.Seconds.{Sec}

-- ---- each row
unfoldable row_test : Row → Bool
row_test r = then (leb r.rate 25920000)
    (then (leb (r.units * 1000 + 41317 * r.rate) (r.start * r.rate + 120000000000))
    (leb (r.start * r.rate) (r.units * 1000 + 37300 * r.rate + 120000000000)))

row-tested : (k : ℕ) → k < 14 → T (row_test (get_or fixed k none))
unfolding fixed row_test
row-tested k h = subst (λ (r : Row). T (row_test r)) (get_or-take 14 fixed k none h) (at (λ i r. row_test r) (take 14 fixed) tt k h)

pub record Bounds (r : Row) : Type 0 where
  pub rate : r.rate ≤ 25920000
  pub high : r.units * 1000 + 41317 * r.rate ≤ r.start * r.rate + 120000000000
  pub low : r.start * r.rate ≤ r.units * 1000 + 37300 * r.rate + 120000000000

bounds : (r : Row) → T (row_test r) → Bounds r
unfolding row_test
bounds r t =
    let u = then_right (leb r.rate 25920000) _ t in
    record {
      rate = leb→le r.rate 25920000 (then_left (leb r.rate 25920000) _ t);
      high = leb→le _ _ (then_left (leb (r.units * 1000 + 41317 * r.rate) (r.start * r.rate + 120000000000)) _ u);
      low = leb→le _ _ (then_right (leb (r.units * 1000 + 41317 * r.rate) (r.start * r.rate + 120000000000)) _ u);
    }

pub row-bounds : (n : ℕ) → 2437301 ≤ n → n ≤ 2441317 → Bounds (row_on n)
unfolding row_on month_number
row-bounds n l h = go (year-of n l h)
  where
    go : (y : ℕ) × ((date_of (pos n)).year ≡ pos y) × (1961 ≤ y) × (y ≤ 1971)
        → Bounds (row_at (reached (starts fixed) (month_number (date_of (pos n)).year (date_of (pos n)).month)))
    go (y, p, a, b) =
        let c = date-of-in-calendar (pos n) in
        let N = month_of y (date_of (pos n)).month in
        let o = one-row N (omega (arith, c.m_low)) in
        let w = drift-rows N (omega (arith, c.m_high)) in
        subst (λ (z : ℤ). Bounds (row_at (reached (starts fixed) (month_number z (date_of (pos n)).month)))) (sym p)
        (bounds (row_at (reached (starts fixed) N)) (row-tested (reached (starts fixed) N - 1) (omega (arith, o, w))))

-- ---- TAI-UTC at 0h of MJD j, times L: the difference of these two, in 10^-10 s
abbrev pub row_plus : Row → ℕ → ℕ
row_plus r j = r.units * (1000 * L) + j * L * r.rate

abbrev pub row_minus : Row → ℕ
row_minus r = r.start * L * r.rate

-- the drift of half a day
abbrev pub half_drift : Row → ℕ
half_drift r = H * r.rate

pub whole-drift : (r : Row) → 2 * half_drift r ≡ r.rate * L
whole-drift r = sym (mul_assoc 2 H r.rate) ∙ ap (λ (z : ℕ). z * r.rate) (sym H-L) ∙ mul_comm L r.rate

scaled : (u s r j : ℕ) → (u * 1000 + j * r) * L ≡ u * (1000 * L) + j * L * r
scaled u s r j = add-mul (u * 1000) (j * r) L ∙ ap (λ (z : ℕ). z + j * r * L) (mul_assoc u 1000 L) ∙ ap (λ (z : ℕ). u * (1000 * L) + z) (mul_right_comm j r L)

module _ (r : Row) (b : Bounds r) (j : ℕ) (l : 37300 ≤ j) (h : j ≤ 41317) where
  pub size-high : row_plus r j ≤ row_minus r + 120000000000 * L
  size-high =
      subst₂ (λ (x y : ℕ). x ≤ y) (scaled r.units 0 r.rate j)
      (add-mul (r.start * r.rate) 120000000000 L ∙ ap (λ (z : ℕ). z + 120000000000 * L) (mul_right_comm r.start r.rate L))
      (mul-le-mul_right L (go (j * r.rate) (41317 * r.rate) (mul-le-mul_right r.rate h) b.high))
    where
      go : (x y : ℕ) → x ≤ y → r.units * 1000 + y ≤ r.start * r.rate + 120000000000 → r.units * 1000 + x ≤ r.start * r.rate + 120000000000
      go x y k g = omega arith

  pub size_low : row_minus r ≤ row_plus r j + 120000000000 * L
  size_low =
      subst₂ (λ (x y : ℕ). x ≤ y) (mul_right_comm r.start r.rate L)
      (add-mul (r.units * 1000 + j * r.rate) 120000000000 L ∙ ap (λ (z : ℕ). z + 120000000000 * L) (scaled r.units 0 r.rate j))
      (mul-le-mul_right L (go (j * r.rate) (37300 * r.rate) (mul-le-mul_right r.rate l) b.low))
    where
      go : (x y : ℕ) → y ≤ x → r.start * r.rate ≤ r.units * 1000 + y + 120000000000 → r.start * r.rate ≤ r.units * 1000 + x + 120000000000
      go x y k g = omega arith

-- ---- the float of an offset, at 0h and at 12h
near_of : (p n U J S q m e : ℕ) → q ≡ m + e → 10 ^ 12 * (p * 10 ^ 10 + (m + S)) ≤ 10 ^ 12 * (n * 10 ^ 10 + (U + (J + q))) + 10 ^ 10 * L
    → 1000000000000000 * p + 100000 * S ≤ 1000000000000000 * n + 100000 * (U + J + e) + 1000 * L
near_of p n U J S q m e k h = omega arith

near-under : (p n U J S q m e : ℕ) → q ≡ m + e → 10 ^ 12 * (n * 10 ^ 10 + (U + (J + q))) ≤ 10 ^ 12 * (p * 10 ^ 10 + (m + S)) + 10 ^ 10 * L
    → 1000000000000000 * n + 100000 * (U + J + e) ≤ 1000000000000000 * p + 100000 * S + 1000 * L
near-under p n U J S q m e k h = omega arith

seconds-of : {r : Row} {j : ℕ} {f x : Float} (e : ℕ) → Val f e 0 L → NearFormula r j f x → Sec x (row_plus r j + e * r.rate) (row_minus r) 1000
seconds-of {r} {j} {f} {x} e v k =
    let q : k.q * r.rate ≡ k.m * r.rate + e * r.rate = ap (λ (z : ℕ). z * r.rate) (plain k.q k.m (val-unique k.fraction v))
    ∙ add-mul k.m e r.rate in
    record {
      p = k.p;
      n = k.n;
      val = k.offset;
      over = near_of k.p k.n (r.units * (1000 * L)) (j * L * r.rate) (row_minus r) (k.q * r.rate) (k.m * r.rate) (e * r.rate) q
          (subst₂ (λ (a b : ℕ). 10 ^ 12 * (k.p * 10 ^ 10 + a) ≤ 10 ^ 12 * (k.n * 10 ^ 10 + (r.units * (1000 * L) + b)) + 10 ^ 10 * L)
          (add-mul k.m (r.start * L) r.rate) (add-mul (j * L) k.q r.rate) k.over);
      under = near-under k.p k.n (r.units * (1000 * L)) (j * L * r.rate) (row_minus r) (k.q * r.rate) (k.m * r.rate) (e * r.rate) q
          (subst₂ (λ (a b : ℕ). 10 ^ 12 * (k.n * 10 ^ 10 + (r.units * (1000 * L) + b)) ≤ 10 ^ 12 * (k.p * 10 ^ 10 + a) + 10 ^ 10 * L)
          (add-mul k.m (r.start * L) r.rate) (add-mul (j * L) k.q r.rate) k.under);
    }
  where
    plain : (q m : ℕ) → q + 0 ≡ e + m → q ≡ m + e
    plain q m h = omega arith

pub at_midnight : {r : Row} {j : ℕ} {x : Float} → NearFormula r j nought x → Sec x (row_plus r j) (row_minus r) 1000
at_midnight {r} {j} {x} k = subst (λ (z : ℕ). Sec x z (row_minus r) 1000) (ap (λ (z : ℕ). row_plus r j + z) (zero-mul r.rate) ∙ plain (row_plus r j))
    (seconds-of 0 nought-L k)
  where
    plain : (z : ℕ) → z + 0 ≡ z
    plain z = omega arith

pub at_noon : {r : Row} {j : ℕ} {x : Float} → NearFormula r j half x → Sec x (row_plus r j + half_drift r) (row_minus r) 1000
at_noon k = seconds-of H half-L k

-- ---- a day without a step
pub no_step : (n : ℕ) → 2437301 ≤ n → NoStep n
    → row_plus (row_on (suc n)) (suc n - 2400001) + row_minus (row_on n) ≡ row_plus (row_on n) (n - 2400001) + 2 * half_drift (row_on n) + row_minus
    (row_on (suc n))
no_step n l k =
    let r = row_on n in
    let r' = row_on (suc n) in
    let i = n - 2400000 in
    let e = sym (value r' r i) ∙ ap (λ (z : ℕ). z * L) k.same ∙ value r r' i in
    subst (λ (z : ℕ). row_plus r' z + row_minus r ≡ row_plus r (n - 2400001) + 2 * half_drift r + row_minus r') (next n l)
    (go (row_plus r' i + row_minus r) (r.units * (1000 * L)) (i * L * r.rate) ((n - 2400001) * L * r.rate) (row_minus r') (2 * half_drift r) (r.rate * L) e
    (later r (n - 2400001) i (before n l)) (whole-drift r))
  where
    next : (n : ℕ) → 2437301 ≤ n → n - 2400000 ≡ suc n - 2400001
    next n l = omega arith

    before : (n : ℕ) → 2437301 ≤ n → n - 2400000 ≡ n - 2400001 + 1
    before n l = omega arith

    value : (r s : Row) (i : ℕ) → (r.units * 1000 + i * r.rate + s.start * s.rate) * L ≡ row_plus r i + row_minus s
    value r s i = add-mul (r.units * 1000 + i * r.rate) (s.start * s.rate) L
        ∙ ap (λ (z : ℕ). z + s.start * s.rate * L) (scaled r.units 0 r.rate i) ∙ ap (λ (z : ℕ). row_plus r i + z) (mul_right_comm s.start s.rate L)

    later : (r : Row) (j i : ℕ) → i ≡ j + 1 → i * L * r.rate ≡ j * L * r.rate + r.rate * L
    later r j i e = ap (λ (z : ℕ). z * L * r.rate) e ∙ ap (λ (z : ℕ). z * r.rate) (add-mul j 1 L ∙ ap (λ (z : ℕ). j * L + z) (one-mul L))
        ∙ add-mul (j * L) L r.rate ∙ ap (λ (z : ℕ). j * L * r.rate + z) (mul_comm L r.rate)

    go : (x u i j s g d : ℕ) → x ≡ u + i + s → i ≡ j + d → g ≡ d → x ≡ u + j + g + s
    go x u i j s g d e f h = omega arith
