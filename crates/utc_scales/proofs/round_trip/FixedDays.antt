-- The days of the fixed table, which leaves no second out: TAI-UTC is 10 to 37 s from 1972 on, and later never less. Assumes nothing.
use mathlib.Core.Path.{◌≡◌, sym, ap, ◌∙◌, subst}
use mathlib.Core.Bool.{Bool, true, false, cond}
use mathlib.Core.Logic.{◌⊎◌, inl, inr}
use Prim.Native.Nat.{ℕ, zero, suc, ◌+◌, ◌-◌, ◌*◌, ◌≤◌, ◌<◌}
use native.Mathlib.Nat.{add-mul, mul-le-mul_right}
use native.Mathlib.Omega.{arith}
use Rattle.rounding.specs.Value.{L}
use Rattle.leap_table.specs.rows.Table.{fixed, starts, reached, last_seconds}
use Rattle.leap_table.proofs.rows.Reached.{member, month-later}
use Rattle.leap_table.proofs.rows.Rows.{fixed-rises as rows-rise}
use Rattle.leap_table.proofs.offsets.Years.{whole-rows, most-rows}
use Rattle.leap_table.proofs.offsets.WholeSeconds.{fixed-seconds}
use Rattle.utc_scales.specs.round_trip.UtcDays.{month_on, seconds_on, leap_after, short_after}
use Rattle.utc_scales.proofs.round_trip.DaySeconds.{month-1972, month-next}
use Rattle.utc_scales.proofs.round_trip.Steady.{tai_utc_at, one-or-next}

-- a day begins with 10 whole seconds or more, up to those of the last row, and ends with as many or one more
pub record FixedDay (n : ℕ) : Type 0 where
  pub least : 10 ≤ seconds_on fixed n
  pub step : leap_after fixed n ≤ 1
  pub none_out : short_after fixed n ≡ 0
  pub next : seconds_on fixed n + leap_after fixed n ≡ seconds_on fixed (suc n)
  pub most : seconds_on fixed n + leap_after fixed n ≤ last_seconds

module _ (n : ℕ) (g : 2441318 ≤ n) (k : n < 1000000000) where
  rows_next : (b : Bool) × (reached (starts fixed) (month_on (suc n)) ≡ cond b (suc (reached (starts fixed) (month_on n)))
      (reached (starts fixed) (month_on n)))
  rows_next = go (month-next n g k).0 (month-next n g k).1
    where
      go : (b : Bool) → month_on (suc n) ≡ cond b (month_on n) (suc (month_on n)) → (c : Bool)
          × (reached (starts fixed) (month_on (suc n)) ≡ cond c (suc (reached (starts fixed) (month_on n))) (reached (starts fixed) (month_on n)))
      go true e = (false, ap (reached (starts fixed)) e)
      go false e = (member (suc (month_on n)) (starts fixed), ap (reached (starts fixed)) e ∙ month-later (starts fixed) rows-rise (month_on n))

  here : seconds_on fixed n ≡ reached (starts fixed) (month_on n) - 5
  unfolding seconds_on
  here = fixed-seconds (month_on n) (month-1972 n g)

  there : seconds_on fixed (suc n) ≡ reached (starts fixed) (month_on (suc n)) - 5
  unfolding seconds_on
  there = fixed-seconds (month_on (suc n)) (month-1972 (suc n) (omega arith))

  pub fixed-day : FixedDay n
  unfolding leap_after short_after
  fixed-day = go rows_next.0 rows_next.1
    where
      go : (c : Bool) → reached (starts fixed) (month_on (suc n)) ≡ cond c (suc (reached (starts fixed) (month_on n))) (reached (starts fixed) (month_on n))
          → FixedDay n
      go true e =
          let a = whole-rows (month_on n) (month-1972 n g) in
          let b = most-rows (month_on (suc n)) in
          record {
            least = omega (arith, here);
            step = omega (arith, here, there);
            none_out = omega (arith, here, there);
            next = omega (arith, here, there);
            most = omega (arith, here, there);
          }
      go false e =
          let a = whole-rows (month_on n) (month-1972 n g) in
          let b = most-rows (month_on (suc n)) in
          record {
            least = omega (arith, here);
            step = omega (arith, here, there);
            none_out = omega (arith, here, there);
            next = omega (arith, here, there);
            most = omega (arith, here, there);
          }

-- ---- TAI-UTC at a fraction f of the day, where nothing is left out
plainly : (n f : ℕ) → FixedDay n → tai_utc_at fixed n f ≡ seconds_on fixed n * L + leap_after fixed n * f
plainly n f t = go (seconds_on fixed n * L + leap_after fixed n * f) (short_after fixed n) t.none_out
  where
    go : (x r : ℕ) → r ≡ 0 → x - r * f ≡ x
    go x r e = subst (λ (z : ℕ). x - z * f ≡ x) (sym e) (omega arith)

share : (s f : ℕ) → s ≤ 1 → f < L → (s * f ≤ f) × (s * f ≤ s * L)
share zero f k b = omega arith
share (suc zero) f k b = omega arith
share (suc (suc s)) f k b = absurd (omega arith)

pub fixed-few : (n f : ℕ) → FixedDay n → f < L → (10 * L ≤ tai_utc_at fixed n f) × (tai_utc_at fixed n f ≤ last_seconds * L)
fixed-few n f t b =
    subst (λ (z : ℕ). (10 * L ≤ z) × (z ≤ last_seconds * L)) (sym (plainly n f t))
    (go (seconds_on fixed n * L) (leap_after fixed n * L) (leap_after fixed n * f) (mul-le-mul_right L t.least)
    (subst (λ (z : ℕ). z ≤ last_seconds * L) (add-mul (seconds_on fixed n) (leap_after fixed n) L) (mul-le-mul_right L t.most))
    (share (leap_after fixed n) f t.step b).1)
  where
    go : (d s g : ℕ) → 10 * L ≤ d → d + s ≤ last_seconds * L → g ≤ s → (10 * L ≤ d + g) × (d + g ≤ last_seconds * L)
    go d s g k l m = omega arith

-- ---- less than a day apart, TAI-UTC is later never less
pub fixed-rises : (n m f e : ℕ) → FixedDay n → FixedDay m → f < L → e < L → n * L + f ≤ m * L + e → m * L + e < n * L + f + L
    → tai_utc_at fixed n f ≤ tai_utc_at fixed m e
fixed-rises n m f e t r b c l k = go (one-or-next n m f e b c l k)
  where
    one : (s d N : ℕ) → s ≤ 1 → N + f ≤ N + e → d + s * f ≤ d + s * e
    one zero d N i j = omega arith
    one (suc zero) d N i j = omega arith
    one (suc (suc s)) d N i j = absurd (omega arith)

    two : (d s x g : ℕ) → x ≡ d + s → g ≤ s → (y : ℕ) → d + g ≤ x + y
    two d s x g i j y = omega arith

    go : (m ≡ n) ⊎ (m ≡ suc n) → tai_utc_at fixed n f ≤ tai_utc_at fixed m e
    go (inl q) =
        subst (λ (x : ℕ). tai_utc_at fixed n f ≤ tai_utc_at fixed x e) (sym q)
        (subst (λ (x : ℕ). x ≤ tai_utc_at fixed n e) (sym (plainly n f t))
        (subst (λ (x : ℕ). seconds_on fixed n * L + leap_after fixed n * f ≤ x) (sym (plainly n e t))
        (one (leap_after fixed n) (seconds_on fixed n * L) (n * L) t.step (subst (λ (x : ℕ). n * L + f ≤ x * L + e) q l))))
    go (inr q) =
        let r' = subst (λ (x : ℕ). FixedDay x) q r in
        subst (λ (x : ℕ). tai_utc_at fixed n f ≤ tai_utc_at fixed x e) (sym q)
        (subst (λ (x : ℕ). x ≤ tai_utc_at fixed (suc n) e) (sym (plainly n f t))
        (subst (λ (x : ℕ). seconds_on fixed n * L + leap_after fixed n * f ≤ x) (sym (plainly (suc n) e r'))
        (two (seconds_on fixed n * L) (leap_after fixed n * L) (seconds_on fixed (suc n) * L) (leap_after fixed n * f)
        (ap (λ (z : ℕ). z * L) (sym t.next) ∙ add-mul (seconds_on fixed n) (leap_after fixed n) L) (share (leap_after fixed n) f t.step b).1
        (leap_after fixed (suc n) * e))))
