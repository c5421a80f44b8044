-- Nearness to the exact time of day: another way to write the fraction, the day's end in place of a count past it, and 0.501 ms. Assumes nothing.
use mathlib.Core.Path.{◌≡◌, sym, ap, ◌∙◌}
use Prim.Native.Nat.{ℕ, ◌+◌, ◌*◌, ◌≤◌, ◌<◌}
use native.Mathlib.Nat.{le_trans, le_of_eq, mul_comm, mul_assoc, mul_right_comm, add-mul, mul-le-mul_left, mul-le-mul_right, le_of_mul-le-mul_right}
use native.Mathlib.Omega.{arith}
use Rattle.time_of_day.specs.ExactTime.{TimeWithin}

pub close_move : (c e s F D G C W E : ℕ) → 0 < C → G * D ≡ F * C → TimeWithin c e s G C W E → TimeWithin c e s F D W E
close_move c e s F D G C W E h q k = record {
  over = le_of_mul-le-mul_right {k = C} (le_trans (le_of_eq left) (le_trans (mul-le-mul_right D k.over) (le_of_eq right))) h;
  under = le_of_mul-le-mul_right {k = C} (le_trans (le_of_eq (sym part)) (le_trans (mul-le-mul_right D k.under) (le_of_eq both))) h;
}
  where
    left : c * (s * D) * C ≡ c * (s * C) * D
    left = mul_assoc c (s * D) C ∙ ap (λ (z : ℕ). c * z) (mul_right_comm s D C) ∙ sym (mul_assoc c (s * C) D)

    part : c * (1000 * (G * W)) * D ≡ c * (1000 * (F * W)) * C
    part = mul_assoc c (1000 * (G * W)) D
        ∙ ap (λ (z : ℕ). c * z) (mul_assoc 1000 (G * W) D ∙ ap (λ (z : ℕ). 1000 * z) (mul_right_comm G W D ∙ ap (λ (z : ℕ). z * W) q ∙ mul_right_comm F C W)
        ∙ sym (mul_assoc 1000 (F * W) C)) ∙ sym (mul_assoc c (1000 * (F * W)) C)

    err : e * (C * E) * D ≡ e * (D * E) * C
    err = mul_assoc e (C * E) D ∙ ap (λ (z : ℕ). e * z) (mul_right_comm C E D ∙ ap (λ (z : ℕ). z * E) (mul_comm C D) ∙ mul_right_comm D C E)
        ∙ sym (mul_assoc e (D * E) C)

    right : (c * (1000 * (G * W)) + e * (C * E)) * D ≡ (c * (1000 * (F * W)) + e * (D * E)) * C
    right = add-mul (c * (1000 * (G * W))) (e * (C * E)) D ∙ ap (λ (z : ℕ). z + e * (C * E) * D) part ∙ ap (λ (z : ℕ). c * (1000 * (F * W)) * C + z) err
        ∙ sym (add-mul (c * (1000 * (F * W))) (e * (D * E)) C)

    both : (c * (s * C) + e * (C * E)) * D ≡ (c * (s * D) + e * (D * E)) * C
    both = add-mul (c * (s * C)) (e * (C * E)) D ∙ ap (λ (z : ℕ). z + e * (C * E) * D) (sym left) ∙ ap (λ (z : ℕ). c * (s * D) * C + z) err
        ∙ sym (add-mul (c * (s * D)) (e * (D * E)) C)

pub close_end : (c e s F D W E : ℕ) → F ≤ D → 1000 * W ≤ s → TimeWithin c e s F D W E → TimeWithin c e (1000 * W) F D W E
close_end c e s F D W E h g k = record {
  over = le_trans (mul-le-mul_left c (mul-le-mul_right D g)) k.over;
  under = le_trans (mul-le-mul_left c
      (le_trans (mul-le-mul_left 1000 (mul-le-mul_right W h)) (le_of_eq (ap (λ (z : ℕ). 1000 * z) (mul_comm D W) ∙ sym (mul_assoc 1000 W D)))))
      (some (c * (1000 * W * D)) (e * (D * E)));
}
  where
    some : (a b : ℕ) → a ≤ a + b
    some a b = omega arith

pub close_501 : (s F D W E : ℕ) → TimeWithin 16777216 8388609 s F D W E → TimeWithin 1000 501 s F D W E
close_501 s F D W E k = record { over = go (s * D) (1000 * (F * W)) (D * E) k.over; under = go' (s * D) (1000 * (F * W)) (D * E) k.under }
  where
    go : (a x d : ℕ) → 16777216 * a ≤ 16777216 * x + 8388609 * d → 1000 * a ≤ 1000 * x + 501 * d
    go a x d h = omega arith

    go' : (a x d : ℕ) → 16777216 * x ≤ 16777216 * a + 8388609 * d → 1000 * x ≤ 1000 * a + 501 * d
    go' a x d h = omega arith
