-- Equal fractions of natural numbers: a / c = A / D as a * D ≡ A * c, and what sums, differences, products and the order make of it. Assumes nothing.
use mathlib.Core.Path.{◌≡◌, sym, ap, ◌∙◌}
use Prim.Native.Nat.{ℕ, ◌+◌, ◌-◌, ◌*◌, ◌≤◌, ◌<◌}
use native.Mathlib.Nat.{le_trans, le_of_eq, lt_of_lt_of_le, lt_of_le_of_lt, mul_comm, mul_assoc, mul_left_comm, mul_right_comm, mul-le-mul_right}
use native.Mathlib.Nat.{le_of_mul-le-mul_right, mul-lt-mul_of_pos_right, lt_of_mul-lt-mul_right, add-mul, mul-sub, mul-mul-mul_comm}

-- (a - b) * c = a * c - b * c
pub sub_mul : (a b c : ℕ) → (a - b) * c ≡ a * c - b * c
sub_mul a b c = mul_comm (a - b) c ∙ mul-sub c a b ∙ ap (λ (x : ℕ). x - c * b) (mul_comm c a) ∙ ap (λ (x : ℕ). a * c - x) (mul_comm c b)

-- ---- a / c = A / D and b / c = B / D
pub order : (a b c A B D : ℕ) → 0 < c → a * D ≡ A * c → b * D ≡ B * c → a ≤ b → A ≤ B
order a b c A B D C e g h = le_of_mul-le-mul_right (le_trans (le_of_eq (sym e)) (le_trans (mul-le-mul_right D h) (le_of_eq g))) C

pub order_lt : (a b c A B D : ℕ) → 0 < D → a * D ≡ A * c → b * D ≡ B * c → a < b → A < B
order_lt a b c A B D E e g h = lt_of_mul-lt-mul_right c (lt_of_le_of_lt (le_of_eq (sym e)) (lt_of_lt_of_le (mul-lt-mul_of_pos_right h E) (le_of_eq g)))

pub plus : (a b c A B D : ℕ) → a * D ≡ A * c → b * D ≡ B * c → (a + b) * D ≡ (A + B) * c
plus a b c A B D e g = add-mul a b D ∙ ap (λ (x : ℕ). x + b * D) e ∙ ap (λ (x : ℕ). A * c + x) g ∙ sym (add-mul A B c)

pub less : (a b c A B D : ℕ) → a * D ≡ A * c → b * D ≡ B * c → (a - b) * D ≡ (A - B) * c
less a b c A B D e g = sub_mul a b D ∙ ap (λ (x : ℕ). x - b * D) e ∙ ap (λ (x : ℕ). A * c - x) g ∙ sym (sub_mul A B c)

-- ---- M / c = A / D, over the common denominator c * d, and over d * c
pub cross_l : (M c d A D : ℕ) → M * D ≡ A * c → M * d * D ≡ A * (c * d)
cross_l M c d A D e = mul_right_comm M d D ∙ ap (λ (x : ℕ). x * d) e ∙ mul_assoc A c d

pub cross_r : (M c d B D : ℕ) → M * D ≡ B * d → M * c * D ≡ B * (c * d)
cross_r M c d B D e = mul_right_comm M c D ∙ ap (λ (x : ℕ). x * c) e ∙ mul_assoc B d c ∙ ap (λ (x : ℕ). B * x) (mul_comm d c)

-- ---- a / c = A / D and b / d = B / E
pub times : (a b c d A B D E : ℕ) → a * D ≡ A * c → b * E ≡ B * d → a * b * (D * E) ≡ A * B * (c * d)
times a b c d A B D E h k = mul-mul-mul_comm a b D E ∙ ap (λ (x : ℕ). x * (b * E)) h ∙ ap (λ (x : ℕ). A * c * x) k ∙ mul-mul-mul_comm A c B d

pub quotient-same : (a b c d A B D E : ℕ) → a * D ≡ A * c → b * E ≡ B * d → a * d * (D * B) ≡ A * E * (b * c)
quotient-same a b c d A B D E h k =
    simp (mul_assoc, mul_comm, mul_left_comm) (simp (mul_assoc, mul_comm, mul_left_comm) at (ap (λ (z : ℕ). z * (B * d)) h ∙ ap (λ (z : ℕ). A * c * z) (sym k)))
