-- A half to the even whole number is a rule of rounding to a nearest one: so demand 3's nearness holds of it. And a tie goes to the even one. Assumes nothing.
use mathlib.Core.Path.{◌≡◌, refl, sym, ap, ◌∙◌}
use mathlib.Core.Bool.{Bool, true, false}
use Prim.Native.Nat.{ℕ, ◌+◌, ◌*◌, ◌/◌, ◌%◌, ◌≤◌, ◌<◌}
use native.Mathlib.Nat.{mul_comm, mul_assoc, mul_right_comm, add-mul, mul-le-mul_right, mul-lt-mul_of_pos_right, lt_of_mul-lt-mul_right, div-add-mod', mod-lt}
use native.Mathlib.Omega.{arith}
use lib.Dec.{ltb}
use lib.Ieee.Nearest.{div_same}
use borrow.Author.Tests.{ltb-true, ltb-false}
use Rattle.time_of_day.specs.Nearest.{Nearest}
use Rattle.time_of_day.specs.HalfEven.{nearest_even, even}
use Rattle.time_of_day.proofs.EvenSteps.{at_half, below_half, above_half}

-- ---- a rest is below a half, at it, or above it
pub data Side (r d : ℕ) : Type 0 where
  below : 2 * r < d → Side r d
  at : 2 * r ≡ d → Side r d
  above : d < 2 * r → Side r d

pub side : (r d : ℕ) → Side r d
side r d = go (ltb (2 * r) d) refl (ltb d (2 * r)) refl
  where
    go : (a : Bool) → ltb (2 * r) d ≡ a → (b : Bool) → ltb d (2 * r) ≡ b → Side r d
    go true e b f = below (ltb-true (2 * r) d e)
    go false e true f = above (ltb-true d (2 * r) f)
    go false e false f = let x = ltb-false (2 * r) d e in let y = ltb-false d (2 * r) f in at (omega arith)

-- ---- near
near-rest : (q r d k : ℕ) → r < d → Side r d → k ≡ nearest_even q r d → (2 * (k * d) ≤ 2 * (q * d + r) + d) × (2 * (q * d + r) ≤ 2 * (k * d) + d)
near-rest q r d k h (below s) e =
    let i : k ≡ q = e ∙ sym (below_half q r d s) in
    let j : k * d ≡ q * d = ap (λ (z : ℕ). z * d) i in
    (omega arith, omega arith)
near-rest q r d k h (at s) e =
    let i : k ≡ q + q % 2 = e ∙ sym (at_half q r d s) in
    let j : k * d ≡ q * d + q % 2 * d = ap (λ (z : ℕ). z * d) i ∙ add-mul q (q % 2) d in
    let m : q % 2 * d ≤ 1 * d = mul-le-mul_right d (omega arith) in
    (omega arith, omega arith)
near-rest q r d k h (above s) e =
    let i : k ≡ q + 1 = e ∙ sym (above_half q r d s) in
    let j : k * d ≡ q * d + 1 * d = ap (λ (z : ℕ). z * d) i ∙ add-mul q 1 d in
    (omega arith, omega arith)

near_even : (n d : ℕ) → 0 < d → (2 * (even false n d * d) ≤ 2 * n + d) × (2 * n ≤ 2 * (even false n d * d) + d)
near_even n d h =
    let k = near-rest (n / d) (n % d) d (even false n d) (mod-lt n h) (side (n % d) d) refl in
    let e : n / d * d + n % d ≡ n = div-add-mod' n d in
    (omega (arith, k.0), omega (arith, k.1))

-- ---- the same for every way to write the fraction
module _ (r d s c : ℕ) (h : 0 < d) (k : 0 < c) (e : r * c ≡ s * d) where
  twice-is : 2 * r * c ≡ 2 * s * d
  twice-is = mul_assoc 2 r c ∙ ap (λ (z : ℕ). 2 * z) e ∙ sym (mul_assoc 2 s d)

  moves_below : 2 * r < d → 2 * s < c
  moves_below t = lt_of_mul-lt-mul_right d (go (2 * r * c) (2 * s * d) (d * c) (c * d) twice-is (mul_comm d c) (mul-lt-mul_of_pos_right t k))
    where
      go : (a b x y : ℕ) → a ≡ b → x ≡ y → a < x → b < y
      go a b x y p q t = omega arith

  moves_above : d < 2 * r → c < 2 * s
  moves_above t = lt_of_mul-lt-mul_right d (go (2 * r * c) (2 * s * d) (d * c) (c * d) twice-is (mul_comm d c) (mul-lt-mul_of_pos_right t k))
    where
      go : (a b x y : ℕ) → a ≡ b → x ≡ y → x < a → y < b
      go a b x y p q t = omega arith

rests : (q n d m c a b : ℕ) → q * d + a ≡ n → q * c + b ≡ m → n * c ≡ m * d → a * c ≡ b * d
rests q n d m c a b e f g =
    go (q * d * c) (a * c) (q * c * d) (b * d) (mul_right_comm q d c)
    (sym (add-mul (q * d) a c) ∙ ap (λ (z : ℕ). z * c) e ∙ g ∙ ap (λ (z : ℕ). z * d) (sym f) ∙ add-mul (q * c) b d)
  where
    go : (x y u v : ℕ) → x ≡ u → x + y ≡ u + v → y ≡ v
    go x y u v p q = omega arith

same_rest : (q r d s c : ℕ) → 0 < d → 0 < c → r * c ≡ s * d → Side r d → Side s c → nearest_even q r d ≡ nearest_even q s c
same_rest q r d s c h k e (below t) y = sym (below_half q r d t) ∙ below_half q s c (moves_below r d s c h k e t)
same_rest q r d s c h k e (above t) y = sym (above_half q r d t) ∙ above_half q s c (moves_above r d s c h k e t)
same_rest q r d s c h k e (at t) (at u) = sym (at_half q r d t) ∙ at_half q s c u
same_rest q r d s c h k e (at t) (below u) = let x = moves_below s c r d k h (sym e) u in let z : ⊥ = omega arith in absurd z
same_rest q r d s c h k e (at t) (above u) = let x = moves_above s c r d k h (sym e) u in let z : ⊥ = omega arith in absurd z

same-even : (n d m c : ℕ) → 0 < d → 0 < c → n * c ≡ m * d → even false n d ≡ even false m c
same-even n d m c h k e =
    let q : n / d ≡ m / c = div_same n d m c h k e in
    ap (λ (z : ℕ). nearest_even z (n % d) d) q
    ∙ same_rest (m / c) (n % d) d (m % c) c h k
    (rests (m / c) n d m c (n % d) (m % c) (ap (λ (z : ℕ). z * d + n % d) (sym q) ∙ div-add-mod' n d) (div-add-mod' m c) e) (side (n % d) d)
    (side (m % c) c)

pub even-nearest : Nearest even
even-nearest = record { near = λ s n d h. near_even n d h; same = λ s n d m c h k e. same-even n d m c h k e }

-- ---- A TIE IS EVEN: of q + 1 / 2 the result is q or q + 1, whichever is even
pub tie_even : (q r d : ℕ) → 2 * r ≡ d → nearest_even q r d % 2 ≡ 0
tie_even q r d e = ap (λ (z : ℕ). z % 2) (sym (at_half q r d e)) ∙ go q
  where
    go : (q : ℕ) → (q + q % 2) % 2 ≡ 0
    go q = omega arith
