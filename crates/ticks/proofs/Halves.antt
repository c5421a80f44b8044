-- A product over 64 bits, divided, by halves of 20 bits.
use mathlib.Core.Path.{◌≡◌, sym, ap, ◌∙◌}
use Prim.Native.Nat.{ℕ, ◌+◌, ◌*◌, ◌/◌, ◌%◌, ◌≤◌, ◌<◌}
use native.Mathlib.Nat.{add-mul, mul_right_comm, div-add-mod', mul-add-div_right, mul-le-mul_right, div-le_of_le-mul}
use native.Mathlib.Omega.{arith}

lin : (ac hKc lc hc qd s qKd : ℕ) → ac ≡ hKc + lc → hKc ≡ hc * 1048576 → hc ≡ qd + s → qKd ≡ qd * 1048576 → ac ≡ qKd + (s * 1048576 + lc)
lin ac hKc lc hc qd s qKd e f g k = omega arith

cut : (a : ℕ) → a ≡ a / 1048576 * 1048576 + a % 1048576
cut a = omega arith

pub halves : (a c d : ℕ) → 0 < d → a * c / d ≡ (a / 1048576 * c) / d * 1048576 + ((a / 1048576 * c) % d * 1048576 + a % 1048576 * c) / d
halves a c d p =
    let h = a / 1048576 in
    let l = a % 1048576 in
    let q = (h * c) / d in
    let s = (h * c) % d in
    ap (λ (z : ℕ). z / d)
    (lin (a * c) (h * 1048576 * c) (l * c) (h * c) (q * d) s (q * 1048576 * d)
    (ap (λ (z : ℕ). z * c) (cut a) ∙ add-mul (h * 1048576) l c)
    (mul_right_comm h 1048576 c)
    (sym (div-add-mod' (h * c) d))
    (mul_right_comm q 1048576 d))
    ∙ mul-add-div_right p (q * 1048576) (s * 1048576 + l * c)

pub quotient-small : (a c d : ℕ) → a ≤ d → a * c / d ≤ c
quotient-small a c d h = div-le_of_le-mul d (mul-le-mul_right c h)
