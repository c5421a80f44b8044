-- The steps of the float chain over whole numbers alone: l stands for L, u for U, and w and z for powers of 2 that are multiples of them. A name `in-` says
-- that a step's exact result is small enough for its bound, `size-` how large its rounded result is; `gather` adds the errors of all steps but the first, and
-- `finish` that of the first. Assumes nothing.
use mathlib.Core.Path.{◌≡◌, sym, ap, ◌∙◌}
use Prim.Native.Nat.{ℕ, ◌+◌, ◌*◌, ◌≤◌, ◌<◌}
use native.Mathlib.Nat.{le_trans, le_of_eq, mul_comm, mul_assoc, mul_left_comm, mul-add, add-mul, mul-le-mul_left, le_of_mul-le-mul_right, mul-pos}
use native.Mathlib.Omega.{arith}

pub in_one : (b c E l w : ℕ) → w ≡ 2 * l → 0 < l → 0 < E → b ≤ c + l * E → b < c + w * E
in_one b c E l w e h g k = let a : w * E ≡ 2 * (l * E) = ap (λ (x : ℕ). x * E) e ∙ mul_assoc 2 l E in omega (arith, mul-pos h g)

-- the size of f * l
pub size-one : (b c E l u p n z : ℕ) → 0 < E → z ≡ 2 * u → b ≤ c + l * E → 2 * (E * p + 1 * c) ≤ 2 * (E * n + 1 * b) + E * z → p ≤ n + l + u
size-one b c E l u p n z g e h k =
    le_of_mul-le-mul_right {k = E} (le_trans
    (go (p * E) (n * E) (l * E) (u * E) (E * p) (E * n) (E * z) (mul_comm E p) (mul_comm E n)
    (ap (λ (x : ℕ). E * x) e ∙ mul_left_comm E 2 u ∙ ap (λ (x : ℕ). 2 * x) (mul_comm E u)) h k)
    (le_of_eq (sym (add-mul (n + l) u E ∙ ap (λ (x : ℕ). x + u * E) (add-mul n l E))))) g
  where
    go : (p n l u p' n' z : ℕ) → p' ≡ p → n' ≡ n → z ≡ 2 * u → b ≤ c + l → 2 * (p' + 1 * c) ≤ 2 * (n' + 1 * b) + z → p ≤ n + l + u
    go p n l u p' n' z a d f h k = omega arith

pub in_two : (p n l u w : ℕ) → w ≡ 2 * l → 0 < l → u ≤ l → p ≤ n + l + u → p < n + w * 86400
in_two p n l u w e h g k = omega arith

pub size-two : (p n l u a b z : ℕ) → z ≡ 2 * u → p ≤ n + l + u → 2 * (86400 * a + 1 * n) ≤ 2 * (86400 * b + 1 * p) + 86400 * z
    → 86400 * a ≤ 86400 * b + l + 86401 * u
size-two p n l u a b z e h k = omega arith

pub in_three : (F a b l u w : ℕ) → w ≡ 2 * l → F < l → 1000000000 * u ≤ l → 86400 * a ≤ 86400 * b + l + 86401 * u → F + a < 0 + b + w
in_three F a b l u w e h g k = omega arith

pub in_three' : (F a b l u w : ℕ) → w ≡ 2 * l → F < l → 1000000000 * u ≤ l → 86400 * b ≤ 86400 * a + l + 86401 * u → 0 + b < F + a + w
in_three' F a b l u w e h g k = omega arith

pub size-three : (F a b c d l u z : ℕ) → z ≡ 2 * u → F < l → 86400 * a ≤ 86400 * b + l + 86401 * u → 2 * (c + (0 + b)) ≤ 2 * (d + (F + a)) + z
    → 86400 * c ≤ 86400 * d + 86401 * l + 172801 * u
size-three F a b c d l u z e h g k = omega arith

pub size-three' : (F a b c d l u z : ℕ) → z ≡ 2 * u → 86400 * b ≤ 86400 * a + l + 86401 * u → 2 * (d + (F + a)) ≤ 2 * (c + (0 + b)) + z
    → 86400 * d ≤ 86400 * c + 86401 * l + 172801 * u
size-three' F a b c d l u z e g k = omega arith

pub in_four : (c d l u w : ℕ) → w ≡ 131072 * l → 0 < l → 1000000000 * u ≤ l → 86400 * c ≤ 86400 * d + 86401 * l + 172801 * u → c * 86400 < d * 86400 + w * 1
in_four c d l u w e h g k = omega arith

pub size-four : (c d s t l u z : ℕ) → z ≡ 131072 * u → 86400 * c ≤ 86400 * d + 86401 * l + 172801 * u
    → 2 * (1 * s + 86400 * d) ≤ 2 * (1 * t + 86400 * c) + 1 * z → s ≤ t + 86401 * l + 238337 * u
size-four c d s t l u z e h k = omega arith

pub in_five : (s t l u w : ℕ) → w ≡ 134217728 * l → 0 < l → 1000000000 * u ≤ l → s ≤ t + 86401 * l + 238337 * u → s * 1000 < t * 1000 + w * 1
in_five s t l u w e h g k = omega arith

-- all but the first step: it is linear
pub gather : (F p n a b c d s t x y u z2 z8 z9 : ℕ) → z2 ≡ 2 * u → z8 ≡ 131072 * u → z9 ≡ 134217728 * u
    → 2 * (86400 * a + 1 * n) ≤ 2 * (86400 * b + 1 * p) + 86400 * z2
    → 2 * (c + (0 + b)) ≤ 2 * (d + (F + a)) + z2
    → 2 * (1 * s + 86400 * d) ≤ 2 * (1 * t + 86400 * c) + 1 * z8
    → 2 * (1 * x + 1000 * t) ≤ 2 * (1 * y + 1000 * s) + 1 * z9
    → x + 1000 * n ≤ y + 86400000 * F + 1000 * p + 305444864 * u
gather F p n a b c d s t x y u z2 z8 z9 e f g h i j k = omega arith

pub gather' : (F p n a b c d s t x y u z2 z8 z9 : ℕ) → z2 ≡ 2 * u → z8 ≡ 131072 * u → z9 ≡ 134217728 * u
    → 2 * (86400 * b + 1 * p) ≤ 2 * (86400 * a + 1 * n) + 86400 * z2
    → 2 * (d + (F + a)) ≤ 2 * (c + (0 + b)) + z2
    → 2 * (1 * t + 86400 * c) ≤ 2 * (1 * s + 86400 * d) + 1 * z8
    → 2 * (1 * y + 1000 * s) ≤ 2 * (1 * x + 1000 * t) + 1 * z9
    → y + 86400000 * F + 1000 * p ≤ x + 1000 * n + 305444864 * u
gather' F p n a b c d s t x y u z2 z8 z9 e f g h i j k = omega arith

-- and the first, which is not: all times E
pub finish : (F b c E p n x y u z : ℕ) → z ≡ 2 * u → 2 * (E * p + 1 * c) ≤ 2 * (E * n + 1 * b) + E * z
    → x + 1000 * n ≤ y + 86400000 * F + 1000 * p + 305444864 * u
    → E * x + 1000 * c ≤ E * y + 86400000 * (E * F) + 1000 * b + 305445864 * (E * u)
finish F b c E p n x y u z e h k =
    let a : E * z ≡ 2 * (E * u) = ap (λ (w : ℕ). E * w) e ∙ mul_left_comm E 2 u in
    let d : E * (x + 1000 * n) ≤ E * (y + 86400000 * F + 1000 * p + 305444864 * u) = mul-le-mul_left E k in
    omega (arith, simp mul-add at d, mul_left_comm E 1000 n, mul_left_comm E 1000 p, mul_left_comm E 86400000 F, mul_left_comm E 305444864 u)

pub finish' : (F b c E p n x y u z : ℕ) → z ≡ 2 * u → 2 * (E * n + 1 * b) ≤ 2 * (E * p + 1 * c) + E * z
    → y + 86400000 * F + 1000 * p ≤ x + 1000 * n + 305444864 * u
    → E * y + 86400000 * (E * F) + 1000 * b ≤ E * x + 1000 * c + 305445864 * (E * u)
finish' F b c E p n x y u z e h k =
    let a : E * z ≡ 2 * (E * u) = ap (λ (w : ℕ). E * w) e ∙ mul_left_comm E 2 u in
    let d : E * (y + 86400000 * F + 1000 * p) ≤ E * (x + 1000 * n + 305444864 * u) = mul-le-mul_left E k in
    omega (arith, simp mul-add at d, mul_left_comm E 1000 n, mul_left_comm E 1000 p, mul_left_comm E 86400000 F, mul_left_comm E 305444864 u)
