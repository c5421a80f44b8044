-- A size with a sign as a difference p - n of natural numbers: `Signed s a p n`, and the size |p - n| of a pair. `omega` splits each `-` into cases and takes
-- no more than six, so these laws take |p - n| away before it is called. Assumes nothing.
use mathlib.Core.Path.{◌≡◌, sym, ap, ◌∙◌}
use Prim.Native.Nat.{ℕ, ◌+◌, ◌-◌, ◌*◌, ◌≤◌, ◌<◌}
use native.Mathlib.Nat.{le_trans, le_of_eq, le_of_lt, le_refl, mul-le-mul, mul-add, add-mul, add-zero}
use native.Mathlib.Omega.{arith}
use mathlib.Core.Bool.{Bool, true, false, not}
use lib.Dec.{T, leb, leb→le, nleb→lt}
use lib.Ieee.{unlike}
use Rattle.rounding.specs.Value.{Signed}

-- the pair of a size with a sign: (a, 0) or (0, a)
abbrev pub plus-of : Bool → ℕ → ℕ
plus-of false a = a
plus-of true a = 0

abbrev pub minus-of : Bool → ℕ → ℕ
minus-of false a = 0
minus-of true a = a

pub signed_of : (s : Bool) (a : ℕ) → Signed s a (plus-of s a) (minus-of s a)
signed_of false a = add-zero a
signed_of true a = add-zero a

-- ---- the other sign, another pair, another unit, a product
pub signed-not : (s : Bool) (a p n : ℕ) → Signed s a p n → Signed (not s) a n p
signed-not false a p n h = h
signed-not true a p n h = h

pub signed-move : (s : Bool) (a p n p' n' : ℕ) → Signed s a p n → p + n' ≡ p' + n → Signed s a p' n'
signed-move false a p n p' n' h e = omega arith
signed-move true a p n p' n' h e = omega arith

pub signed-scale : (s : Bool) (a p n c : ℕ) → Signed s a p n → Signed s (a * c) (p * c) (n * c)
signed-scale false a p n c h = sym (add-mul a n c) ∙ ap (λ (x : ℕ). x * c) h
signed-scale true a p n c h = sym (add-mul a p c) ∙ ap (λ (x : ℕ). x * c) h

pub signed-times : (s t : Bool) (A B p n q m : ℕ) → Signed s A p n → Signed t B q m → Signed (unlike s t) (A * B) (p * q + n * m) (p * m + n * q)
signed-times false false A B p n q m h k = rw (← h, ← k) (simp (add-mul, mul-add) (omega arith))
signed-times false true A B p n q m h k = rw (← h, ← k) (simp (add-mul, mul-add) (omega arith))
signed-times true false A B p n q m h k = rw (← h, ← k) (simp (add-mul, mul-add) (omega arith))
signed-times true true A B p n q m h k = rw (← h, ← k) (simp (add-mul, mul-add) (omega arith))

-- ---- a bound both ways is a bound of the size
pub signed_le : (s : Bool) (a p n B : ℕ) → Signed s a p n → p ≤ n + B → n ≤ p + B → a ≤ B
signed_le false a p n B h k l = omega arith
signed_le true a p n B h k l = omega arith

pub signed_lt : (s : Bool) (a p n B : ℕ) → Signed s a p n → p < n + B → n < p + B → a < B
signed_lt false a p n B h k l = omega arith
signed_lt true a p n B h k l = omega arith

-- ---- |p - n|
abbrev pub dist : ℕ → ℕ → ℕ
dist p n = (p - n) + (n - p)

pub signed-dist : (s : Bool) (a p n : ℕ) → Signed s a p n → dist p n ≡ a
signed-dist false a p n h = omega arith
signed-dist true a p n h = omega arith

pub dist_shift : (p n x y : ℕ) → p + y ≡ n + x → dist p n ≡ dist x y
dist_shift p n x y h = omega arith

pub dist_hi : (p n : ℕ) → n ≤ p → dist p n + n ≡ p
dist_hi p n h = omega arith

pub dist_lo : (p n : ℕ) → p ≤ n → dist p n + p ≡ n
dist_lo p n h = omega arith

pub dist_up : (p n : ℕ) → (p ≤ n + dist p n) × (n ≤ p + dist p n)
dist_up p n = omega arith

pub dist_le : (p n K : ℕ) → p ≤ n + K → n ≤ p + K → dist p n ≤ K
dist_le p n K h k = omega arith

pub dist_flip : (p n : ℕ) → dist p n ≡ dist n p
dist_flip p n = omega arith

pub dist_zero : (p : ℕ) → dist p 0 ≡ p
dist_zero p = omega arith

-- ---- |p - n| ≤ A and |q - m| ≤ B make |(p - n) * (q - m)| ≤ A * B, without the absolute values
up : (a q m A B : ℕ) → a ≤ A → q ≤ m + B → a * q ≤ a * m + A * B
up a q m A B h l = le_trans (mul-le-mul (le_refl a) l) (le_trans (le_of_eq (mul-add a m B)) (more (a * m) (mul-le-mul h (le_refl B))))
  where
    more : (c : ℕ) {x y : ℕ} → x ≤ y → c + x ≤ c + y
    more c e = omega arith

pub product_le : (p n q m A B : ℕ) → p ≤ n + A → n ≤ p + A → q ≤ m + B → m ≤ q + B → p * q + n * m ≤ p * m + n * q + A * B
product_le p n q m A B a b c d = go (leb n p) (leb→le n p) (nleb→lt n p)
  where
    above : (x : ℕ) → p ≡ n + x → p * q + n * m ≤ p * m + n * q + A * B
    above x e =
        let k = up x q m A B (omega arith) c in
        let f : p * q ≡ n * q + x * q = ap (λ (z : ℕ). z * q) e ∙ add-mul n x q in
        let g : p * m ≡ n * m + x * m = ap (λ (z : ℕ). z * m) e ∙ add-mul n x m in
        omega arith

    below : (x : ℕ) → n ≡ p + x → p * q + n * m ≤ p * m + n * q + A * B
    below x e =
        let k = up x m q A B (omega arith) d in
        let f : n * q ≡ p * q + x * q = ap (λ (z : ℕ). z * q) e ∙ add-mul p x q in
        let g : n * m ≡ p * m + x * m = ap (λ (z : ℕ). z * m) e ∙ add-mul p x m in
        omega arith

    go : (u : Bool) → (T u → n ≤ p) → (T (not u) → p < n) → p * q + n * m ≤ p * m + n * q + A * B
    go true h _ = let l = h tt in above (p - n) (omega arith)
    go false _ h = let l = le_of_lt (h tt) in below (n - p) (omega arith)
