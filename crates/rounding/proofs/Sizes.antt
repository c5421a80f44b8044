-- Floats of at most 2 ^ k in size, and what the operations give of them: the size of a result from the sizes of its operands, and with it that the result is
-- finite. Assumes nothing.
use mathlib.Core.Path.{◌≡◌, refl, ap, sym, subst, ◌∙◌}
use mathlib.Core.Bool.{true, false}
use Prim.Native.Nat.{ℕ, ◌+◌, ◌*◌, ◌^◌, ◌≤◌, ◌<◌}
use native.Mathlib.Nat.{le_trans, le_of_eq, mul-le-mul_right, mul-le-mul, le_refl, add-mul, mul_assoc, mul_comm, mul_left_comm, mul-pos, one-mul}
use native.Mathlib.Nat.{zero-mul, lt_of_le_of_lt}
use lib.Pow.{pow-add}
use native.Mathlib.Omega.{arith}
use lib.Dec.{T, lit<}
use lib.IntN.{ℤ, pos}
use lib.Ieee.{Float, fin, binary64, round, add, sub, mul, div, lt, fits, of_int}
use Rattle.floats.specs.Whole.{abs}
use Rattle.rounding.specs.Value.{Val, Rounds, L}
use Rattle.rounding.proofs.Casts.{plus_z, minus_z, of_int_val}
use Rattle.rounding.proofs.Range.{power-val, below}
use Rattle.rounding.proofs.Signed.{product_le}
use Rattle.rounding.proofs.Value.{val-finite-true, add_rounds, sub_rounds, mul_rounds, div_rounds, val-scale, L-is, L-pos}
use Rattle.rounding.proofs.Own.{Rep}
use Rattle.rounding.proofs.Bound.{SizeWithin, rounds-within, within_more}
use lib.Ieee.Scale.{finite}

-- x is finite, and at most 2 ^ k in size
abbrev pub Size : Float → ℕ → Type 0
Size x k = SizeWithin x (2 ^ k * L)

-- what has a bound is finite
pub size-finite : (x : Float) (B : ℕ) → SizeWithin x B → finite x ≡ true
size-finite x B w = val-finite-true w.val

-- the format holds 2 ^ k
pub power-rep : (k : ℕ) → Rep (2 ^ k * L)
power-rep k = record { q = 1; j = k + 1074; is = ap (λ (x : ℕ). 2 ^ k * x) L-is ∙ sym (pow-add 2 k 1074) ∙ omega arith; small = lit< tt }

-- and it is below the largest f64
pub power_small : (k : ℕ) → 2 ^ k ≤ 2 ^ 1000 → 2 ^ k * L < 2 ^ 2098
power_small k h = lt_of_le_of_lt (mul-le-mul_right L h) big
  where
    big : 2 ^ 1000 * L < 2 ^ 2098
    big = subst (λ (x : ℕ). 2 ^ 1000 * x < 2 ^ 2098) (sym L-is) (lit< tt)

-- a rounded sum, by the size of the exact one
pub sum-size : (k : ℕ) {z : Float} {p n : ℕ} → 2 ^ k ≤ 2 ^ 1000 → p ≤ n + 2 ^ k * L → n ≤ p + 2 ^ k * L → Rounds binary64 z p n L → Size z k
sum-size k {z} {p} {n} b h l r = rounds-within L-pos (power-rep k) (power_small k b) (wide p n h) (wide n p l) r
  where
    wide : (a c : ℕ) → a ≤ c + 2 ^ k * L → a * L ≤ c * L + 2 ^ k * L * L
    wide a c h = le_trans (mul-le-mul_right L h) (le_of_eq (add-mul c (2 ^ k * L) L))

sums : (j k m : ℕ) → 2 ^ j + 2 ^ k ≤ 2 ^ m → 2 ^ j * L + 2 ^ k * L ≤ 2 ^ m * L
sums j k m h = le_trans (le_of_eq (sym (add-mul (2 ^ j) (2 ^ k) L))) (mul-le-mul_right L h)

-- |x + y| ≤ 2 ^ m, where 2 ^ j + 2 ^ k ≤ 2 ^ m
pub size-add : (j k m : ℕ) {x y : Float} → 2 ^ j + 2 ^ k ≤ 2 ^ m → 2 ^ m ≤ 2 ^ 1000 → Size x j → Size y k → Size (add binary64 x y) m
size-add j k m h b v w =
    let s = sums j k m h in
    sum-size m b (omega (arith, v.high, w.high)) (omega (arith, v.low, w.low)) (add_rounds binary64 L-pos v.val w.val)

-- |x - y| ≤ 2 ^ m
pub size-sub : (j k m : ℕ) {x y : Float} → 2 ^ j + 2 ^ k ≤ 2 ^ m → 2 ^ m ≤ 2 ^ 1000 → Size x j → Size y k → Size (sub binary64 x y) m
size-sub j k m h b v w =
    let s = sums j k m h in
    sum-size m b (omega (arith, v.high, w.low)) (omega (arith, v.low, w.high)) (sub_rounds binary64 L-pos v.val w.val)

-- a larger bound
pub size-more : (j k : ℕ) {x : Float} → 2 ^ j ≤ 2 ^ k → Size x j → Size x k
size-more j k h v = within_more (mul-le-mul_right L h) v

-- ---- products
-- |x * y| ≤ 2 ^ (j + k)
pub size-mul : (j k : ℕ) {x y : Float} → 2 ^ (j + k) ≤ 2 ^ 1000 → Size x j → Size y k → Size (mul binary64 x y) (j + k)
size-mul j k b v w =
    rounds-within (sq_pos) (power-rep (j + k)) (power_small (j + k) b)
    (shape _ _ (product_le v.p v.n w.p w.n (2 ^ j * L) (2 ^ k * L) v.high v.low w.high w.low))
    (shape _ _ (product_le v.p v.n w.n w.p (2 ^ j * L) (2 ^ k * L) v.high v.low w.low w.high))
    (mul_rounds binary64 L-pos L-pos v.val w.val)
  where
    sq_pos : 0 < L * L
    sq_pos = mul-pos L-pos L-pos

    shape : (P N : ℕ) → P ≤ N + 2 ^ j * L * (2 ^ k * L) → P * L ≤ N * L + 2 ^ (j + k) * L * (L * L)
    shape P N h =
        le_trans (mul-le-mul_right L h)
        (le_of_eq (add-mul N (2 ^ j * L * (2 ^ k * L)) L ∙ ap (λ (z : ℕ). N * L + z) (simp (pow-add, mul_assoc, mul_comm, mul_left_comm))))

-- ---- quotients by a float of at least 1
-- y ≥ 1
pub record Above (y : Float) : Type 0 where
  pub size : ℕ
  pub val : Val y size 0 L
  pub least : L ≤ size

-- |x / y| ≤ 2 ^ j, where y ≥ 1
pub size-div : (j : ℕ) {x y : Float} → 2 ^ j ≤ 2 ^ 1000 → Size x j → Above y → Size (div binary64 x y) j
size-div j {x} {y} b v a =
    rounds-within (mul-pos L-pos some) (power-rep j) (power_small j b) (shape v.p v.n v.high) (shape v.n v.p v.low)
    (div_rounds binary64 L-pos L-pos some v.val a.val)
  where
    some : 0 < a.size
    some = le_trans L-pos a.least

    shape : (P N : ℕ) → P ≤ N + 2 ^ j * L → P * L * L ≤ N * L * L + 2 ^ j * L * (L * a.size)
    shape P N h =
        le_trans (mul-le-mul_right L (mul-le-mul_right L h))
        (le_trans (le_of_eq (simp (add-mul)))
        (add_right (N * L * L) (le_trans (le_of_eq (mul_assoc (2 ^ j * L) L L)) (mul-le-mul (le_refl (2 ^ j * L)) (mul-le-mul (le_refl L) a.least)))))
      where
        add_right : (c : ℕ) {x y : ℕ} → x ≤ y → c + x ≤ c + y
        add_right c e = omega arith

-- ---- decimals, powers of two, whole numbers
turn : (a d l : ℕ) → a * d * l ≡ a * l * d
turn a d l = simp (mul_assoc, mul_comm)

none : (a : ℕ) → 0 ≤ a
none a = omega arith

over : (a b : ℕ) → b ≤ a + b
over a b = omega arith

-- n / d, rounded, where n / d ≤ 2 ^ k
pub decimal-size : (k n d : ℕ) → 0 < d → 2 ^ k ≤ 2 ^ 1000 → n ≤ 2 ^ k * d → Size (round binary64 false n d) k
decimal-size k n d e b h =
    rounds-within {N = 0} e (power-rep k) (power_small k b)
    (le_trans (mul-le-mul_right L h) (le_trans (le_of_eq (turn (2 ^ k) d L)) (over (0 * L) (2 ^ k * L * d))))
    (le_trans (le_of_eq (zero-mul L)) (none (n * L + 2 ^ k * L * d)))
    (record { sign = false; size = n; eq = refl; is = omega arith })

-- 2 ^ k itself
pub power_size : (k : ℕ) → Size (fin false 1 (pos k)) k
power_size k = record { p = 2 ^ k * L; n = 0; val = power-val k L; high = omega arith; low = omega arith }

-- a whole value, in units
pub whole_val : {x : Float} {p n : ℕ} → Val x p n 1 → Val x (p * L) (n * L) L
whole_val {x} {p} {n} v = subst (λ (d : ℕ). Val x (p * L) (n * L) d) (one-mul L) (val-scale L v)

-- an integer of at most 2 ^ k, as a float
pub int_size : (k : ℕ) (z : ℤ) → 2 ^ k ≤ 2 ^ 53 → plus_z z ≤ 2 ^ k → minus_z z ≤ 2 ^ k → Size (of_int binary64 z) k
int_size k z b h l =
    let s : plus_z z * L ≤ 2 ^ k * L = mul-le-mul_right L h in
    let t : minus_z z * L ≤ 2 ^ k * L = mul-le-mul_right L l in
    record { p = plus_z z * L; n = minus_z z * L; val = whole_val (of_int_val z (le_trans h b) (le_trans l b)); high = omega arith; low = omega arith }

-- ---- by the test |x| < 2 ^ k
pub under-size : (x : Float) (k : ℕ) → T (fits binary64 x) → T (lt (abs x) (fin false 1 (pos k))) → Size x k
under-size x k f h = below f (power-val k L) h

-- a product with a float of at most B / L = 2 ^ -s in size
pub mul_small : (i s B : ℕ) {x y : Float} → B * 2 ^ s ≡ L → 2 ^ i ≤ 2 ^ 1000 → Size x (i + s) → SizeWithin y B → Size (mul binary64 x y) i
mul_small i s B e b v w =
    rounds-within (mul-pos L-pos L-pos) (power-rep i) (power_small i b)
    (shape _ _ (product_le v.p v.n w.p w.n (2 ^ (i + s) * L) B v.high v.low w.high w.low))
    (shape _ _ (product_le v.p v.n w.n w.p (2 ^ (i + s) * L) B v.high v.low w.low w.high))
    (mul_rounds binary64 L-pos L-pos v.val w.val)
  where
    turned : 2 ^ (i + s) * L * B ≡ 2 ^ i * L * L
    turned = ap (λ (z : ℕ). z * L * B) (pow-add 2 i s) ∙ simp (mul_assoc, mul_comm, mul_left_comm) (refl) ∙ ap (λ (z : ℕ). 2 ^ i * L * z) e

    shape : (P N : ℕ) → P ≤ N + 2 ^ (i + s) * L * B → P * L ≤ N * L + 2 ^ i * L * (L * L)
    shape P N h =
        le_trans (mul-le-mul_right L h)
        (le_of_eq (add-mul N (2 ^ (i + s) * L * B) L ∙ ap (λ (z : ℕ). N * L + z) (ap (λ (z : ℕ). z * L) turned ∙ mul_assoc (2 ^ i * L) L L)))
