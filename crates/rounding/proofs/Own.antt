-- Every finite f64 is a whole number of 1 / L = 2 ^ -1074: q * 2 ^ j of them with q below 2 ^ 53 (`Rep`), and below 2 ^ 2098 of them. `own` gives a float its
-- value; `val-rep` and `val-small` say the same of a value that is at hand. Assumes nothing.
use mathlib.Core.Path.{◌≡◌, refl, sym, ap, ◌∙◌, subst}
use Prim.Native.Nat.{ℕ, zero, suc, ◌+◌, ◌-◌, ◌*◌, ◌%◌, ◌^◌, ◌≤◌, ◌<◌}
use native.Mathlib.Nat.{lt_of_not-le, not-le_of_lt, le_of_suc-le-suc, mul_assoc, mul-one, zero-mul, lt_of_le_of_lt, lt_of_lt_of_le, le_of_eq}
use native.Mathlib.Nat.{mul_right_comm, mul-pos, mul-lt-mul_of_pos_right, lt_of_mul-lt-mul_right}
use native.Mathlib.Omega.{arith}
use mathlib.Core.Bool.{Bool, ◌&&◌}
use lib.IntN.{ℤ, pos, negsuc}
use lib.Dec.{T, ltb, leb, eqb, ltb→lt, leb→le, lit<}
use lib.Pow.{pow-add, pow_pos, pow-lt}
use lib.Ieee.{Float, nan, inf, fin, binary64, up, down, fits}
use lib.Ieee.Digits.{back}
use lib.Ieee.Fits.{and_l, and_r, down_pos}
use lib.Ieee.Exact.{HasValue}
use lib.Ieee.Scale.{finite}
use Rattle.rounding.specs.Value.{Val, L}
use Rattle.rounding.proofs.Value.{L-is, L-pos, has-unique, val-finite, val-size}
use Rattle.rounding.proofs.Signed.{dist, dist_flip}
pub use Rattle.rounding.proofs.Signed.{plus-of, minus-of, signed_of}

-- a is a whole number of units that the format can hold: q * 2 ^ j, with q below 2 ^ 53
pub record Rep (a : ℕ) : Type 0 where
  pub q : ℕ
  pub j : ℕ
  pub is : a ≡ q * 2 ^ j
  pub small : q < 2 ^ 53

-- the value of x in units, with its sign
pub record Own (x : Float) : Type 0 where
  pub sign : Bool
  pub size : ℕ
  pub has : HasValue x sign size L
  pub rep : Rep size

pub rep_zero : Rep 0
rep_zero = record { q = 0; j = 0; is = refl; small = lit< tt }

pub rep_flip : (p n : ℕ) → Rep (dist p n) → Rep (dist n p)
rep_flip p n r = subst Rep (dist_flip p n) r

-- q * 2 ^ j as a multiple of a smaller power
pub lift : (q i j : ℕ) → i ≤ j → q * 2 ^ j ≡ q * 2 ^ (j - i) * 2 ^ i
lift q i j h = ap (λ (x : ℕ). q * x) (ap (λ (x : ℕ). 2 ^ x) (sym (back j i h)) ∙ pow-add 2 (j - i) i) ∙ sym (mul_assoc q (2 ^ (j - i)) (2 ^ i))

-- ---- a float's own value
-- the exponent of 2 that m is multiplied by, in units
abbrev place : ℤ → ℕ
place (pos k) = k + 1074
place (negsuc k) = 1074 - suc k

pow_back : (a b : ℕ) → 2 ^ a ≤ 2 ^ b → a ≤ b
pow_back a b h = le_of_suc-le-suc (lt_of_not-le (λ (g : suc b ≤ a). not-le_of_lt (pow-lt g) h))

has-pos : (s : Bool) (m k : ℕ) → HasValue (fin s m (pos k)) s (m * 2 ^ place (pos k)) L
has-pos s m k = (
  refl,
  ap (λ (x : ℕ). m * 2 ^ k * x) L-is ∙ mul_assoc m (2 ^ k) (2 ^ 1074) ∙ ap (λ (x : ℕ). m * x) (sym (pow-add 2 k 1074))
      ∙ sym (mul-one (m * 2 ^ (k + 1074))),
)

has-neg : (s : Bool) (m k : ℕ) → suc k ≤ 1074 → HasValue (fin s m (negsuc k)) s (m * 2 ^ place (negsuc k)) L
has-neg s m k h = (
  refl,
  ap (λ (x : ℕ). x * L) (mul-one m) ∙ ap (λ (x : ℕ). m * x) (L-is ∙ ap (λ (x : ℕ). 2 ^ x) (parts h) ∙ pow-add 2 (1074 - suc k) (suc k))
      ∙ sym (mul_assoc m (2 ^ (1074 - suc k)) (2 ^ suc k)),
)
  where
    parts : suc k ≤ 1074 → 1074 ≡ 1074 - suc k + suc k
    parts l = omega arith

has-zero : (s : Bool) (e : ℤ) → HasValue (fin s 0 e) s (0 * 2 ^ 0) L
has-zero s e = (refl, ap (λ (x : ℕ). x * L) (zero-mul (up e)) ∙ zero-mul L ∙ sym (zero-mul (down e)))

-- what `fits` says of a float that is not zero: its digits, its last place, its size
module _ (m : ℕ) (e : ℤ) (f : T (eqb (suc m % 2) 1 && ltb (suc m) (2 ^ 53) && leb (down e) (2 ^ 1074) && ltb (suc m * up e) (2 ^ 1024 * down e))) where
  three : T (eqb (suc m % 2) 1 && ltb (suc m) (2 ^ 53) && leb (down e) (2 ^ 1074))
  three = and_l (eqb (suc m % 2) 1 && ltb (suc m) (2 ^ 53) && leb (down e) (2 ^ 1074)) (ltb (suc m * up e) (2 ^ 1024 * down e)) f

  few : suc m < 2 ^ 53
  few = ltb→lt (suc m) (2 ^ 53) (and_r (eqb (suc m % 2) 1) (ltb (suc m) (2 ^ 53))
      (and_l (eqb (suc m % 2) 1 && ltb (suc m) (2 ^ 53)) (leb (down e) (2 ^ 1074)) three))

  deep : down e ≤ 2 ^ 1074
  deep = leb→le (down e) (2 ^ 1074) (and_r (eqb (suc m % 2) 1 && ltb (suc m) (2 ^ 53)) (leb (down e) (2 ^ 1074)) three)

  high : suc m * up e < 2 ^ 1024 * down e
  high = ltb→lt (suc m * up e) (2 ^ 1024 * down e)
      (and_r (eqb (suc m % 2) 1 && ltb (suc m) (2 ^ 53) && leb (down e) (2 ^ 1074)) (ltb (suc m * up e) (2 ^ 1024 * down e)) f)

-- a finite float that fits has its value, in units
pub own : (x : Float) → T (fits binary64 x) → T (finite x) → Own x
unfolding fits
own nan f t = absurd t
own (inf s) f t = absurd t
own (fin s zero e) f t = record { sign = s; size = 0 * 2 ^ 0; has = has-zero s e; rep = record { q = 0; j = 0; is = refl; small = pow_pos 53 } }
own (fin s (suc m) (pos k)) f t =
    record {
      sign = s;
      size = suc m * 2 ^ place (pos k);
      has = has-pos s (suc m) k;
      rep =
          record { q = suc m; j = place (pos k); is = refl; small = few m (pos k) f };
    }
own (fin s (suc m) (negsuc k)) f t = record {
  sign = s;
  size = suc m * 2 ^ place (negsuc k);
  has = has-neg s (suc m) k (pow_back (suc k) 1074 (deep m (negsuc k) f));
  rep = record { q = suc m; j = place (negsuc k); is = refl; small = few m (negsuc k) f };
}

-- the same as a pair
pub own_val : (x : Float) (o : Own x) → Val x (plus-of o.sign o.size) (minus-of o.sign o.size) L
own_val x o = record { sign = o.sign; size = o.size; has = o.has; is = signed_of o.sign o.size }

-- ---- a value that is at hand
-- |p - n| is q * 2 ^ j with q below 2 ^ 53
pub val-rep : {x : Float} {p n : ℕ} → T (fits binary64 x) → Val x p n L → Rep (dist p n)
val-rep {x} f v =
    let o = own x f (val-finite v) in
    subst Rep (has-unique x o.sign v.sign o.size v.size L o.has v.has ∙ sym (val-size v)) o.rep

top-is : 2 ^ 1024 * L ≡ 2 ^ 2098
unfolding L
top-is = refl

below_top : (a c d : ℕ) → 0 < d → c < 2 ^ 1024 * d → c * L ≡ a * d → a < 2 ^ 2098
below_top a c d D h e =
    lt_of_lt_of_le (lt_of_mul-lt-mul_right d
    (lt_of_le_of_lt (le_of_eq (sym e)) (lt_of_lt_of_le (mul-lt-mul_of_pos_right h L-pos) (le_of_eq (mul_right_comm (2 ^ 1024) d L))))) (le_of_eq top-is)

pub has-small : (x : Float) (s : Bool) (a : ℕ) → T (fits binary64 x) → HasValue x s a L → a < 2 ^ 2098
unfolding fits
has-small nan s a f h = absurd h
has-small (inf t) s a f h = absurd h
has-small (fin t zero e) s a f h =
    below_top a (0 * up e) (down e) (down_pos e) (lt_of_le_of_lt (le_of_eq (zero-mul (up e))) (mul-pos (pow_pos 1024) (down_pos e))) h.1
has-small (fin t (suc m) e) s a f h = below_top a (suc m * up e) (down e) (down_pos e) (high m e f) h.1

-- |p - n| is below 2 ^ 2098 units: a finite f64 is below 2 ^ 1024
pub val-small : {x : Float} {p n : ℕ} → T (fits binary64 x) → Val x p n L → dist p n < 2 ^ 2098
val-small {x} f v = lt_of_le_of_lt (le_of_eq (val-size v)) (has-small x v.sign v.size f v.has)
