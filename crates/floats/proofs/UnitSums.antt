-- A sum from 2 ^ 52 to 2 ^ 53 is rounded to a whole number next to it: the one below it or the one above. With 2 ^ 52 taken off again that is a whole number
-- next to t, and where it is above t the one before is t down to a whole number.
use Rattle.std.proofs.Common.{◌≡◌, ℕ, suc, ◌+◌, ◌-◌, ◌*◌, ◌/◌, ◌%◌, ◌^◌, ◌<◌, ◌≤◌, Bool, true, false, cond, T, ltb, ℤ, pos, sym, ap, ◌∙◌, subst, true≢false}
use Rattle.std.proofs.Common.{le_trans, le_of_eq, lt_of_lt_of_le, lt_of_le_of_lt, le_of_lt, mul-le-mul_right, zero-lt-suc, mul_assoc, mul_comm}
use Rattle.std.proofs.Common.{div-lt_iff_lt-mul, lt_of_mul-lt-mul_right, mul-lt-mul_of_pos_right, one-mul, lt_of_not-le, le-div_iff_mul-le, mul-one}
use Rattle.std.proofs.Common.{mul_right_comm, not-le_of_lt, div-mul-le_self, le_of_mul-le-mul_right, arith, lit<, lit≤, le→leb, ltb→lt, nltb→le, pow_pos}
use Rattle.std.proofs.Common.{pow_mono, shl_lt, le-ltb}
use mathlib.Core.Bool.{false≢true}
use Prim.Native.Nat.{compare, Ordering}
use native.Mathlib.Nat.{mul-sub}
use native.Mathlib.Nat.{add-mul-div_right, eq_of_mul-eq-mul_right}
use lib.Ieee.{Float, nan, inf, fin, binary64, up, down, size, nearest, odd, units, round, neg, add, sub, sum, lt, of_int, in_float, in_signed}
use lib.Ieee.Digits.{size-lt, size-le}
use lib.Ieee.Fits.{down_pos, core, round_is, nearest-le}
use lib.Ieee.Exact.{HasValue, odd_sign, units_val}
use lib.Ieee.Back.{round_whole, positive_back}
use lib.Ieee.Nearest.{div_same, nearest-ge}
use lib.Ieee.Scale.{round_same}
use Rattle.floats.specs.Whole.{one, to_whole, downward}
use Rattle.floats.proofs.Laws.{yes, no}

-- 2 ^ 52
abbrev pub two-52 : Float
two-52 = fin false 1 (pos 52)

-- ---- a sum a / c from 2 ^ 52 to 2 ^ 53, rounded
module _ (a c : ℕ) (C : 0 < c) (lo : 2 ^ 52 * c ≤ a) (hi : a < 2 ^ 53 * c) where
  abbrev scaled : ℕ
  scaled = a * 2 ^ 1074

  most : size (scaled / c) ≤ 1127
  most = size-le (scaled / c) 1127
      ((div-lt_iff_lt-mul C).1 (lt_of_lt_of_le (mul-lt-mul_of_pos_right hi (pow_pos 1074)) (le_of_eq (mul_right_comm (2 ^ 53) c (2 ^ 1074)))))

  least : 1126 < size (scaled / c)
  least = lt_of_not-le (λ (g : size (scaled / c) ≤ 1126). not-le_of_lt (lt_of_lt_of_le (size-lt (scaled / c)) (pow_mono g))
      ((le-div_iff_mul-le C).1 (le_trans (le_of_eq (mul_right_comm (2 ^ 52) (2 ^ 1074) c)) (mul-le-mul_right (2 ^ 1074) lo))))

  dropped : size (scaled / c) - 53 ≡ 1074
  dropped = go (size (scaled / c)) most least
    where
      go : (z : ℕ) → z ≤ 1127 → 1126 < z → z - 53 ≡ 1074
      go z p q = omega arith

  abbrev rest : Ordering
  rest = compare (scaled % (c * 2 ^ 1074) * 2) (c * 2 ^ 1074)

  -- the whole number that the sum is rounded to
  abbrev pub rounded : ℕ
  rounded = nearest (scaled / (c * 2 ^ 1074)) rest

  floor_is : scaled / (c * 2 ^ 1074) ≡ a / c
  floor_is = div_same scaled (c * 2 ^ 1074) a c (lt_of_lt_of_le (pow_pos 1074) (least-of c (2 ^ 1074) C)) C
      (mul_assoc a (2 ^ 1074) c ∙ ap (λ (z : ℕ). a * z) (mul_comm (2 ^ 1074) c))
    where
      least-of : (c p : ℕ) → 0 < c → p ≤ c * p
      least-of c p h = le_trans (le_of_eq (sym (one-mul p))) (mul-le-mul_right p h)

  pub rounded_low : a / c ≤ rounded
  rounded_low = subst (λ (z : ℕ). z ≤ rounded) floor_is (nearest-ge (scaled / (c * 2 ^ 1074)) rest)

  pub rounded_high : rounded ≤ suc (a / c)
  rounded_high = subst (λ (z : ℕ). rounded ≤ suc z) floor_is (nearest-le (scaled / (c * 2 ^ 1074)) rest)

  rounded_small : rounded < 2 ^ 1024
  rounded_small = lt_of_le_of_lt rounded_high (lt_of_le_of_lt ((div-lt_iff_lt-mul C).1 hi) (lit< tt))

  to_one : (x : Float) (k : ℕ) → HasValue x false (k * 2 ^ 1074) (2 ^ 1074) → HasValue x false k 1
  to_one nan k h = h
  to_one (inf s) k h = h
  to_one (fin s m e) k h = (
    h.0,
    eq_of_mul-eq-mul_right (2 ^ 1074) (pow_pos 1074) (m * up e * 1) (k * down e)
        (ap (λ (z : ℕ). z * 2 ^ 1074) (mul-one (m * up e)) ∙ h.1 ∙ mul_right_comm k (2 ^ 1074) (down e)),
  )

  pub rounded_value : HasValue (round binary64 false a c) false rounded 1
  rounded_value = to_one (round binary64 false a c) rounded
      (subst (λ (x : Float). HasValue x false (rounded * 2 ^ 1074) (2 ^ 1074))
      (sym (round_is binary64 false a c ∙ ap (λ (k : ℕ). core binary64 false scaled c k) dropped))
      (units_val binary64 false rounded 1074 (shl_lt 1024 1074 rounded_small)))

-- ---- a power of 2 taken off a whole number that is no less
pub taken-off : (v : Float) (k p : ℕ) → HasValue v false k 1 → 2 ^ p ≤ k → sub binary64 v (fin false 1 (pos p)) ≡ round binary64 false (k - 2 ^ p) 1
unfolding sub add sum neg
taken-off nan k p h l = absurd h
taken-off (inf s) k p h l = absurd h
taken-off (fin true a b) k p h l = absurd (true≢false h.0)
taken-off (fin false a b) k p h l =
    let n = a * up b * 1 in
    let d = down b in
    let t = 1 * 2 ^ p * d in
    let q : t ≡ 2 ^ p * d = ap (λ (z : ℕ). z * d) (one-mul (2 ^ p)) in
    let r : t ≤ n = le_trans (le_of_eq q) (le_trans (mul-le-mul_right d l) (le_of_eq (sym h.1))) in
    ap (λ (z : Bool). cond z (round binary64 true (t - n) (d * 1)) (round binary64 false (n - t) (d * 1))) (le-ltb n t r)
    ∙ round_same binary64 false (n - t) (d * 1) (k - 2 ^ p) 1 (subst (λ (z : ℕ). 0 < z) (sym (mul-one d)) (down_pos b)) (zero-lt-suc 0)
    (mul-one (n - t)
    ∙ ap (λ (z : ℕ). z - t) (h.1 ∙ mul_comm k d)
    ∙ ap (λ (z : ℕ). d * k - z) (q ∙ mul_comm (2 ^ p) d)
    ∙ sym (mul-sub d k (2 ^ p))
    ∙ mul_comm d (k - 2 ^ p)
    ∙ ap (λ (z : ℕ). (k - 2 ^ p) * z) (sym (mul-one d)))

-- ---- t with 2 ^ 52 added and taken off again
abbrev pub beside : Float → Float
beside t = sub binary64 (add binary64 t two-52) two-52

module _ (m : ℕ) (e : ℤ) (h : lt (fin false m e) two-52 ≡ true) where
  abbrev n : ℕ
  n = m * up e

  abbrev d : ℕ
  d = down e

  abbrev a : ℕ
  a = n + 2 ^ 52 * d

  under : n < 2 ^ 52 * d
  unfolding lt
  under = subst (λ (z : ℕ). z < 2 ^ 52 * d) (mul-one n) (ltb→lt (n * 1) (2 ^ 52 * d) (yes h))

  a-low : 2 ^ 52 * d ≤ a
  a-low = go n (2 ^ 52 * d)
    where
      go : (n x : ℕ) → x ≤ n + x
      go n x = omega arith

  a-high : a < 2 ^ 53 * d
  a-high = go n d under
    where
      go : (n d : ℕ) → n < 4503599627370496 * d → n + 4503599627370496 * d < 9007199254740992 * d
      go n d l = omega arith

  abbrev k : ℕ
  k = rounded a d (down_pos e) a-low a-high

  abbrev j : ℕ
  j = k - 2 ^ 52

  near : (2 ^ 52 ≤ k) × (n / d ≤ j) × (j ≤ suc (n / d))
  near = go (n / d) (a / d) k (add-mul-div_right n (2 ^ 52) (down_pos e))
      (rounded_low a d (down_pos e) a-low a-high) (rounded_high a d (down_pos e) a-low a-high)
    where
      go : (q s k : ℕ) → s ≡ q + 4503599627370496 → s ≤ k → k ≤ suc s → (4503599627370496 ≤ k) × (q ≤ k - 4503599627370496) × (k - 4503599627370496 ≤ suc q)
      go q s k p l u = omega arith

  small : n / d < 2 ^ 52
  small = (div-lt_iff_lt-mul (down_pos e)).1 under

  sum_is : add binary64 (fin false m e) two-52 ≡ round binary64 false a d
  unfolding add sum
  sum_is = ap (λ (z : ℕ). round binary64 false (z + 1 * 2 ^ 52 * d) (d * 1)) (mul-one n)
      ∙ ap (λ (z : ℕ). round binary64 false (n + z * d) (d * 1)) (one-mul (2 ^ 52))
      ∙ ap (λ (z : ℕ). round binary64 false a z) (mul-one d)

  beside-is : beside (fin false m e) ≡ round binary64 false j 1
  beside-is = ap (λ (x : Float). sub binary64 x two-52) sum_is
      ∙ taken-off (round binary64 false a d) k 52 (rounded_value a d (down_pos e) a-low a-high) near.0

  j-small : j ≤ 2 ^ 53
  j-small = le_trans near.2 (le_trans small (lit≤ tt))

  beside-value : HasValue (beside (fin false m e)) false j 1
  beside-value = subst (λ (x : Float). HasValue x false j 1) (sym beside-is) (round_whole binary64 false j j-small)

  -- a comparison of t with the whole number j
  scaled_by : (a b : ℕ) → a * 1 ≡ j * b → a * d ≡ j * d * b
  scaled_by a b v = ap (λ (z : ℕ). z * d) (sym (mul-one a) ∙ v) ∙ mul_right_comm j b d

  is-above : (v : Float) → HasValue v false j 1 → T (lt (fin false m e) v) → n < j * d
  unfolding lt
  is-above nan w t = absurd w
  is-above (inf s) w t = absurd w
  is-above (fin true a b) w t = absurd (true≢false w.0)
  is-above (fin false a b) w t = lt_of_mul-lt-mul_right (down b)
      (subst (λ (z : ℕ). n * down b < z) (scaled_by (a * up b) (down b) w.1) (ltb→lt (n * down b) (a * up b * d) t))

  is-not-above : (v : Float) → HasValue v false j 1 → lt (fin false m e) v ≡ false → j * d ≤ n
  unfolding lt
  is-not-above nan w t = absurd w
  is-not-above (inf s) w t = absurd w
  is-not-above (fin true a b) w t = absurd (true≢false w.0)
  is-not-above (fin false a b) w t = le_of_mul-le-mul_right
      (subst (λ (z : ℕ). z ≤ n * down b) (scaled_by (a * up b) (down b) w.1) (nltb→le (n * down b) (a * up b * d) (no t))) (down_pos b)

  above_floor : n < j * d → (1 ≤ j) × (j - 1 ≡ n / d)
  above_floor l = go (n / d) j near.1 near.2 (λ (g : j ≤ n / d). not-le_of_lt l (le_trans (mul-le-mul_right d g) (div-mul-le_self n d)))
    where
      go : (q j : ℕ) → q ≤ j → j ≤ suc q → (j ≤ q → ⊥) → (1 ≤ j) × (j - 1 ≡ q)
      go q j a b f = let l : q < j = lt_of_not-le f in omega arith

  at_floor : j * d ≤ n → j ≡ n / d
  at_floor l = go (n / d) j near.1 ((le-div_iff_mul-le (down_pos e)).1 l)
    where
      go : (q j : ℕ) → q ≤ j → j ≤ q → j ≡ q
      go q j a b = omega arith

  before-is : lt (fin false m e) (beside (fin false m e)) ≡ true → sub binary64 (beside (fin false m e)) one ≡ round binary64 false (n / d) 1
  before-is t =
      let f = above_floor (is-above (beside (fin false m e)) beside-value (yes t)) in
      taken-off (beside (fin false m e)) j 0 beside-value f.0 ∙ ap (λ (z : ℕ). round binary64 false z 1) f.1

  stays-is : lt (fin false m e) (beside (fin false m e)) ≡ false → beside (fin false m e) ≡ round binary64 false (n / d) 1
  stays-is t = beside-is ∙ ap (λ (z : ℕ). round binary64 false z 1) (at_floor (is-not-above (beside (fin false m e)) beside-value t))

-- ---- v is t down to a whole number, and the cast to an integer loses nothing of it
pub record Floored (t v : Float) : Type 0 where
  pub is : v ≡ to_whole downward t
  pub whole : T (in_signed binary64 63 v)

floored : (m : ℕ) (e : ℤ) (v : Float) → lt (fin false m e) two-52 ≡ true → v ≡ round binary64 false (m * up e / down e) 1 → Floored (fin false m e) v
unfolding to_whole of_int in_float
floored m e v h q = record {
  is = q;
  whole =
      let s = small m e h in
      subst (λ (x : Float). T (in_signed binary64 63 x)) (sym q)
      (positive_back binary64 63 (m * up e / down e) (le→leb (m * up e / down e) (2 ^ 53) (le_of_lt (lt_of_lt_of_le s (lit≤ tt))))
      (lt_of_lt_of_le s (lit≤ tt))).0;
}

-- neither a NaN, nor an infinity, nor with the sign of a negative number
abbrev pub Plain : Float → Type 0
Plain nan = ⊥
Plain (inf s) = ⊥
Plain (fin true m e) = ⊥
Plain (fin false m e) = Unit {0}

pub before-floored : (t : Float) → Plain t → lt t two-52 ≡ true → lt t (beside t) ≡ true → Floored t (sub binary64 (beside t) one)
before-floored nan p h l = absurd p
before-floored (inf s) p h l = absurd p
before-floored (fin true m e) p h l = absurd p
before-floored (fin false m e) p h l = floored m e (sub binary64 (beside (fin false m e)) one) h (before-is m e h l)

pub beside-floored : (t : Float) → Plain t → lt t two-52 ≡ true → lt t (beside t) ≡ false → Floored t (beside t)
beside-floored nan p h l = absurd p
beside-floored (inf s) p h l = absurd p
beside-floored (fin true m e) p h l = absurd p
beside-floored (fin false m e) p h l = floored m e (beside (fin false m e)) h (stays-is m e h l)

-- ---- a rounded number that is not negative and below 2 ^ 52 is plain
plain_of : (x : Float) (a c : ℕ) → HasValue x false a c → Plain x
plain_of nan a c h = absurd h
plain_of (inf s) a c h = absurd h
plain_of (fin true m e) a c h = absurd (true≢false h.0)
plain_of (fin false m e) a c h = tt

units-plain : (q k : ℕ) → lt (units binary64 false q k) two-52 ≡ true → Plain (units binary64 false q k)
unfolding units lt
units-plain q k = go (ltb (q * 2 ^ k) (2 ^ 2098))
  where
    go : (b : Bool) → lt (cond b (odd 54 false q k 1074) (inf false)) two-52 ≡ true → Plain (cond b (odd 54 false q k 1074) (inf false))
    go true t = plain_of (odd 54 false q k 1074) (q * 2 ^ k) (2 ^ 1074) (odd_sign 54 false q k 1074)
    go false t = absurd (false≢true t)

pub round_plain : (a c : ℕ) → lt (round binary64 false a c) two-52 ≡ true → Plain (round binary64 false a c)
round_plain a c h =
    let i = round_is binary64 false a c in
    subst Plain (sym i) (units-plain _ _ (ap (λ (x : Float). lt x two-52) (sym i) ∙ h))
