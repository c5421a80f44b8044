-- Floor by trunc and a comparison: where x is below its whole part, one more comes off. And ceil: floor with the sign turned twice.
use Rattle.std.proofs.Common.{◌≡◌, ℕ, zero, suc, ◌+◌, ◌*◌, ◌/◌, ◌%◌, ◌^◌, ◌<◌, ◌≤◌, Bool, true, false, cond, not, T, ltb, ℤ, pos, sym, refl, ap, ◌∙◌, subst}
use Rattle.std.proofs.Common.{true≢false, lt_of_lt_of_le, lt_irrefl, mod-lt, zero-lt-suc, add-mul, lt_of_mul-lt-mul_right, mul-pos, one-mul, div-add-mod'}
use Rattle.std.proofs.Common.{mul-one, mul_right_comm, div-mul-le_self, le_of_mul-le-mul_right, arith, ltb→lt, nltb→le}
use mathlib.Core.Bool.{false≢true}
use native.Mathlib.Nat.{div-eq_of_lt-le}
use lib.Ieee.{Float, nan, inf, fin, binary64, up, down, odd, units, round, fits, lt, sub, add, sum, neg}
use lib.Ieee.Fits.{down_pos, round_is}
use lib.Ieee.Exact.{HasValue}
use lib.Ieee.Scale.{round_same}
use Rattle.floats.specs.Whole.{to_whole, cut, downward, upward, upper}
use Rattle.floats.proofs.Laws.{cut-exact}

-- ---- n / d up to a whole number is n / d down to one, or one more
module _ (n d k : ℕ) (D : 0 < d) (e : k ≡ n / d) where
  floored : k * d ≡ n / d * d
  floored = ap (λ (z : ℕ). z * d) e

  next : (k + 1) * d ≡ k * d + d
  next = add-mul k 1 d ∙ ap (λ (z : ℕ). k * d + z) (one-mul d)

  one_up : k * d < n → k + 1 ≡ upper n d
  one_up h =
      let r : n / d * d + n % d ≡ n = div-add-mod' n d in
      let m : n % d < d = mod-lt n D in
      let p : k * d ≡ n / d * d = floored in
      let a : (k + 1) * d ≡ k * d + d = next in
      let b : (k + 1 + 1) * d ≡ (k + 1) * d + d = add-mul (k + 1) 1 d ∙ ap (λ (z : ℕ). (k + 1) * d + z) (one-mul d) in
      sym (div-eq_of_lt-le d (omega arith) (omega arith))

  none-up : n ≤ k * d → k ≡ upper n d
  none-up h =
      let r : n / d * d ≤ n = div-mul-le_self n d in
      let p : k * d ≡ n / d * d = floored in
      let a : (k + 1) * d ≡ k * d + d = next in
      sym (div-eq_of_lt-le d (omega arith) (omega arith))

-- ---- x is n / d in size and v is the whole number k, both with the sign of x: what the comparison of x with v says of n / d and k
module _ (k n d a b : ℕ) (v : a * 1 ≡ k * b) where
  scaled : a * d ≡ k * d * b
  scaled = ap (λ (z : ℕ). z * d) (sym (mul-one a) ∙ v) ∙ mul_right_comm k b d

  less : a * d < n * b → k * d < n
  less t = lt_of_mul-lt-mul_right b (subst (λ (z : ℕ). z < n * b) scaled t)

  reaches : 0 < b → n * b ≤ a * d → n ≤ k * d
  reaches B t = le_of_mul-le-mul_right (subst (λ (z : ℕ). n * b ≤ z) scaled t) B

below-yes : (m : ℕ) (e : ℤ) (k : ℕ) (v : Float) → HasValue v true k 1 → T (lt (fin true m e) v) → k * down e < m * up e
unfolding lt
below-yes m e k nan h t = absurd h
below-yes m e k (inf s) h t = absurd h
below-yes m e k (fin false a b) h t = absurd (false≢true h.0)
below-yes m e k (fin true a b) h t = less k (m * up e) (down e) (a * up b) (down b) h.1 (ltb→lt (a * up b * down e) (m * up e * down b) t)

below-no : (m : ℕ) (e : ℤ) (k : ℕ) (v : Float) → HasValue v true k 1 → T (not (lt (fin true m e) v)) → m * up e ≤ k * down e
unfolding lt
below-no m e k nan h t = absurd h
below-no m e k (inf s) h t = absurd h
below-no m e k (fin false a b) h t = absurd (false≢true h.0)
below-no m e k (fin true a b) h t = reaches k (m * up e) (down e) (a * up b) (down b) h.1 (down_pos b) (nltb→le (a * up b * down e) (m * up e * down b) t)

-- a number that is not negative is not below its whole part
above_no : (m : ℕ) (e : ℤ) (v : Float) → HasValue v false (m * up e / down e) 1 → T (lt (fin false m e) v) → ⊥
unfolding lt
above_no m e nan h t = h
above_no m e (inf s) h t = h
above_no m e (fin true a b) h t = true≢false h.0
above_no m e (fin false a b) h t =
    let n = m * up e in
    let d = down e in
    let l : n < n / d * d = lt_of_mul-lt-mul_right (down b)
    (subst (λ (z : ℕ). n * down b < z) (scaled (n / d) n d (a * up b) (down b) h.1) (ltb→lt (n * down b) (a * up b * d) t)) in
    lt_irrefl n (lt_of_lt_of_le l (div-mul-le_self n d))

-- -k - 1
minus : (k : ℕ) (v : Float) → HasValue v true k 1 → sub binary64 v (fin false 1 (pos 0)) ≡ round binary64 true (k + 1) 1
unfolding sub add sum neg
minus k nan h = absurd h
minus k (inf s) h = absurd h
minus k (fin false a b) h = absurd (false≢true h.0)
minus k (fin true a b) h = round_same binary64 true (a * up b * 1 + 1 * down b) (down b * 1) (k + 1) 1 (mul-pos (down_pos b) (zero-lt-suc 0)) (zero-lt-suc 0)
    (go (a * up b) (down b) h.1)
  where
    go : (n d : ℕ) → n * 1 ≡ k * d → (n * 1 + 1 * d) * 1 ≡ (k + 1) * (d * 1)
    go n d p = mul-one (n * 1 + 1 * d) ∙ ap (λ (z : ℕ). z + 1 * d) p ∙ sym (add-mul k 1 d) ∙ ap (λ (z : ℕ). (k + 1) * z) (sym (mul-one d))

pub one-off : (x : Float) → T (fits binary64 x) → T (lt x (to_whole cut x)) → sub binary64 (to_whole cut x) (fin false 1 (pos 0)) ≡ to_whole downward x
unfolding to_whole lt
one-off nan f t = absurd t
one-off (inf true) f t = absurd t
one-off (inf false) f t = absurd t
one-off (fin false m e) f t = absurd (above_no m e (to_whole cut (fin false m e)) (cut-exact false m e f) t)
one-off (fin true m e) f t =
    let k = m * up e / down e in
    let v = cut-exact true m e f in
    minus k (to_whole cut (fin true m e)) v
    ∙ ap (λ (z : ℕ). round binary64 true z 1) (one_up (m * up e) (down e) k (down_pos e) refl (below-yes m e k (to_whole cut (fin true m e)) v t))

pub none-off : (x : Float) → T (fits binary64 x) → T (not (lt x (to_whole cut x))) → to_whole cut x ≡ to_whole downward x
unfolding to_whole
none-off nan f t = refl
none-off (inf s) f t = refl
none-off (fin false m e) f t = refl
none-off (fin true m e) f t =
    let k = m * up e / down e in
    ap (λ (z : ℕ). round binary64 true z 1)
    (none-up (m * up e) (down e) k (down_pos e) refl (below-no m e k (to_whole cut (fin true m e)) (cut-exact true m e f) t))

-- ---- -floor(-x)
neg_odd : (d : ℕ) (s : Bool) (q k l : ℕ) → neg (odd d (not s) q k l) ≡ odd d s q k l
unfolding neg odd
neg_odd d true zero k l = refl
neg_odd d true (suc q) k l = refl
neg_odd d false zero k l = refl
neg_odd d false (suc q) k l = refl

neg_units : (s : Bool) (q k : ℕ) → neg (units binary64 (not s) q k) ≡ units binary64 s q k
unfolding units neg
neg_units s q k = go s (ltb (q * 2 ^ k) (2 ^ 2098))
  where
    go : (s b : Bool) → neg (cond b (odd 54 (not s) q k 1074) (inf (not s))) ≡ cond b (odd 54 s q k 1074) (inf s)
    go s true = neg_odd 54 s q k 1074
    go true false = refl
    go false false = refl

neg_round : (s : Bool) (n : ℕ) → neg (round binary64 (not s) n 1) ≡ round binary64 s n 1
neg_round s n = ap neg (round_is binary64 (not s) n 1) ∙ neg_units s _ _ ∙ sym (round_is binary64 s n 1)

pub turned : (x : Float) → neg (to_whole downward (neg x)) ≡ to_whole upward x
unfolding to_whole neg
turned nan = refl
turned (inf true) = refl
turned (inf false) = refl
turned (fin true m e) = neg_round true (m * up e / down e)
turned (fin false m e) = neg_round false (upper (m * up e) (down e))
