-- What the code of `trunc` and of `round` makes of a pattern, range by range of the exponent's field: from 2 ^ 52 on the float itself, near zero a zero, and
-- between them the pattern with its last digits cut off.
use Rattle.std.proofs.Common.{◌≡◌, ℕ, zero, suc, ◌+◌, ◌-◌, ◌*◌, ◌/◌, ◌%◌, ◌^◌, ◌<◌, ◌≤◌, Bool, true, false, cond, not, T, eqb, pos, sym, refl, ap, ◌∙◌, subst}
use Rattle.std.proofs.Common.{lt_of_lt_of_le, le_of_suc-le-suc, le-add_right, lt_of_le_of_lt, mod-eq_of_lt, mul_assoc, mul_comm, mul-le-mul, div-mul-le_self}
use Rattle.std.proofs.Common.{arith, leb→le, pow_pos, pow_mono, pow-add, shl_lt}
use lib.Dec.{nleb→lt}
use lib.Bits.{bit_and, and_high}
use lib.Ieee.{Float, nan, inf, fin, binary64, odd, round, fits, is_nan, of_fields, of_bits, to_bits, nan_bits}
use lib.Ieee.Bits.{of_bits-to_bits, to_bits-lt, nan_bits_is}
use lib.Ieee.Exact.{HasValue, odd_sign}
use Rattle.floats.specs.Whole.{to_whole}
use Rattle.floats.proofs.Laws.{LeavesWhole, ByValue, at, large}
use Rattle.floats.proofs.Fields.{sign, expo, digits, digits_lt, of_bits_is, expo_is, lead, normal, subnormal, no_nan, value, rounded}

-- ---- from 2 ^ 52 on: a whole number or an infinity
high-fields : (how : Bool → ℕ → ℕ → ℕ) → LeavesWhole how → (s : Bool) (e t : ℕ) → 1075 ≤ e → T (not (is_nan (of_fields binary64 s e t)))
    → T (fits binary64 (of_fields binary64 s e t)) → of_fields binary64 s e t ≡ to_whole how (of_fields binary64 s e t)
unfolding of_fields is_nan to_whole
high-fields how one s zero t lo n f = absurd (none lo)
  where
    none : 1075 ≤ 0 → ⊥
    none h = omega arith
high-fields how one s (suc j) t lo n f =
    go (eqb (suc j) 2047) (eqb t 0) (odd 53 s (2 ^ 52 + t) j 1074)
    (λ g. large how one (odd 53 s (2 ^ 52 + t) j 1074) g s ((2 ^ 52 + t) * 2 ^ j) (2 ^ 1074) (odd_sign 53 s (2 ^ 52 + t) j 1074) (pow_pos 1074)
    (mul-le-mul (le-add_right (2 ^ 52) t) (pow_mono (le_of_suc-le-suc lo)))) n f
  where
    go : (a z : Bool) (w : Float) → (T (fits binary64 w) → w ≡ to_whole how w) → T (not (is_nan (cond a (cond z (inf s) nan) w)))
        → T (fits binary64 (cond a (cond z (inf s) nan) w)) → cond a (cond z (inf s) nan) w ≡ to_whole how (cond a (cond z (inf s) nan) w)
    go true true w k n f = refl
    go true false w k n f = absurd n
    go false z w k n f = k f

-- ---- a field up to p: the size is below 2 ^ (52 + p) units
small-fields : (s : Bool) (e t p : ℕ) → t < 2 ^ 52 → e < suc p → p ≤ 1022 → (a : ℕ) × HasValue (of_fields binary64 s e t) s a (2 ^ 1074) × (a < 2 ^ (52 + p))
small-fields s zero t p H h P = (t * 2 ^ 0, subnormal s t, lt_of_lt_of_le (shl_lt 52 0 H) (pow_mono (le-add_right 52 p)))
small-fields s (suc j) t p H h P = ((2 ^ 52 + t) * 2 ^ j, normal s j t (less j p h P), lt_of_lt_of_le (shl_lt 53 j (lead t H)) (pow_mono (room j p h)))
  where
    less : (j p : ℕ) → suc j < suc p → p ≤ 1022 → suc j < 2047
    less j p h k = omega arith

    room : (j p : ℕ) → suc j < suc p → 53 + j ≤ 52 + p
    room j p h = omega arith

zero_is : (s : Bool) → round binary64 s 0 1 ≡ fin s 0 (pos 0)
unfolding round
zero_is s = refl

-- the sign's bit alone is a zero with that sign
sign_bit : (b : ℕ) → b < 2 ^ 64 → of_bits binary64 (bit_and b (2 ^ 63)) ≡ round binary64 (sign b) 0 1
sign_bit b h = ap (of_bits binary64) (and_high b 1 63) ∙ go (sign b) (leb→le (2 ^ 63) b) (nleb→lt (2 ^ 63) b) ∙ sym (zero_is (sign b))
  where
    one : (b : ℕ) → b < 18446744073709551616 → 9223372036854775808 ≤ b → b / 9223372036854775808 % 2 ≡ 1
    one b h k = omega arith

    none : (b : ℕ) → b < 9223372036854775808 → b / 9223372036854775808 % 2 ≡ 0
    none b h = omega arith

    go : (s : Bool) → (T s → 2 ^ 63 ≤ b) → (T (not s) → b < 2 ^ 63) → of_bits binary64 (b / 2 ^ 63 % 2 * 2 ^ 63) ≡ fin s 0 (pos 0)
    go true p n = ap (λ (z : ℕ). of_bits binary64 (z * 2 ^ 63)) (one b h (p tt)) ∙ unfold of_bits in refl
    go false p n = ap (λ (z : ℕ). of_bits binary64 (z * 2 ^ 63)) (none b (n tt)) ∙ unfold of_bits in refl

-- ---- x is no NaN, b its pattern and e the field as the code takes it
module _ (x : Float) (F : T (fits binary64 x)) (N : T (not (is_nan x))) where
  abbrev b : ℕ
  b = to_bits binary64 x

  abbrev e : ℕ
  e = bit_and (b / 2 ^ 52) 2047

  pub is : x ≡ of_fields binary64 (sign b) (expo b) (digits b)
  is = sym (of_bits-to_bits binary64 x F) ∙ of_bits_is b

  b_lt : b < 2 ^ 64
  b_lt = to_bits-lt binary64 x F

  pub high : (how : Bool → ℕ → ℕ → ℕ) → LeavesWhole how → 1075 ≤ e → x ≡ to_whole how x
  high how one h =
      subst (λ (v : Float). T (not (is_nan v)) → T (fits binary64 v) → v ≡ to_whole how v) (sym is)
      (high-fields how one (sign b) (expo b) (digits b) (subst (λ (z : ℕ). 1075 ≤ z) (expo_is b) h)) N F

  -- where the rounding takes every size below 2 ^ (52 + p) units to 0
  pub low : (how : Bool → ℕ → ℕ → ℕ) → ByValue how → (p : ℕ) → p ≤ 1022 → ((s : Bool) (a : ℕ) → a < 2 ^ (52 + p) → how s a (2 ^ 1074) ≡ 0) → e < suc p
      → of_bits binary64 (bit_and b (2 ^ 63)) ≡ to_whole how x
  low how same p P none h =
      let v = small-fields (sign b) (expo b) (digits b) p (digits_lt b) (subst (λ (z : ℕ). z < suc p) (expo_is b) h) P in
      sign_bit b b_lt
      ∙ sym (ap (to_whole how) is ∙ at how same (of_fields binary64 (sign b) (expo b) (digits b)) (sign b) v.0 (2 ^ 1074) v.1 (pow_pos 1074)
      ∙ ap (λ (z : ℕ). round binary64 (sign b) z 1) (none (sign b) v.0 v.2))

  pub low-no-nan : T (not (nan_bits binary64 (bit_and b (2 ^ 63))))
  low-no-nan = subst (λ (z : Bool). T (not z)) (sym (nan_bits_is binary64 (bit_and b (2 ^ 63))))
      (subst (λ (v : Float). T (not (is_nan v))) (sym (sign_bit b b_lt ∙ zero_is (sign b))) (unfold is_nan in tt))

  -- between: the code adds an a below 2 ^ k and cuts k digits off
  module _ (lo : 1023 ≤ e) (hi : e < 1075) (a : ℕ) (A : a < 2 ^ (1075 - e)) where
    abbrev k : ℕ
    k = 1075 - e

    abbrev j : ℕ
    j = e - 1

    abbrev q : ℕ
    q = 2 ^ 52 + digits b

    facts : (1075 - e ≤ 52) × (k + j ≡ 1074) × (j < 1074) × (suc j ≡ e) × (suc j < 2047)
    facts = go e lo hi
      where
        go : (e : ℕ) → 1023 ≤ e → e < 1075 → (1075 - e ≤ 52) × (1075 - e + (e - 1) ≡ 1074) × (e - 1 < 1074) × (suc (e - 1) ≡ e) × (suc (e - 1) < 2047)
        go e a b = omega arith

    expo_suc : expo b ≡ suc j
    expo_suc = sym (facts.3 ∙ expo_is b)

    pub sum_lt : b + a < 2 ^ 64
    sum_lt = go b a b_lt (subst (λ (z : ℕ). z < 1075) (expo_is b) hi) (lt_of_lt_of_le A (pow_mono facts.0))
      where
        go : (b a : ℕ) → b < 18446744073709551616 → b % 9223372036854775808 / 4503599627370496 < 1075 → a < 4503599627370496 → b + a < 18446744073709551616
        go b a p q r = omega arith

    -- the shifts lose no high digit
    kept : (b + a) / 2 ^ k * 2 ^ k % 2 ^ 64 ≡ (b + a) / 2 ^ k * 2 ^ k
    kept = mod-eq_of_lt (lt_of_le_of_lt (div-mul-le_self (b + a) (2 ^ k)) sum_lt)

    units : q * 2 ^ 1074 ≡ q * 2 ^ j * 2 ^ k
    units = sym (mul_assoc q (2 ^ j) (2 ^ k) ∙ ap (λ (z : ℕ). q * z) (mul_comm (2 ^ j) (2 ^ k) ∙ sym (pow-add 2 k j) ∙ ap (λ (z : ℕ). 2 ^ z) facts.1))

    pub mid : (how : Bool → ℕ → ℕ → ℕ) → ByValue how → ((s : Bool) → (q + a) / 2 ^ k ≡ how s q (2 ^ k))
        → of_bits binary64 ((b + a) / 2 ^ k * 2 ^ k % 2 ^ 64) ≡ to_whole how x
    mid how same taken =
        ap (of_bits binary64) kept
        ∙ rounded k facts.0 b j a facts.1 facts.2 expo_suc A
        ∙ ap (λ (z : ℕ). round binary64 (sign b) z 1) (taken (sign b) ∙ same (sign b) q (2 ^ k) (q * 2 ^ j) (2 ^ 1074) (pow_pos k) (pow_pos 1074) units)
        ∙ sym (ap (to_whole how) (is ∙ ap (λ (z : ℕ). of_fields binary64 (sign b) z (digits b)) expo_suc)
        ∙ at how same (of_fields binary64 (sign b) (suc j) (digits b)) (sign b) (q * 2 ^ j) (2 ^ 1074) (normal (sign b) j (digits b) facts.4)
        (pow_pos 1074))

    pub mid_no_nan : T (not (nan_bits binary64 ((b + a) / 2 ^ k * 2 ^ k % 2 ^ 64)))
    mid_no_nan =
        subst (λ (z : Bool). T (not z)) (sym (nan_bits_is binary64 ((b + a) / 2 ^ k * 2 ^ k % 2 ^ 64)))
        (subst (λ (v : ℕ). T (not (is_nan (of_bits binary64 v)))) (sym kept)
        (no_nan (of_bits binary64 ((b + a) / 2 ^ k * 2 ^ k)) (sign b) ((q + a) / 2 ^ k) 1 (value k facts.0 b j a facts.1 facts.2 expo_suc A)))
