-- The nearest whole number by bits: a half of the unit added to the pattern before the digits below the unit are cut off, and 1 from a half up to 1.
use Rattle.std.proofs.Common.{◌≡◌, ℕ, suc, ◌+◌, ◌-◌, ◌*◌, ◌/◌, ◌%◌, ◌^◌, ◌<◌, ◌≤◌, Bool, true, false, not, T, sym, refl, ap, ◌∙◌, subst, le-add_right}
use Rattle.std.proofs.Common.{mul-le-mul_right, zero-lt-suc, one-mul, mul-add, arith, lit<, le→leb, pow_pos, shl_lt, shl_exact}
use native.Mathlib.Nat.{mul-div-mul_left, div-eq_of_lt, div-eq_of_lt-le, pow-succ'}
use lib.Arith.{lt→nleb}
use lib.Pow.{pow-lt}
use lib.Bits.{bit_and}
use lib.Ieee.{Float, binary64, round, fits, is_nan, of_fields, of_bits, to_bits, neg}
use lib.Ieee.Bits.{is_true, is_false}
use Rattle.floats.specs.Whole.{to_whole, away}
use Rattle.floats.proofs.Laws.{away-same, at}
use Rattle.floats.proofs.Fields.{sign, digits, digits_lt, lead, normal, expo_is}
use Rattle.floats.proofs.Ranges.{is}

-- ---- below a half: 0
pub under-half : (s : Bool) (a : ℕ) → a < 2 ^ 1073 → away s a (2 ^ 1074) ≡ 0
under-half s a h = div-eq_of_lt (go a (2 ^ 1073) (2 ^ 1074) refl h)
  where
    go : (a h c : ℕ) → c ≡ 2 * h → a < h → 2 * a + c < 2 * c
    go a h c e l = omega arith

-- ---- from a half up to 1: 1
half-fields : (s : Bool) (t : ℕ) → t < 2 ^ 52 → to_whole away (of_fields binary64 s 1022 t) ≡ round binary64 s 1 1
half-fields s t H =
    let a = (2 ^ 52 + t) * 2 ^ 1021 in
    let lo : 2 ^ 1073 ≤ a = mul-le-mul_right (2 ^ 1021) (le-add_right (2 ^ 52) t) in
    let hi : a < 2 ^ 1074 = shl_lt 53 1021 (lead t H) in
    at away away-same (of_fields binary64 s 1022 t) s a (2 ^ 1074) (normal s 1021 t (lit< tt)) (pow_pos 1074)
    ∙ ap (λ (z : ℕ). round binary64 s z 1) (div-eq_of_lt-le (2 * 2 ^ 1074) (le_lo a (2 ^ 1073) (2 ^ 1074) refl lo) (lt_hi a (2 ^ 1074) hi))
  where
    le_lo : (a h c : ℕ) → c ≡ 2 * h → h ≤ a → 1 * (2 * c) ≤ 2 * a + c
    le_lo a h c e l = omega arith

    lt_hi : (a c : ℕ) → a < c → 2 * a + c < (1 + 1) * (2 * c)
    lt_hi a c l = omega arith

one_up : of_bits binary64 0x3ff0_0000_0000_0000 ≡ round binary64 false 1 1
unfolding round of_bits
one_up = refl

one_down : neg (of_bits binary64 0x3ff0_0000_0000_0000) ≡ round binary64 true 1 1
unfolding round neg of_bits
one_down = refl

module _ (x : Float) (F : T (fits binary64 x)) (N : T (not (is_nan x))) where
  abbrev b : ℕ
  b = to_bits binary64 x

  abbrev e : ℕ
  e = bit_and (b / 2 ^ 52) 2047

  half : 1022 ≤ e → e < 1023 → to_whole away x ≡ round binary64 (sign b) 1 1
  half lo hi = ap (to_whole away) (is x F N ∙ ap (λ (z : ℕ). of_fields binary64 (sign b) z (digits b)) (sym (expo_is b) ∙ go e lo hi))
      ∙ half-fields (sign b) (digits b) (digits_lt b)
    where
      go : (e : ℕ) → 1022 ≤ e → e < 1023 → e ≡ 1022
      go e a b = omega arith

  pub half_up : 1022 ≤ e → e < 1023 → b < 2 ^ 63 → of_bits binary64 0x3ff0_0000_0000_0000 ≡ to_whole away x
  half_up lo hi h = one_up ∙ sym (half lo hi ∙ ap (λ (s : Bool). round binary64 s 1 1) (is_false (sign b) (lt→nleb (2 ^ 63) b h)))

  pub half_down : 1022 ≤ e → e < 1023 → 2 ^ 63 ≤ b → neg (of_bits binary64 0x3ff0_0000_0000_0000) ≡ to_whole away x
  half_down lo hi h = one_down ∙ sym (half lo hi ∙ ap (λ (s : Bool). round binary64 s 1 1) (is_true (sign b) (le→leb (2 ^ 63) b h)))

-- ---- from 1 on: half a unit, `1 << (k - 1)`, added to q before k digits are cut off
module _ (e : ℕ) (lo : 1023 ≤ e) (hi : e < 1075) where
  abbrev k : ℕ
  k = 1075 - e

  abbrev pub unit_half : ℕ
  unit_half = 1 * 2 ^ (k - 1) % 2 ^ 64

  facts : (1 + (k - 1) ≤ 64) × (k - 1 < k) × (suc (k - 1) ≡ k)
  facts = go e lo hi
    where
      go : (e : ℕ) → 1023 ≤ e → e < 1075 → (1 + (1075 - e - 1) ≤ 64) × (1075 - e - 1 < 1075 - e) × (suc (1075 - e - 1) ≡ 1075 - e)
      go e a b = omega arith

  unit_half_is : unit_half ≡ 2 ^ (k - 1)
  unit_half_is = shl_exact 1 (k - 1) 64 (lit< tt) facts.0 ∙ one-mul (2 ^ (k - 1))

  pub unit_half_lt : unit_half < 2 ^ k
  unit_half_lt = subst (λ (z : ℕ). z < 2 ^ k) (sym unit_half_is) (pow-lt facts.1)

  twice : 2 ^ k ≡ 2 * unit_half
  twice = ap (λ (z : ℕ). 2 ^ z) (sym facts.2) ∙ pow-succ' 2 (k - 1) ∙ ap (λ (z : ℕ). 2 * z) (sym unit_half_is)

  pub taken-nearer : (q : ℕ) (s : Bool) → (q + unit_half) / 2 ^ k ≡ away s q (2 ^ k)
  taken-nearer q s = sym (ap (λ (z : ℕ). z / (2 * 2 ^ k)) (ap (λ (z : ℕ). 2 * q + z) twice ∙ sym (mul-add 2 q unit_half))
      ∙ mul-div-mul_left (q + unit_half) (2 ^ k) (zero-lt-suc 1))
