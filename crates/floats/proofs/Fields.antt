-- A bit pattern by its fields, and the value of a pattern that has its last k digits cut off after a number below 2 ^ k was added: the carry may run into the
-- exponent's field.
use Rattle.std.proofs.Common.{◌≡◌, ℕ, suc, ◌+◌, ◌-◌, ◌*◌, ◌/◌, ◌%◌, ◌^◌, ◌<◌, ◌≤◌, Bool, true, false, cond, not, T, eqb, leb, ◌⊎◌, sym, refl, ap, ◌∙◌, subst}
use Rattle.std.proofs.Common.{inl, inr, le_trans, le_of_eq, lt_of_lt_of_le, le_of_suc-le-suc, add-zero, add_assoc, mul-le-mul_right, mod-lt, mul_assoc, suc-mul}
use Rattle.std.proofs.Common.{div-lt_iff_lt-mul, add-mul, eq-or-lt_of_le, one-mul, div-add-mod', le-div_iff_mul-le, mul-one, mul_right_comm, arith, le→leb}
use Rattle.std.proofs.Common.{eqb→eq, leb→le, pow_pos, pow-add}
use native.Mathlib.Nat.{mul-add-div_right, eq_of_mul-eq-mul_right}
use native.Mathlib.Nat.{pow-succ'}
use lib.Arith.{digits_div, digits_mod}
use lib.Pow.{field}
use lib.Bits.{bit_and, and_mask}
use lib.Ieee.{Float, nan, inf, fin, binary64, up, down, odd, round, is_nan, of_fields, of_bits}
use lib.Ieee.Fits.{round-fits}
use lib.Ieee.Bits.{of_bits-fits}
use lib.Ieee.Exact.{HasValue, odd_sign}
use lib.Ieee.Back.{round_whole, whole_unique}

-- ---- the sign, the exponent's field and the digits of a pattern b
abbrev pub sign : ℕ → Bool
sign b = leb (2 ^ 63) b

abbrev pub expo : ℕ → ℕ
expo b = b % 2 ^ 63 / 2 ^ 52

abbrev pub digits : ℕ → ℕ
digits b = b % 2 ^ 52

pub of_bits_is : (b : ℕ) → of_bits binary64 b ≡ of_fields binary64 (sign b) (expo b) (digits b)
unfolding of_bits
of_bits_is b = refl

-- the field as the code takes it
pub expo_is : (b : ℕ) → bit_and (b / 2 ^ 52) 2047 ≡ expo b
expo_is b = and_mask (b / 2 ^ 52) 11 ∙ sym (field b 11 52)

pub digits_lt : (b : ℕ) → digits b < 2 ^ 52
digits_lt b = mod-lt b (pow_pos 52)

-- the digits under their leading one
pub lead : (t : ℕ) → t < 2 ^ 52 → 2 ^ 52 + t < 2 ^ 53
lead t h = omega arith

-- ---- the value that the fields stand for, in units of 2 ^ -1074
not_ones : (j : ℕ) → suc j < 2047 → T (eqb (suc j) 2047) → ⊥
not_ones j h t = go (suc j) h (eqb→eq (suc j) 2047 t)
  where
    go : (e : ℕ) → e < 2047 → e ≡ 2047 → ⊥
    go e a b = omega arith

pub normal : (s : Bool) (j t : ℕ) → suc j < 2047 → HasValue (of_fields binary64 s (suc j) t) s ((2 ^ 52 + t) * 2 ^ j) (2 ^ 1074)
unfolding of_fields
normal s j t h = go (eqb (suc j) 2047) (not_ones j h)
  where
    go : (a : Bool) → (T a → ⊥) → HasValue (cond a (cond (eqb t 0) (inf s) nan) (odd 53 s (2 ^ 52 + t) j 1074)) s ((2 ^ 52 + t) * 2 ^ j) (2 ^ 1074)
    go true f = absurd (f tt)
    go false f = odd_sign 53 s (2 ^ 52 + t) j 1074

pub subnormal : (s : Bool) (t : ℕ) → HasValue (of_fields binary64 s 0 t) s (t * 2 ^ 0) (2 ^ 1074)
unfolding of_fields
subnormal s t = odd_sign 53 s t 0 1074

pub no_nan : (x : Float) (s : Bool) (a c : ℕ) → HasValue x s a c → T (not (is_nan x))
unfolding is_nan
no_nan nan s a c v = absurd v
no_nan (inf t) s a c v = absurd v
no_nan (fin t m e) s a c v = tt

-- c * l / l is c
lowest : (x : Float) (s : Bool) (c l : ℕ) → 0 < l → HasValue x s (c * l) l → HasValue x s c 1
lowest nan s c l L v = absurd v
lowest (inf t) s c l L v = absurd v
lowest (fin t m e) s c l L v = (v.0, mul-one (m * up e) ∙ eq_of_mul-eq-mul_right l L (m * up e) (c * down e) (v.1 ∙ mul_right_comm c l (down e)))

-- two tests that imply each other are equal
pub same_test : (a b : Bool) → (T a → T b) → (T b → T a) → a ≡ b
same_test true true p q = refl
same_test true false p q = absurd (p tt)
same_test false true p q = absurd (q tt)
same_test false false p q = refl

-- ---- a pattern by its upper bits h and its digits t
sign_high : (b : ℕ) → sign b ≡ leb 2048 (b / 2 ^ 52)
sign_high b = same_test (sign b) (leb 2048 (b / 2 ^ 52)) (λ t. le→leb 2048 (b / 2 ^ 52) ((le-div_iff_mul-le (pow_pos 52)).1 (leb→le (2 ^ 63) b t)))
    (λ t. le→leb (2 ^ 63) b ((le-div_iff_mul-le (pow_pos 52)).0 (leb→le 2048 (b / 2 ^ 52) t)))

pattern : (h t : ℕ) → t < 2 ^ 52 → of_bits binary64 (h * 2 ^ 52 + t) ≡ of_fields binary64 (leb 2048 h) (h % 2048) t
pattern h t H =
    let b = h * 2 ^ 52 + t in
    of_bits_is b
    ∙ ap (λ (s : Bool). of_fields binary64 s (expo b) (digits b)) (sign_high b ∙ ap (leb 2048) (digits_div h H))
    ∙ ap (λ (e : ℕ). of_fields binary64 (leb 2048 h) e (digits b)) (field b 11 52 ∙ ap (λ (z : ℕ). z % 2048) (digits_div h H))
    ∙ ap (λ (z : ℕ). of_fields binary64 (leb 2048 h) (h % 2048) z) (digits_mod h H)

-- h * 2 ^ 52 + u, for a u up to 2 ^ 52, is (2 ^ 52 + u) * 2 ^ j units, where the field is j + 1
carried : (h j u : ℕ) → h % 2048 ≡ suc j → j < 1074 → u ≤ 2 ^ 52 → HasValue (of_bits binary64 (h * 2 ^ 52 + u)) (leb 2048 h) ((2 ^ 52 + u) * 2 ^ j) (2 ^ 1074)
carried h j u e J U = go (eq-or-lt_of_le U)
  where
    fine : (j : ℕ) → j < 1074 → (suc j < 2047) × (suc (suc j) < 2047)
    fine j h = omega arith

    next : (h j : ℕ) → h % 2048 ≡ suc j → j < 1074 → (h + 1) % 2048 ≡ suc (suc j)
    next h j e l = omega arith

    over : (h j : ℕ) → h % 2048 ≡ suc j → j < 1074 → 2048 ≤ h + 1 → 2048 ≤ h
    over h j e l g = omega arith

    more : (h : ℕ) → 2048 ≤ h → 2048 ≤ h + 1
    more h g = omega arith

    go : (u ≡ 2 ^ 52) ⊎ (u < 2 ^ 52) → HasValue (of_bits binary64 (h * 2 ^ 52 + u)) (leb 2048 h) ((2 ^ 52 + u) * 2 ^ j) (2 ^ 1074)
    go (inr l) =
        subst (λ (v : Float). HasValue v (leb 2048 h) ((2 ^ 52 + u) * 2 ^ j) (2 ^ 1074))
        (sym (pattern h u l ∙ ap (λ (z : ℕ). of_fields binary64 (leb 2048 h) z u) e)) (normal (leb 2048 h) j u (fine j J).0)
    go (inl p) =
        let up_one : h * 2 ^ 52 + u ≡ (h + 1) * 2 ^ 52 + 0 = ap (λ (z : ℕ). h * 2 ^ 52 + z) p
        ∙ sym (add-zero ((h + 1) * 2 ^ 52) ∙ add-mul h 1 (2 ^ 52) ∙ ap (λ (z : ℕ). h * 2 ^ 52 + z) (one-mul (2 ^ 52))) in
        let same : leb 2048 (h + 1) ≡ leb 2048 h =
        same_test (leb 2048 (h + 1)) (leb 2048 h) (λ t. le→leb 2048 h (over h j e J (leb→le 2048 (h + 1) t)))
        (λ t. le→leb 2048 (h + 1) (more h (leb→le 2048 h t))) in
        let is = ap (of_bits binary64) up_one ∙ pattern (h + 1) 0 (pow_pos 52) ∙ ap (λ (z : Bool). of_fields binary64 z ((h + 1) % 2048) 0) same
        ∙ ap (λ (z : ℕ). of_fields binary64 (leb 2048 h) z 0) (next h j e J) in
        let twice : 2 ^ 52 * 2 ^ suc j ≡ (2 ^ 52 + u) * 2 ^ j = ap (λ (z : ℕ). 2 ^ 52 * z) (pow-succ' 2 j) ∙ sym (mul_assoc (2 ^ 52) 2 (2 ^ j))
        ∙ ap (λ (z : ℕ). (2 ^ 52 + z) * 2 ^ j) (sym p) in
        subst (λ (v : Float). HasValue v (leb 2048 h) ((2 ^ 52 + u) * 2 ^ j) (2 ^ 1074)) (sym is)
        (subst (λ (z : ℕ). HasValue (of_fields binary64 (leb 2048 h) (suc (suc j)) 0) (leb 2048 h) z (2 ^ 1074)) twice
        (normal (leb 2048 h) (suc j) 0 (fine j J).1))

-- ---- the last k digits cut off, for a k up to 52
module _ (k : ℕ) (K : k ≤ 52) where
  splits : 2 ^ (52 - k) * 2 ^ k ≡ 2 ^ 52
  splits = sym (pow-add 2 (52 - k) k) ∙ ap (λ (z : ℕ). 2 ^ z) (go k K)
    where
      go : (k : ℕ) → k ≤ 52 → 52 - k + k ≡ 52
      go k h = omega arith

  -- whatever stands above the digits stays
  cut_low : (h t : ℕ) → (h * 2 ^ 52 + t) / 2 ^ k * 2 ^ k ≡ h * 2 ^ 52 + t / 2 ^ k * 2 ^ k
  cut_low h t =
      let e : h * 2 ^ 52 ≡ h * 2 ^ (52 - k) * 2 ^ k = ap (λ (z : ℕ). h * z) (sym splits) ∙ sym (mul_assoc h (2 ^ (52 - k)) (2 ^ k)) in
      ap (λ (z : ℕ). (z + t) / 2 ^ k * 2 ^ k) e
      ∙ ap (λ (z : ℕ). z * 2 ^ k) (mul-add-div_right (pow_pos k) (h * 2 ^ (52 - k)) t)
      ∙ add-mul (h * 2 ^ (52 - k)) (t / 2 ^ k) (2 ^ k)
      ∙ ap (λ (z : ℕ). z + t / 2 ^ k * 2 ^ k) (sym e)

  -- t + a, cut to a multiple of 2 ^ k, is at most 2 ^ 52
  at_most : (t a : ℕ) → t < 2 ^ 52 → a < 2 ^ k → (t + a) / 2 ^ k * 2 ^ k ≤ 2 ^ 52
  at_most t a H A =
      let n = 2 ^ (52 - k) in
      let q : (t + a) / 2 ^ k < suc n =
      (div-lt_iff_lt-mul (pow_pos k)).1
      (lt_of_lt_of_le (go t a (2 ^ k) H A) (le_of_eq (ap (λ (z : ℕ). z + 2 ^ k) (sym splits) ∙ sym (suc-mul n (2 ^ k))))) in
      le_trans (mul-le-mul_right (2 ^ k) (le_of_suc-le-suc q)) (le_of_eq splits)
    where
      go : (t a p : ℕ) → t < 4503599627370496 → a < p → t + a < 4503599627370496 + p
      go t a p h k = omega arith

  -- the pattern b with a added and k digits cut off is (q + a) / 2 ^ k, q being b's digits under their leading one
  module _ (b j a : ℕ) (S : k + j ≡ 1074) (J : j < 1074) (E : expo b ≡ suc j) (A : a < 2 ^ k) where
    abbrev q : ℕ
    q = 2 ^ 52 + digits b

    abbrev r : Float
    r = of_bits binary64 ((b + a) / 2 ^ k * 2 ^ k)

    abbrev u : ℕ
    u = (digits b + a) / 2 ^ k * 2 ^ k

    high : b / 2 ^ 52 % 2048 ≡ suc j
    high = sym (field b 11 52) ∙ E

    parts : (b + a) / 2 ^ k * 2 ^ k ≡ b / 2 ^ 52 * 2 ^ 52 + u
    parts = ap (λ (z : ℕ). z / 2 ^ k * 2 ^ k) (ap (λ (z : ℕ). z + a) (sym (div-add-mod' b (2 ^ 52))) ∙ add_assoc (b / 2 ^ 52 * 2 ^ 52) (digits b) a)
        ∙ cut_low (b / 2 ^ 52) (digits b + a)

    whole : (2 ^ 52 + u) * 2 ^ j ≡ (q + a) / 2 ^ k * 2 ^ 1074
    whole =
        ap (λ (z : ℕ). z * 2 ^ j) (sym (cut_low 1 (digits b + a)) ∙ ap (λ (z : ℕ). z / 2 ^ k * 2 ^ k) (sym (add_assoc (2 ^ 52) (digits b) a)))
        ∙ mul_assoc ((q + a) / 2 ^ k) (2 ^ k) (2 ^ j)
        ∙ ap (λ (z : ℕ). (q + a) / 2 ^ k * z) (sym (pow-add 2 k j) ∙ ap (λ (z : ℕ). 2 ^ z) S)

    pub value : HasValue r (sign b) ((q + a) / 2 ^ k) 1
    value =
        lowest r (sign b) ((q + a) / 2 ^ k) (2 ^ 1074) (pow_pos 1074)
        (subst (λ (z : ℕ). HasValue r (sign b) z (2 ^ 1074)) whole
        (subst (λ (s : Bool). HasValue r s ((2 ^ 52 + u) * 2 ^ j) (2 ^ 1074)) (sym (sign_high b))
        (subst (λ (z : ℕ). HasValue (of_bits binary64 z) (leb 2048 (b / 2 ^ 52)) ((2 ^ 52 + u) * 2 ^ j) (2 ^ 1074)) (sym parts)
        (carried (b / 2 ^ 52) j u high J (at_most (digits b) a (digits_lt b) A)))))

    most : (q + a) / 2 ^ k ≤ 2 ^ 53
    most = le_of_suc-le-suc ((div-lt_iff_lt-mul (pow_pos k)).1 (go q a (2 ^ k) (lead (digits b) (digits_lt b)) A))
      where
        go : (q a p : ℕ) → q < 9007199254740992 → a < p → q + a < 9007199254740993 * p
        go q a p h l = omega arith

    pub rounded : r ≡ round binary64 (sign b) ((q + a) / 2 ^ k) 1
    rounded = whole_unique binary64 r (round binary64 (sign b) ((q + a) / 2 ^ k) 1) (sign b) ((q + a) / 2 ^ k)
        (of_bits-fits binary64 ((b + a) / 2 ^ k * 2 ^ k)) (round-fits binary64 (sign b) ((q + a) / 2 ^ k) 1) value
        (round_whole binary64 (sign b) ((q + a) / 2 ^ k) most)
