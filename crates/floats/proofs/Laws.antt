-- The result of a rounding is the whole number itself: `exact`, over every finite float and each of the four roundings; and what the callers of `floats` cite
-- beside it.
use Rattle.std.proofs.Common.{◌≡◌, ℕ, zero, suc, ◌+◌, ◌-◌, ◌*◌, ◌/◌, ◌%◌, ◌^◌, ◌<◌, ◌≤◌, Bool, true, false, not, ◌&&◌, T, eqb, ltb, leb, ℤ, pos, negsuc, sym}
use Rattle.std.proofs.Common.{refl, ap, ◌∙◌, subst, true≢false, le_trans, le_of_eq, le_of_suc-le-suc, add-zero, le_of_lt, mul-le-mul_right, zero-lt-suc}
use Rattle.std.proofs.Common.{mul_assoc, mul_comm, div-lt_iff_lt-mul, add-mul, mul-pos, mul-one, mul_right_comm, le_of_mul-le-mul_right, div-one, mul_left_comm}
use Rattle.std.proofs.Common.{arith, lit<, ltb→lt, pow_pos, pow-add, shl_lt}
use native.Mathlib.Nat.{mul-mul-mul_comm}
use lib.Ieee.{Float, nan, inf, fin, binary64, up, down, round, fits, is_nan, ne}
use lib.Ieee.Fits.{and_l, and_r, down_pos, round-fits}
use lib.Ieee.Exact.{HasValue, round_exact}
use lib.Ieee.Back.{round_whole, whole_unique}
use lib.Ieee.Nearest.{div_same}
use Rattle.floats.specs.Whole.{to_whole, upper, cut, downward, upward, away}

-- ---- the code's tests as facts
pub yes : {b : Bool} → b ≡ true → T b
yes h = subst T (sym h) tt

pub no : {b : Bool} → b ≡ false → T (not b)
no h = subst (λ (a : Bool). T (not a)) (sym h) tt

pub equals_itself : (x : Float) → ne x x ≡ false → T (not (is_nan x))
unfolding ne is_nan
equals_itself nan h = absurd (true≢false h)
equals_itself (inf s) h = tt
equals_itself (fin s m e) h = tt

-- ---- what `fits` says of m * 2 ^ e
pub in_format : (s : Bool) (m : ℕ) (e : ℤ) → T (fits binary64 (fin s m e)) → (m < 2 ^ 53) × (m * up e < 2 ^ 1024 * down e)
unfolding fits
in_format s zero e t = (lit< tt, zero_case (up e) (2 ^ 1024 * down e) (mul-pos (pow_pos 1024) (down_pos e)))
  where
    zero_case : (u k : ℕ) → 0 < k → 0 * u < k
    zero_case u k h = omega arith
in_format s (suc m) e t =
    let A = eqb (suc m % 2) 1 in
    let B = ltb (suc m) (2 ^ 53) in
    let C = leb (down e) (2 ^ 1074) in
    let D = ltb (suc m * up e) (2 ^ 1024 * down e) in
    (ltb→lt (suc m) (2 ^ 53) (and_r A B (and_l (A && B) C (and_l (A && B && C) D t))), ltb→lt (suc m * up e) (2 ^ 1024 * down e) (and_r (A && B && C) D t))

-- ---- three properties of a rounding: it leaves a whole number as it is, it takes a size below 2 ^ 53 to one up to 2 ^ 53, and equal fractions go to the same
-- number
abbrev pub LeavesWhole : (Bool → ℕ → ℕ → ℕ) → Type 0
LeavesWhole how = (s : Bool) (n : ℕ) → how s n 1 ≡ n

abbrev pub StaysBelow : (Bool → ℕ → ℕ → ℕ) → Type 0
StaysBelow how = (s : Bool) (n d : ℕ) → 0 < d → n < 2 ^ 53 * d → how s n d ≤ 2 ^ 53

abbrev pub ByValue : (Bool → ℕ → ℕ → ℕ) → Type 0
ByValue how = (s : Bool) (n d a c : ℕ) → 0 < d → 0 < c → n * c ≡ a * d → how s n d ≡ how s a c

upper-one : (n : ℕ) → upper n 1 ≡ n
upper-one n = div-one (n + 0) ∙ add-zero n

pub cut-one : LeavesWhole cut
cut-one s n = div-one n

pub downward-one : LeavesWhole downward
downward-one true n = upper-one n
downward-one false n = div-one n

pub upward-one : LeavesWhole upward
upward-one true n = div-one n
upward-one false n = upper-one n

pub away-one : LeavesWhole away
away-one s n = go n
  where
    go : (n : ℕ) → (2 * n + 1) / 2 ≡ n
    go n = omega arith

upper-most : (n d : ℕ) → 0 < d → n < 2 ^ 53 * d → upper n d ≤ 2 ^ 53
upper-most n d D h = le_of_suc-le-suc ((div-lt_iff_lt-mul D).1 (go n d D h))
  where
    go : (n d : ℕ) → 0 < d → n < 9007199254740992 * d → n + (d - 1) < 9007199254740993 * d
    go n d a b = omega arith

pub cut_most : StaysBelow cut
cut_most s n d D h = le_of_lt ((div-lt_iff_lt-mul D).1 h)

pub downward-most : StaysBelow downward
downward-most true n d D h = upper-most n d D h
downward-most false n d D h = cut_most false n d D h

pub upward-most : StaysBelow upward
upward-most true n d D h = cut_most true n d D h
upward-most false n d D h = upper-most n d D h

pub cut-same : ByValue cut
cut-same s n d a c D C h = div_same n d a c D C h

pub away-same : ByValue away
away-same s n d a c D C h =
    div_same (2 * n + d) (2 * d) (2 * a + c) (2 * c) (mul-pos (zero-lt-suc 1) D) (mul-pos (zero-lt-suc 1) C)
    (add-mul (2 * n) d (2 * c)
    ∙ ap (λ (z : ℕ). z + d * (2 * c)) (mul-mul-mul_comm 2 n 2 c ∙ ap (λ (z : ℕ). 2 * 2 * z) h ∙ sym (mul-mul-mul_comm 2 a 2 d))
    ∙ ap (λ (z : ℕ). 2 * a * (2 * d) + z) (mul_left_comm d 2 c ∙ ap (λ (z : ℕ). 2 * z) (mul_comm d c) ∙ sym (mul_left_comm c 2 d))
    ∙ sym (add-mul (2 * a) c (2 * d)))

-- ---- a float of size a / c is taken to what a / c is
pub at : (how : Bool → ℕ → ℕ → ℕ) → ByValue how → (x : Float) (s : Bool) (a c : ℕ) → HasValue x s a c → 0 < c → to_whole how x ≡ round binary64 s (how s a c) 1
unfolding to_whole
at how same nan s a c v C = absurd v
at how same (inf t) s a c v C = absurd v
at how same (fin t m e) s a c v C = ap (λ (z : Bool). round binary64 z (how z (m * up e) (down e)) 1) v.0
    ∙ ap (λ (k : ℕ). round binary64 s k 1) (same s (m * up e) (down e) a c (down_pos e) C v.1)

pub nan_stays : (how : Bool → ℕ → ℕ → ℕ) (x : Float) → x ≡ nan → x ≡ to_whole how x
unfolding to_whole
nan_stays how x h = h ∙ sym (ap (to_whole how) h)

-- ---- a float whose exponent is not negative is a whole number, and every rounding leaves it as it is
whole_back : (s : Bool) (m a : ℕ) → T (fits binary64 (fin s m (pos a))) → round binary64 s (m * 2 ^ a) 1 ≡ fin s m (pos a)
whole_back s m a f =
    let i = in_format s m (pos a) f in
    let n = m * 2 ^ a in
    let e : m * 2 ^ (a + 1074) ≡ n * 2 ^ 1074 = ap (λ (k : ℕ). m * k) (pow-add 2 a 1074) ∙ sym (mul_assoc m (2 ^ a) (2 ^ 1074)) in
    let h : n < 2 ^ 1024 = subst (λ (k : ℕ). n < k) (mul-one (2 ^ 1024)) i.1 in
    whole_unique binary64 (round binary64 s n 1) (fin s m (pos a)) s n (round-fits binary64 s n 1) f
    (round_exact binary64 s n 1 m (a + 1074) (zero-lt-suc 0) i.0
    (subst (λ (k : ℕ). k < 2 ^ (1024 + 1074)) (sym e) (shl_lt 1024 1074 h))
    (sym (mul-one (m * 2 ^ (a + 1074)) ∙ e)))
    (refl, refl)

module _ (how : Bool → ℕ → ℕ → ℕ) (one : LeavesWhole how) where
  whole-stays : (s : Bool) (m a : ℕ) → T (fits binary64 (fin s m (pos a))) → fin s m (pos a) ≡ to_whole how (fin s m (pos a))
  unfolding to_whole
  whole-stays s m a f = sym (ap (λ (k : ℕ). round binary64 s k 1) (one s (m * 2 ^ a)) ∙ whole_back s m a f)

  -- from 2 ^ 52 on, where no float has a negative exponent
  pub large : (x : Float) → T (fits binary64 x) → (s : Bool) (a c : ℕ) → HasValue x s a c → 0 < c → 2 ^ 52 * c ≤ a → x ≡ to_whole how x
  large nan f s a c v C h = absurd v
  large (inf t) f s a c v C h = absurd v
  large (fin t m (pos k)) f s a c v C h = whole-stays t m k f
  large (fin t m (negsuc k)) f s a c v C h =
      absurd (go m k (in_format t m (negsuc k) f).0 (pow_pos k)
      (le_of_mul-le-mul_right (le_trans (le_of_eq (mul_right_comm (2 ^ 52) (2 ^ suc k) c))
      (le_trans (mul-le-mul_right (2 ^ suc k) h) (le_of_eq (sym v.1)))) C))
    where
      go : (m k : ℕ) → m < 9007199254740992 → 0 < 2 ^ k → 4503599627370496 * 2 ^ suc k ≤ m * 1 → ⊥
      go m k h p l = omega arith

  -- the result is the whole number itself, and not only the float nearest to it
  pub exact : StaysBelow how → (s : Bool) (m : ℕ) (e : ℤ) → T (fits binary64 (fin s m e)) → HasValue (to_whole how (fin s m e)) s (how s (m * up e) (down e)) 1
  unfolding to_whole
  exact most s m (pos a) f = subst (λ (v : Float). HasValue v s (how s (m * 2 ^ a) 1) 1) (whole-stays s m a f)
      (refl, sym (ap (λ (k : ℕ). k * 1) (one s (m * 2 ^ a))))
  exact most s m (negsuc a) f = round_whole binary64 s (how s (m * 1) (2 ^ suc a))
      (most s (m * 1) (2 ^ suc a) (pow_pos (suc a)) (go m (2 ^ suc a) (in_format s m (negsuc a) f).0 (pow_pos (suc a))))
    where
      go : (m p : ℕ) → m < 9007199254740992 → 0 < p → m * 1 < 9007199254740992 * p
      go m p h k = omega arith

pub cut-exact : (s : Bool) (m : ℕ) (e : ℤ) → T (fits binary64 (fin s m e)) → HasValue (to_whole cut (fin s m e)) s (cut s (m * up e) (down e)) 1
cut-exact = exact cut cut-one cut_most

pub downward-exact : (s : Bool) (m : ℕ) (e : ℤ) → T (fits binary64 (fin s m e)) → HasValue (to_whole downward (fin s m e)) s (downward s (m * up e) (down e)) 1
downward-exact = exact downward downward-one downward-most

pub upward-exact : (s : Bool) (m : ℕ) (e : ℤ) → T (fits binary64 (fin s m e)) → HasValue (to_whole upward (fin s m e)) s (upward s (m * up e) (down e)) 1
upward-exact = exact upward upward-one upward-most
