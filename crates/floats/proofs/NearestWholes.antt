-- `nearest_whole`, range by range: from 0.5 on it is a + 0.5 down to a whole number (UnitSums), and below 0.5 in size it is zero.
use Rattle.std.proofs.Common.{◌≡◌, ℕ, ◌+◌, ◌*◌, ◌^◌, ◌<◌, ◌≤◌, Bool, true, false, cond, ◌&&◌, ◌||◌, T, eqb, ltb, pos, sym, refl, ap, ◌∙◌, subst, true≢false}
use Rattle.std.proofs.Common.{le_of_eq, le_of_lt, mul-pos, arith, lit<, eqb→eq, ltb→lt, lt→ltb, ltb-false, le-ltb, lt-ltb}
use mathlib.Core.Bool.{false≢true}
use lib.Ieee.{Float, nan, inf, fin, binary64, up, down, neg, add, sub, sum, lt, eq, le}
use lib.Ieee.Fits.{down_pos}
use borrow.Author.Tests.{eqb-false}
use Rattle.floats.specs.Whole.{abs, half, nought, one, to_whole, downward, upward, nearest_int}
use Rattle.floats.proofs.UnitSums.{two-52, Plain, round_plain}

-- ---- the tests of the code
-- ±0.5 against a: x / 2 ≤ y where x ≤ 2 * y
at_least : (x y : ℕ) → (ltb x y || eqb x y && true) ≡ true → x ≤ y
at_least x y = go (ltb x y) (eqb x y) (ltb→lt x y) (eqb→eq x y)
  where
    go : (b c : Bool) → (T b → x < y) → (T c → x ≡ y) → (b || c && true) ≡ true → x ≤ y
    go true c f g h = le_of_lt (f tt)
    go false true f g h = le_of_eq (g tt)
    go false false f g h = absurd (false≢true h)

below_half : (d : ℕ) → 0 < d → (x : ℕ) → (eqb d x && (false || eqb d 0)) ≡ false
below_half d D x = go (eqb d x) (eqb d 0) (eqb→eq d 0)
  where
    go : (b c : Bool) → (T c → d ≡ 0) → (b && (false || c)) ≡ false
    go true true f = let e : d ≡ 0 = f tt in absurd (omega arith)
    go true false f = refl
    go false c f = refl

-- and where it is not, y < x
under : (x y : ℕ) → (ltb x y || eqb x y && true) ≡ false → ltb y x ≡ true
under x y = go (ltb x y) refl (eqb x y) refl
  where
    go : (b : Bool) → ltb x y ≡ b → (c : Bool) → eqb x y ≡ c → (b || c && true) ≡ false → ltb y x ≡ true
    go true p c q h = absurd (true≢false h)
    go false p true q h = absurd (true≢false h)
    go false p false q h = lt-ltb y x (omega (arith, ltb-false x y p, eqb-false x y q))

-- from 0.5 on a is neither below 0.5 in size nor below 0
large_size : (a : Float) → le half a ≡ true → (lt (abs a) half ≡ false) × (lt a nought ≡ false)
unfolding le lt eq abs
large_size nan h = absurd (false≢true h)
large_size (inf true) h = absurd (false≢true h)
large_size (inf false) h = (refl, refl)
large_size (fin true m e) h = absurd (false≢true (sym (below_half (1 * 1 * down e) (mul-pos (lit< tt) (down_pos e)) (m * up e * 2)) ∙ h))
large_size (fin false m e) h = (
  le-ltb (m * up e * 2) (1 * 1 * down e) (at_least (1 * 1 * down e) (m * up e * 2) h),
  le-ltb (m * up e * 1) (0 * down e) (zero_le (down e) (m * up e * 1)),
)
  where
    zero_le : (d x : ℕ) → 0 * d ≤ x
    zero_le d x = omega arith

pub large_is : (a : Float) → le half a ≡ true → nearest_int a ≡ to_whole downward (add binary64 a half)
unfolding nearest_int
large_is a h =
    let s = large_size a h in
    ap (λ (b : Bool). cond b nought (cond (lt a nought) (to_whole upward (sub binary64 a half)) (to_whole downward (add binary64 a half)))) s.0
    ∙ ap (λ (b : Bool). cond b (to_whole upward (sub binary64 a half)) (to_whole downward (add binary64 a half))) s.1

-- ---- a + 0.5 is plain where it is below 2 ^ 52
pub large_plain : (a : Float) → le half a ≡ true → lt (add binary64 a half) two-52 ≡ true → Plain (add binary64 a half)
unfolding le lt eq add sum
large_plain nan h l = absurd (false≢true h)
large_plain (inf true) h l = absurd (false≢true h)
large_plain (inf false) h l = absurd (false≢true l)
large_plain (fin true m e) h l = absurd (false≢true (sym (below_half (1 * 1 * down e) (mul-pos (lit< tt) (down_pos e)) (m * up e * 2)) ∙ h))
large_plain (fin false m e) h l = round_plain (m * up e * 2 + 1 * 1 * down e) (down e * 2) l

-- ---- the cast of a float to 64 bits without a sign asks for -1 < t < 2 ^ 64
pub in_cast : (t : Float) → le one t ≡ true → lt t two-52 ≡ true → T (lt (fin true 1 (pos 0)) t) × T (lt t (fin false 1 (pos 64)))
unfolding le lt eq
in_cast nan l h = absurd (false≢true l)
in_cast (inf true) l h = absurd (false≢true l)
in_cast (inf false) l h = absurd (false≢true h)
in_cast (fin true m e) l h = absurd (false≢true (sym (below_half (1 * 1 * down e) (mul-pos (lit< tt) (down_pos e)) (m * up e * 1)) ∙ l))
in_cast (fin false m e) l h = (
  lt→ltb 0 (1 * down e + m * up e * 1) (some (down e) (m * up e) (down_pos e)),
  lt→ltb (m * up e * 1) (2 ^ 64 * down e) (more (m * up e) (down e) (ltb→lt (m * up e * 1) (2 ^ 52 * down e) (subst T (sym h) tt))),
)
  where
    some : (d x : ℕ) → 0 < d → 0 < 1 * d + x * 1
    some d x h = omega arith

    more : (x d : ℕ) → x * 1 < 4503599627370496 * d → x * 1 < 18446744073709551616 * d
    more x d h = omega arith

-- ---- below 0.5 in size
pub small_is : (a : Float) → le half a ≡ false → lt (neg half) a ≡ true → nought ≡ nearest_int a
unfolding le lt eq abs neg nearest_int
small_is nan h l = absurd (false≢true l)
small_is (inf true) h l = absurd (false≢true l)
small_is (inf false) h l = absurd (true≢false h)
small_is (fin true m e) h l = sym
    (ap (λ (b : Bool). cond b nought
    (cond (lt (fin true m e) nought) (to_whole upward (sub binary64 (fin true m e) half)) (to_whole downward (add binary64 (fin true m e) half)))) l)
small_is (fin false m e) h l =
    sym (ap (λ (b : Bool). cond b nought
    (cond (lt (fin false m e) nought) (to_whole upward (sub binary64 (fin false m e) half)) (to_whole downward (add binary64 (fin false m e) half))))
    (under (1 * 1 * down e) (m * up e * 2) h))
