-- `size` is |x| but for the sign of a zero, and no comparison sees that sign: a comparison of sizes is one of absolute values.
use Rattle.std.proofs.Common.{◌≡◌, ℕ, zero, suc, ◌+◌, ◌*◌, ◌<◌, Bool, true, false, cond, ◌&&◌, ◌||◌, eqb, ltb, ℤ, sym, refl, ap, ◌∙◌, subst, add-zero}
use Rattle.std.proofs.Common.{zero-lt-suc, mul-pos, zero-add, arith, le-ltb, lt-ltb}
use lib.Ieee.{Float, nan, inf, fin, up, down, neg, lt, eq, le}
use lib.Ieee.Fits.{up_pos, down_pos}
use Rattle.floats.specs.Whole.{abs}
use Rattle.floats.specs.Size.{size}

none_below : (A : ℕ) → ltb A 0 ≡ false
none_below A = le-ltb A 0 (omega arith)

gone : (a b : ℕ) → 0 * a * b ≡ 0
gone a b = omega arith

-- ---- 0 against B and A against 0, with either sign of the zero
twice : (c b : Bool) → (c || b && (false || b)) ≡ (c || b && true)
twice true b = refl
twice false true = refl
twice false false = refl

-- -0 and +0 at most ±B
least : (A B : ℕ) → A ≡ 0 → (ltb 0 (A + B) || eqb A B && (false || eqb A 0)) ≡ (ltb A B || eqb A B && true)
least A B e =
    ap (λ (z : ℕ). ltb 0 (z + B) || eqb z B && (false || eqb z 0)) e
    ∙ ap (λ (z : ℕ). ltb 0 z || eqb 0 B && true) (zero-add B)
    ∙ sym (ap (λ (z : ℕ). ltb z B || eqb z B && true) e)

least-minus : (A B : ℕ) → A ≡ 0 → (ltb B A || eqb A B && true) ≡ (false || eqb A B && (false || eqb A 0))
least-minus A B e =
    ap (λ (z : ℕ). ltb B z || eqb z B && true) e
    ∙ ap (λ (b : Bool). b || eqb 0 B && true) (none_below B)
    ∙ sym (ap (λ (z : ℕ). false || eqb z B && (false || eqb z 0)) e)

-- ±A at most -0 and +0
most : (A B : ℕ) → B ≡ 0 → (false || eqb A B && (false || eqb A 0)) ≡ (ltb A B || eqb A B && true)
most A B e =
    ap (λ (z : ℕ). false || eqb A z && (false || eqb A 0)) e
    ∙ twice false (eqb A 0)
    ∙ ap (λ (b : Bool). b || eqb A 0 && true) (sym (none_below A))
    ∙ sym (ap (λ (z : ℕ). ltb A z || eqb A z && true) e)

most-minus : (A B : ℕ) → B ≡ 0 → (ltb B A || eqb A B && true) ≡ (ltb 0 (A + B) || eqb A B && (false || eqb A 0))
most-minus A B e =
    ap (λ (z : ℕ). ltb z A || eqb A z && true) e
    ∙ sym (twice (ltb 0 A) (eqb A 0))
    ∙ ap (λ (z : ℕ). ltb 0 z || eqb A 0 && (false || eqb A 0)) (sym (add-zero A))
    ∙ sym (ap (λ (z : ℕ). ltb 0 (A + z) || eqb A z && (false || eqb A 0)) e)

zero_left : (e : ℤ) (v : Float) → le (fin true 0 e) v ≡ le (fin false 0 e) v
unfolding le lt eq
zero_left e nan = refl
zero_left e (inf t) = refl
zero_left e (fin false n d) = least (0 * up e * down d) (n * up d * down e) (gone (up e) (down d))
zero_left e (fin true n d) = least-minus (0 * up e * down d) (n * up d * down e) (gone (up e) (down d))

zero_right : (e : ℤ) (v : Float) → le v (fin true 0 e) ≡ le v (fin false 0 e)
unfolding le lt eq
zero_right e nan = refl
zero_right e (inf t) = refl
zero_right e (fin false n d) = most (n * up d * down e) (0 * up e * down d) (gone (up e) (down d))
zero_right e (fin true n d) = most-minus (n * up d * down e) (0 * up e * down d) (gone (up e) (down d))

-- ---- size x is |x|, or both are zeros
data Sized : Float → Float → Type 0 where
  same : {v : Float} → Sized v v
  zeros : (e : ℤ) → Sized (fin true 0 e) (fin false 0 e)

size_is : (x : Float) → Sized (size x) (abs x)
unfolding size lt neg abs
size_is nan = same
size_is (inf true) = same
size_is (inf false) = same
size_is (fin true m e) = same
size_is (fin false zero e) = subst (λ (b : Bool). Sized (cond b (fin false 0 e) (fin true 0 e)) (fin false 0 e)) (sym (ap (ltb 0) (both (up e) (down e))))
    (zeros e)
  where
    both : (a b : ℕ) → 0 * a * b + 0 * a * b ≡ 0
    both a b = omega arith
size_is (fin false (suc m) e) =
    let A = suc m * up e * down e in
    subst (λ (b : Bool). Sized (cond b (fin false (suc m) e) (fin true (suc m) e)) (fin false (suc m) e))
    (sym (lt-ltb 0 (A + A) (more A (mul-pos (mul-pos (zero-lt-suc m) (up_pos e)) (down_pos e))))) same
  where
    more : (a : ℕ) → 0 < a → 0 < a + a
    more a h = omega arith

-- ---- the same for <
before : (e : ℤ) (v : Float) → lt (fin true 0 e) v ≡ lt (fin false 0 e) v
unfolding lt
before e nan = refl
before e (inf t) = refl
before e (fin false n d) =
    let B = n * up d * down e in
    ap (λ (z : ℕ). ltb 0 (z + B)) (gone (up e) (down d)) ∙ ap (ltb 0) (zero-add B) ∙ sym (ap (λ (z : ℕ). ltb z B) (gone (up e) (down d)))
before e (fin true n d) = ap (ltb (n * up d * down e)) (gone (up e) (down d)) ∙ none_below (n * up d * down e)

behind : (e : ℤ) (v : Float) → lt v (fin true 0 e) ≡ lt v (fin false 0 e)
unfolding lt
behind e nan = refl
behind e (inf t) = refl
behind e (fin false n d) = sym (ap (ltb (n * up d * down e)) (gone (up e) (down d)) ∙ none_below (n * up d * down e))
behind e (fin true n d) =
    let A = n * up d * down e in
    ap (λ (z : ℕ). ltb z A) (gone (up e) (down d)) ∙ sym (ap (λ (z : ℕ). ltb 0 (A + z)) (gone (up e) (down d)) ∙ ap (ltb 0) (add-zero A))

ordered : {u v w z : Float} → Sized u v → Sized w z → lt u w ≡ lt v z
ordered same same = refl
ordered {u = u} same (zeros e) = behind e u
ordered {w = w} (zeros e) same = before e w
ordered (zeros e) (zeros f) = before e (fin true 0 f) ∙ behind f (fin false 0 e)

pub in_size_larger : (x y : Float) → lt (size y) (size x) ≡ lt (abs y) (abs x)
in_size_larger x y = ordered (size_is y) (size_is x)

compared : {u v w z : Float} → Sized u v → Sized w z → le u w ≡ le v z
compared same same = refl
compared {u = u} same (zeros e) = zero_right e u
compared {w = w} (zeros e) same = zero_left e w
compared (zeros e) (zeros f) = zero_left e (fin true 0 f) ∙ zero_right f (fin false 0 e)

pub in_size : (x y : Float) → le (size y) (size x) ≡ le (abs y) (abs x)
in_size x y = compared (size_is y) (size_is x)
