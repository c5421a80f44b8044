-- The value of a float, and for each operation the exact result that it rounds. The operations work on the values as fractions are worked with: a sum over one
-- denominator, a product and a quotient over the product of two. Nothing is said here of how far a rounding goes: see Exact, Bound, Near and Relative. Assumes
-- nothing.
use mathlib.Core.Path.{◌≡◌, refl, sym, ap, ◌∙◌, subst}
use Prim.Native.Nat.{ℕ, ◌+◌, ◌-◌, ◌*◌, ◌^◌, ◌≤◌, ◌<◌}
use native.Mathlib.Nat.{le_of_lt, mul_assoc, mul_right_comm, mul-pos, lt_irrefl, eq_of_mul-eq-mul_right, zero-mul, add-zero}
use native.Mathlib.Omega.{arith}
use mathlib.Core.Bool.{Bool, true, false, not, ◌&&◌, cond}
use lib.Dec.{T, ltb, eqb, eqb→eq, ltb→lt, nltb→le}
use lib.Pow.{pow_pos}
use lib.Ieee.{Float, nan, inf, fin, Format, up, down, round, sum, add, sub, neg, mul, div, unlike}
use lib.Ieee.Fits.{up_pos, down_pos}
use lib.Ieee.Positive.{first_pos}
use lib.Ieee.Exact.{HasValue}
use lib.Ieee.Scale.{round_same, finite}
use Rattle.floats.specs.Whole.{abs}
use Rattle.rounding.specs.Value.{Signed, Val, Rounds, L}
use Rattle.rounding.proofs.Fractions.{order, plus, less, times, quotient-same}
pub use Rattle.rounding.proofs.Fractions.{cross_l, cross_r}
use Rattle.rounding.proofs.Signed.{dist, signed-dist, signed-not, signed-move, signed-scale, signed-times}

-- ---- the unit 1 / L
pub L-is : L ≡ 2 ^ 1074
unfolding L
L-is = refl

pub L-pos : 0 < L
unfolding L
L-pos = pow_pos 1074

-- ---- the same value by another pair, and over another denominator
-- (p - n) / d = (p' - n') / d, where p - n = p' - n'
pub val-move : {x : Float} {p n p' n' d : ℕ} → Val x p n d → p + n' ≡ p' + n → Val x p' n' d
val-move {x} {p} {n} {p'} {n'} v e = record { sign = v.sign; size = v.size; has = v.has; is = signed-move v.sign v.size p n p' n' v.is e }

pub rounds-move : {f : Format} {x : Float} {p n p' n' d : ℕ} → Rounds f x p n d → p + n' ≡ p' + n → Rounds f x p' n' d
rounds-move {f} {x} {p} {n} {p'} {n'} v e = record { sign = v.sign; size = v.size; eq = v.eq; is = signed-move v.sign v.size p n p' n' v.is e }

pub has-scale : (x : Float) (s : Bool) (a d c : ℕ) → HasValue x s a d → HasValue x s (a * c) (d * c)
has-scale nan s a d c h = h
has-scale (inf u) s a d c h = h
has-scale (fin u m e) s a d c h = (h.0, sym (mul_assoc (m * up e) d c) ∙ ap (λ (x : ℕ). x * c) h.1 ∙ mul_right_comm a (down e) c)

-- (p - n) / d = (p * c - n * c) / (d * c)
pub val-scale : {x : Float} {p n d : ℕ} (c : ℕ) → Val x p n d → Val x (p * c) (n * c) (d * c)
val-scale {x} {p} {n} {d} c v =
    record { sign = v.sign; size = v.size * c; has = has-scale x v.sign v.size d c v.has; is = signed-scale v.sign v.size p n c v.is }

pub has-unscale : (x : Float) (s : Bool) (a d c : ℕ) → 0 < c → HasValue x s (a * c) (d * c) → HasValue x s a d
has-unscale nan s a d c h v = v
has-unscale (inf t) s a d c h v = v
has-unscale (fin t m e) s a d c h v =
    (v.0, eq_of_mul-eq-mul_right c h (m * up e * d) (a * down e) (mul_assoc (m * up e) d c ∙ v.1 ∙ mul_right_comm a c (down e)))

-- the same backwards, of a value that is not below zero
pub val-unscale : {x : Float} (a d c : ℕ) → 0 < c → Val x (a * c) 0 (d * c) → Val x a 0 d
val-unscale {x} a d c h v = go v.sign v.size v.has v.is
  where
    go : (s : Bool) (A : ℕ) → HasValue x s A (d * c) → Signed s A (a * c) 0 → Val x a 0 d
    go false A k i = record {
      sign = false;
      size = a;
      has = has-unscale x false a d c h (subst (λ (z : ℕ). HasValue x false z (d * c)) (plain A (a * c) i) k);
      is = omega arith;
    }
      where
        plain : (x y : ℕ) → x + 0 ≡ y → x ≡ y
        plain x y e = omega arith
    go true A k i =
        record {
          sign = true;
          size = 0;
          has = has-unscale x true 0 d c h (subst (λ (z : ℕ). HasValue x true z (d * c)) (nothing A (a * c) i ∙ sym (zero-mul c)) k);
          is = plain a (eq_of_mul-eq-mul_right c h a 0 (none A (a * c) i ∙ sym (zero-mul c)));
        }
      where
        plain : (x : ℕ) → x ≡ 0 → 0 + x ≡ 0
        plain x e = omega arith

        nothing : (x y : ℕ) → x + y ≡ 0 → x ≡ 0
        nothing x y e = omega arith

        none : (x y : ℕ) → x + y ≡ 0 → y ≡ 0
        none x y e = omega arith

-- ---- a float has one value: two pairs for it have the same difference
pub has-unique : (x : Float) (s t : Bool) (a b d : ℕ) → HasValue x s a d → HasValue x t b d → a ≡ b
has-unique nan s t a b d h k = absurd h
has-unique (inf u) s t a b d h k = absurd h
has-unique (fin u m e) s t a b d h k = eq_of_mul-eq-mul_right (down e) (down_pos e) a b (sym h.1 ∙ k.1)

has_both : (z : Float) (s t : Bool) (a b p n x y d : ℕ) → HasValue z s a d → HasValue z t b d → Signed s a p n → Signed t b x y → p + y ≡ x + n
has_both nan s t a b p n x y d h k i j = absurd h
has_both (inf u) s t a b p n x y d h k i j = absurd h
has_both (fin u m e) s t a b p n x y d h k i j =
    let q : s ≡ t = sym h.0 ∙ k.0 in
    let w : a ≡ b = has-unique (fin u m e) s t a b d h k in
    go s i (subst (λ (c : Bool). Signed c a x y) (sym q) (subst (λ (c : ℕ). Signed t c x y) (sym w) j))
  where
    go : (c : Bool) → Signed c a p n → Signed c a x y → p + y ≡ x + n
    go false i j = omega arith
    go true i j = omega arith

pub val-unique : {z : Float} {p n x y d : ℕ} → Val z p n d → Val z x y d → p + y ≡ x + n
val-unique {z} {p} {n} {x} {y} {d} v w = has_both z v.sign w.sign v.size w.size p n x y d v.has w.has v.is w.is

-- the size of a value is |p - n|
pub val-size : {x : Float} {p n d : ℕ} (v : Val x p n d) → dist p n ≡ v.size
val-size {x} {p} {n} v = signed-dist v.sign v.size p n v.is

-- ---- a float with a value is finite, and no NaN
pub has-finite : (x : Float) (s : Bool) (a d : ℕ) → HasValue x s a d → T (finite x)
has-finite nan s a d h = h
has-finite (inf t) s a d h = h
has-finite (fin t m e) s a d h = tt

pub val-finite : {x : Float} {p n d : ℕ} → Val x p n d → T (finite x)
val-finite {x} {d = d} v = has-finite x v.sign v.size d v.has

has-true : (x : Float) (s : Bool) (a d : ℕ) → HasValue x s a d → finite x ≡ true
has-true nan s a d h = absurd h
has-true (inf t) s a d h = absurd h
has-true (fin t m e) s a d h = refl

pub val-finite-true : {x : Float} {p n d : ℕ} → Val x p n d → finite x ≡ true
val-finite-true {x} {d = d} v = has-true x v.sign v.size d v.has

-- ---- -x and |x| are exact
neg_has : (x : Float) (s : Bool) (a d : ℕ) → HasValue x s a d → HasValue (neg x) (not s) a d
unfolding neg
neg_has nan s a d h = h
neg_has (inf u) s a d h = h
neg_has (fin u m e) s a d h = (ap not h.0, h.1)

pub neg_val : {x : Float} {p n d : ℕ} → Val x p n d → Val (neg x) n p d
neg_val {x} {p} {n} {d} v = record {
  sign = not v.sign;
  size = v.size;
  has = neg_has x v.sign v.size d v.has;
  is =
      signed-not v.sign v.size p n v.is;
}

pub abs-has : (x : Float) (s : Bool) (a d : ℕ) → HasValue x s a d → HasValue (abs x) false a d
unfolding abs
abs-has nan s a d h = absurd h
abs-has (inf t) s a d h = absurd h
abs-has (fin t m e) s a d h = (refl, h.1)

-- |(p - n) / d| = |p - n| / d
pub abs-val : {x : Float} {p n d : ℕ} → Val x p n d → Val (abs x) (dist p n) 0 d
abs-val {x} {p} {n} {d} v = record { sign = false; size = v.size; has = abs-has x v.sign v.size d v.has; is = add-zero v.size ∙ sym (val-size v) }

-- ---- a sum is (p + q - (n + m)) / D, rounded
sum-rounds : (f : Format) (s t : Bool) (a b c A B D p n q m : ℕ) → 0 < c → 0 < D → a * D ≡ A * c → b * D ≡ B * c → Signed s A p n → Signed t B q m
    → Rounds f (sum f s a t b c) (p + q) (n + m) D
unfolding sum
sum-rounds f false false a b c A B D p n q m C E e g h k =
    record { sign = false; size = A + B; eq = round_same f false (a + b) c (A + B) D C E (plus a b c A B D e g); is = omega arith }
sum-rounds f true true a b c A B D p n q m C E e g h k =
    record { sign = true; size = A + B; eq = round_same f true (a + b) c (A + B) D C E (plus a b c A B D e g); is = omega arith }
sum-rounds f false true a b c A B D p n q m C E e g h k = go (ltb a b) (ltb→lt a b) (nltb→le a b)
  where
    go : (u : Bool) → (T u → a < b) → (T (not u) → b ≤ a) → Rounds f (cond u (round f true (b - a) c) (round f (false && ltb b a) (a - b) c)) (p + q) (n + m) D
    go true x y =
        let o : A ≤ B = order a b c A B D C e g (le_of_lt (x tt)) in
        record { sign = true; size = B - A; eq = round_same f true (b - a) c (B - A) D C E (less b a c B A D g e); is = omega arith }
    go false x y =
        let o : B ≤ A = order b a c B A D C g e (y tt) in
        record { sign = false; size = A - B; eq = round_same f false (a - b) c (A - B) D C E (less a b c A B D e g); is = omega arith }
sum-rounds f true false a b c A B D p n q m C E e g h k = go (ltb a b) (ltb→lt a b) (nltb→le a b)
  where
    eq-case : (v : Bool) → B ≤ A → (T (not v) → a ≤ b) → Rounds f (round f (true && v) (a - b) c) (p + q) (n + m) D
    eq-case true o y = record { sign = true; size = A - B; eq = round_same f true (a - b) c (A - B) D C E (less a b c A B D e g); is = omega arith }
    eq-case false o y =
        let r : A ≤ B = order a b c A B D C e g (y tt) in
        record { sign = false; size = A - B; eq = round_same f false (a - b) c (A - B) D C E (less a b c A B D e g); is = omega arith }

    go : (u : Bool) → (T u → a < b) → (T (not u) → b ≤ a) → Rounds f (cond u (round f false (b - a) c) (round f (true && ltb b a) (a - b) c)) (p + q) (n + m) D
    go true x y =
        let o : A ≤ B = order a b c A B D C e g (le_of_lt (x tt)) in
        record { sign = false; size = B - A; eq = round_same f false (b - a) c (B - A) D C E (less b a c B A D g e); is = omega arith }
    go false x y = eq-case (ltb b a) (order b a c B A D C g e (y tt)) (nltb→le b a)

add_has : (f : Format) (x y : Float) (s t : Bool) (A B D p n q m : ℕ) → 0 < D → HasValue x s A D → HasValue y t B D → Signed s A p n → Signed t B q m
    → Rounds f (add f x y) (p + q) (n + m) D
unfolding add
add_has f nan y s t A B D p n q m E h k i j = absurd h
add_has f (inf u) y s t A B D p n q m E h k i j = absurd h
add_has f (fin u a e) nan s t A B D p n q m E h k i j = absurd k
add_has f (fin u a e) (inf v) s t A B D p n q m E h k i j = absurd k
add_has f (fin u a e) (fin v b d) s t A B D p n q m E h k i j =
    sum-rounds f u v (a * up e * down d) (b * up d * down e) (down e * down d) A B D p n q m (mul-pos (down_pos e) (down_pos d)) E
    (cross_l (a * up e) (down e) (down d) A D h.1) (cross_r (b * up d) (down e) (down d) B D k.1)
    (subst (λ (z : Bool). Signed z A p n) (sym h.0) i) (subst (λ (z : Bool). Signed z B q m) (sym k.0) j)

pub add_rounds : (f : Format) {x y : Float} {p n q m D : ℕ} → 0 < D → Val x p n D → Val y q m D → Rounds f (add f x y) (p + q) (n + m) D
add_rounds f {x} {y} {p} {n} {q} {m} {D} E v w = add_has f x y v.sign w.sign v.size w.size D p n q m E v.has w.has v.is w.is

-- ---- a difference is (p + m - (n + q)) / D, rounded
pub sub_rounds : (f : Format) {x y : Float} {p n q m D : ℕ} → 0 < D → Val x p n D → Val y q m D → Rounds f (sub f x y) (p + m) (n + q) D
unfolding sub
sub_rounds f E v w = add_rounds f E v (neg_val w)

-- ---- a product is (p - n) * (q - m) / (D * E), rounded
mul_has : (f : Format) (x y : Float) (s t : Bool) (A B D E p n q m : ℕ) → 0 < D → 0 < E → HasValue x s A D → HasValue y t B E → Signed s A p n → Signed t B q m
    → Rounds f (mul f x y) (p * q + n * m) (p * m + n * q) (D * E)
unfolding mul
mul_has f nan y s t A B D E p n q m F G h k i j = absurd h
mul_has f (inf u) y s t A B D E p n q m F G h k i j = absurd h
mul_has f (fin u a e) nan s t A B D E p n q m F G h k i j = absurd k
mul_has f (fin u a e) (inf v) s t A B D E p n q m F G h k i j = absurd k
mul_has f (fin u a e) (fin v b d) s t A B D E p n q m F G h k i j =
    record {
      sign = unlike u v;
      size = A * B;
      eq = round_same f (unlike u v) (a * up e * (b * up d)) (down e * down d) (A * B) (D * E) (mul-pos (down_pos e) (down_pos d)) (mul-pos F G)
          (times (a * up e) (b * up d) (down e) (down d) A B D E h.1 k.1);
      is = signed-times u v A B p n q m (subst (λ (z : Bool). Signed z A p n) (sym h.0) i) (subst (λ (z : Bool). Signed z B q m) (sym k.0) j);
    }

pub mul_rounds : (f : Format) {x y : Float} {p n q m D E : ℕ} → 0 < D → 0 < E → Val x p n D → Val y q m E
    → Rounds f (mul f x y) (p * q + n * m) (p * m + n * q) (D * E)
mul_rounds f {x} {y} {p} {n} {q} {m} {D} {E} F G v w = mul_has f x y v.sign w.sign v.size w.size D E p n q m F G v.has w.has v.is w.is

-- ---- a quotient by B / E above zero is (p - n) * E / (D * B), rounded; by -B / E below zero it is (n - p) * E / (D * B)
-- the sign of the quotient, and its pair
unlike_side : (u v : Bool) (a p n : ℕ) → Signed u a p n → Signed (unlike u v) a (cond v n p) (cond v p n)
unlike_side true false a p n h = h
unlike_side false false a p n h = h
unlike_side true true a p n h = h
unlike_side false true a p n h = h

div_has : (f : Format) (v : Bool) (x y : Float) (s : Bool) (A B D E p n : ℕ) → 0 < D → 0 < E → 0 < B → HasValue x s A D → HasValue y v B E → Signed s A p n
    → Rounds f (div f x y) (cond v (n * E) (p * E)) (cond v (p * E) (n * E)) (D * B)
unfolding div
div_has f v nan y s A B D E p n F G H h k i = absurd h
div_has f v (inf u) y s A B D E p n F G H h k i = absurd h
div_has f v (fin u a e) nan s A B D E p n F G H h k i = absurd k
div_has f v (fin u a e) (inf w) s A B D E p n F G H h k i = absurd k
div_has f v (fin u a e) (fin w b d) s A B D E p n F G H h k i = go (eqb b 0) (eqb→eq b 0)
  where
    some : 0 < b
    some = first_pos b (up d) (first_pos (b * up d) E (subst (λ (z : ℕ). 0 < z) (sym k.1) (mul-pos H (down_pos d))))

    go : (z : Bool) → (T z → b ≡ 0)
        → Rounds f (cond z (cond (eqb a 0) nan (inf (unlike u w))) (round f (unlike u w) (a * up e * down d) (b * up d * down e))) (cond v (n * E) (p * E))
        (cond v (p * E) (n * E)) (D * B)
    go true g = absurd (lt_irrefl 0 (subst (λ (z : ℕ). 0 < z) (g tt) some))
    go false g = record {
      sign = unlike u w;
      size = A * E;
      eq = round_same f (unlike u w) (a * up e * down d) (b * up d * down e) (A * E) (D * B) (mul-pos (mul-pos some (up_pos d)) (down_pos e)) (mul-pos F H)
          (quotient-same (a * up e) (b * up d) (down e) (down d) A B D E h.1 k.1);
      is = subst (λ (z : Bool). Signed (unlike u w) (A * E) (cond z (n * E) (p * E)) (cond z (p * E) (n * E))) k.0
          (unlike_side u w (A * E) (p * E) (n * E) (subst (λ (z : Bool). Signed z (A * E) (p * E) (n * E)) (sym h.0) (signed-scale s A p n E i)));
    }

-- the sign of a value that is not zero
sided : (v : Bool) (y : Float) (s : Bool) (a B E : ℕ) → 0 < B → HasValue y s a E → Signed s a (cond v 0 B) (cond v B 0) → HasValue y v B E
sided false y false a B E h k i = subst (λ (z : ℕ). HasValue y false z E) (sym (add-zero a) ∙ i) k
sided false y true a B E h k i = let w : ⊥ = omega arith in absurd w
sided true y true a B E h k i = subst (λ (z : ℕ). HasValue y true z E) (sym (add-zero a) ∙ i) k
sided true y false a B E h k i = let w : ⊥ = omega arith in absurd w

pub div_rounds : (f : Format) {x y : Float} {p n B D E : ℕ} → 0 < D → 0 < E → 0 < B → Val x p n D → Val y B 0 E → Rounds f (div f x y) (p * E) (n * E) (D * B)
div_rounds f {x} {y} {p} {n} {B} {D} {E} F G H v w =
    div_has f false x y v.sign v.size B D E p n F G H v.has (sided false y w.sign w.size B E H w.has w.is) v.is
