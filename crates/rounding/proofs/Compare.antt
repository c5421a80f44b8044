-- A comparison of two floats is that of their values: of (p - n) / D and (q - m) / D it is the comparison of p + m and q + n. The laws from a test that was
-- taken (≡ true), or was not (≡ false), to the order of natural numbers and back. Assumes nothing.
use mathlib.Core.Path.{◌≡◌, sym, ap, ◌∙◌, subst}
use Prim.Native.Nat.{ℕ, ◌+◌, ◌*◌, ◌≤◌, ◌<◌}
use native.Mathlib.Nat.{le_of_eq, le_of_lt, le_antisymm, zero-mul, mul-pos}
use native.Mathlib.Omega.{arith}
use mathlib.Core.Bool.{Bool, true, false, not, ◌&&◌, ◌||◌}
use lib.Dec.{T, ltb, leb, eqb, eqb→eq, ltb→lt, lt→ltb, nltb→le, leb→le, le→leb}
use lib.Ieee.{Float, nan, inf, fin, up, down, below, level, lt, eq, le}
use lib.Ieee.Fits.{down_pos, and_l, and_r, and_i, eq→eqb}
use lib.Ieee.Exact.{HasValue}
use borrow.Author.Tests.{ltb-true, ltb-false, leb-true, leb-false}
use Rattle.floats.proofs.Fields.{same_test}
use Rattle.rounding.specs.Value.{Signed, Val}
use Rattle.rounding.proofs.Fractions.{order, order_lt, plus, cross_l, cross_r}

module _ (a b c A B D p n q m : ℕ) (C : 0 < c) (E : 0 < D) (e : a * D ≡ A * c) (g : b * D ≡ B * c) where
  forth : a < b → A < B
  forth h = order_lt a b c A B D E e g h

  back : A < B → a < b
  back h = order_lt A B D a b c C (sym e) (sym g) h

  forth' : b < a → B < A
  forth' h = order_lt b a c B A D E g e h

  back' : B < A → b < a
  back' h = order_lt B A D b a c C (sym g) (sym e) h

  z : 0 * D ≡ 0 * c
  z = zero-mul D ∙ sym (zero-mul c)

  some : 0 < a + b → 0 < A + B
  some h = order_lt 0 (a + b) c 0 (A + B) D E z (plus a b c A B D e g) h

  some' : 0 < A + B → 0 < a + b
  some' h = order_lt 0 (A + B) D 0 (a + b) c C (sym z) (sym (plus a b c A B D e g)) h

  below-is : (s t : Bool) → Signed s A p n → Signed t B q m → below s a t b ≡ ltb (p + m) (q + n)
  below-is false false i j = same_test (ltb a b) (ltb (p + m) (q + n))
      (λ u. let h : A < B = forth (ltb→lt a b u) in lt→ltb (p + m) (q + n) (omega arith))
      (λ u. let h : p + m < q + n = ltb→lt (p + m) (q + n) u in lt→ltb a b (back (omega arith)))
  below-is false true i j = same_test false (ltb (p + m) (q + n)) (λ u. absurd u)
      (λ u. let h : p + m < q + n = ltb→lt (p + m) (q + n) u in let w : ⊥ = omega arith in absurd w)
  below-is true false i j = same_test (ltb 0 (a + b)) (ltb (p + m) (q + n))
      (λ u. let h : 0 < A + B = some (ltb→lt 0 (a + b) u) in lt→ltb (p + m) (q + n) (omega arith))
      (λ u. let h : p + m < q + n = ltb→lt (p + m) (q + n) u in lt→ltb 0 (a + b) (some' (omega arith)))
  below-is true true i j = same_test (ltb b a) (ltb (p + m) (q + n))
      (λ u. let h : B < A = forth' (ltb→lt b a u) in lt→ltb (p + m) (q + n) (omega arith))
      (λ u. let h : p + m < q + n = ltb→lt (p + m) (q + n) u in lt→ltb b a (back' (omega arith)))

  same : a ≡ b → A ≡ B
  same h = le_antisymm (order a b c A B D C e g (le_of_eq h)) (order b a c B A D C g e (le_of_eq (sym h)))

  same' : A ≡ B → a ≡ b
  same' h = le_antisymm (order A B D a b c E (sym e) (sym g) (le_of_eq h)) (order B A D b a c E (sym g) (sym e) (le_of_eq (sym h)))

  zero' : a ≡ 0 → A ≡ 0
  zero' h = le_antisymm (order a 0 c A 0 D C e z (le_of_eq h)) (order 0 a c 0 A D C z e (le_of_eq (sym h)))

  nought : A ≡ 0 → a ≡ 0
  nought h = le_antisymm (order A 0 D a 0 c E (sym e) (sym z) (le_of_eq h)) (order 0 A D 0 a c E (sym z) (sym e) (le_of_eq (sym h)))

  level-is : (s t : Bool) → Signed s A p n → Signed t B q m → level s a t b ≡ eqb (p + m) (q + n)
  level-is false false i j = same_test (eqb a b && true) (eqb (p + m) (q + n))
      (λ u. let h : A ≡ B = same (eqb→eq a b (and_l (eqb a b) true u)) in eq→eqb {a = p + m} {b = q + n} (omega arith))
      (λ u. let h : p + m ≡ q + n = eqb→eq (p + m) (q + n) u in and_i (eqb a b) true (eq→eqb {a = a} {b = b} (same' (omega arith))) tt)
  level-is true true i j = same_test (eqb a b && true) (eqb (p + m) (q + n))
      (λ u. let h : A ≡ B = same (eqb→eq a b (and_l (eqb a b) true u)) in eq→eqb {a = p + m} {b = q + n} (omega arith))
      (λ u. let h : p + m ≡ q + n = eqb→eq (p + m) (q + n) u in and_i (eqb a b) true (eq→eqb {a = a} {b = b} (same' (omega arith))) tt)
  level-is false true i j = same_test (eqb a b && eqb a 0) (eqb (p + m) (q + n))
      (λ u. let h : A ≡ B = same (eqb→eq a b (and_l (eqb a b) (eqb a 0) u)) in let k : A ≡ 0 =
      zero' (eqb→eq a 0 (and_r (eqb a b) (eqb a 0) u)) in eq→eqb {a = p + m} {b = q + n} (omega arith))
      (λ u. let h : p + m ≡ q + n = eqb→eq (p + m) (q + n) u in and_i (eqb a b) (eqb a 0) (eq→eqb {a = a} {b = b} (same' (omega arith)))
      (eq→eqb {a = a} {b = 0} (nought (omega arith))))
  level-is true false i j = same_test (eqb a b && eqb a 0) (eqb (p + m) (q + n))
      (λ u. let h : A ≡ B = same (eqb→eq a b (and_l (eqb a b) (eqb a 0) u)) in let k : A ≡ 0 =
      zero' (eqb→eq a 0 (and_r (eqb a b) (eqb a 0) u)) in eq→eqb {a = p + m} {b = q + n} (omega arith))
      (λ u. let h : p + m ≡ q + n = eqb→eq (p + m) (q + n) u in and_i (eqb a b) (eqb a 0) (eq→eqb {a = a} {b = b} (same' (omega arith)))
      (eq→eqb {a = a} {b = 0} (nought (omega arith))))

lt_has : (x y : Float) (s t : Bool) (A B D p n q m : ℕ) → 0 < D → HasValue x s A D → HasValue y t B D → Signed s A p n → Signed t B q m
    → lt x y ≡ ltb (p + m) (q + n)
unfolding lt
lt_has nan y s t A B D p n q m E h k i j = absurd h
lt_has (inf u) y s t A B D p n q m E h k i j = absurd h
lt_has (fin u a e) nan s t A B D p n q m E h k i j = absurd k
lt_has (fin u a e) (inf v) s t A B D p n q m E h k i j = absurd k
lt_has (fin u a e) (fin v b d) s t A B D p n q m E h k i j =
    below-is (a * up e * down d) (b * up d * down e) (down e * down d) A B D p n q m (mul-pos (down_pos e) (down_pos d)) E
    (cross_l (a * up e) (down e) (down d) A D h.1) (cross_r (b * up d) (down e) (down d) B D k.1) u v
    (subst (λ (z : Bool). Signed z A p n) (sym h.0) i) (subst (λ (z : Bool). Signed z B q m) (sym k.0) j)

eq-has : (x y : Float) (s t : Bool) (A B D p n q m : ℕ) → 0 < D → HasValue x s A D → HasValue y t B D → Signed s A p n → Signed t B q m
    → eq x y ≡ eqb (p + m) (q + n)
unfolding eq
eq-has nan y s t A B D p n q m E h k i j = absurd h
eq-has (inf u) y s t A B D p n q m E h k i j = absurd h
eq-has (fin u a e) nan s t A B D p n q m E h k i j = absurd k
eq-has (fin u a e) (inf v) s t A B D p n q m E h k i j = absurd k
eq-has (fin u a e) (fin v b d) s t A B D p n q m E h k i j =
    level-is (a * up e * down d) (b * up d * down e) (down e * down d) A B D p n q m (mul-pos (down_pos e) (down_pos d)) E
    (cross_l (a * up e) (down e) (down d) A D h.1) (cross_r (b * up d) (down e) (down d) B D k.1) u v
    (subst (λ (z : Bool). Signed z A p n) (sym h.0) i) (subst (λ (z : Bool). Signed z B q m) (sym k.0) j)

-- x < y, x = y and x ≤ y, by the values
pub lt_val : {x y : Float} {p n q m D : ℕ} → 0 < D → Val x p n D → Val y q m D → lt x y ≡ ltb (p + m) (q + n)
lt_val {x} {y} {p} {n} {q} {m} {D} E v w = lt_has x y v.sign w.sign v.size w.size D p n q m E v.has w.has v.is w.is

pub eq_val : {x y : Float} {p n q m D : ℕ} → 0 < D → Val x p n D → Val y q m D → eq x y ≡ eqb (p + m) (q + n)
eq_val {x} {y} {p} {n} {q} {m} {D} E v w = eq-has x y v.sign w.sign v.size w.size D p n q m E v.has w.has v.is w.is

or_is : (a b : ℕ) → (ltb a b || eqb a b) ≡ leb a b
or_is a b = same_test (ltb a b || eqb a b) (leb a b) (λ u. le→leb a b (split (ltb a b) (eqb a b) (ltb→lt a b) (eqb→eq a b) u))
    (λ u. join (ltb a b) (nltb→le a b) (leb→le a b u))
  where
    split : (x y : Bool) → (T x → a < b) → (T y → a ≡ b) → T (x || y) → a ≤ b
    split true y h k u = le_of_lt (h tt)
    split false y h k u = le_of_eq (k u)

    join : (x : Bool) → (T (not x) → b ≤ a) → a ≤ b → T (x || eqb a b)
    join true h k = tt
    join false h k = eq→eqb (le_antisymm k (h tt))

pub le_val : {x y : Float} {p n q m D : ℕ} → 0 < D → Val x p n D → Val y q m D → le x y ≡ leb (p + m) (q + n)
unfolding le
le_val {x} {y} {p} {n} {q} {m} E v w = ap (λ (b : Bool). b || eq x y) (lt_val E v w) ∙ ap (λ (b : Bool). ltb (p + m) (q + n) || b) (eq_val E v w)
    ∙ or_is (p + m) (q + n)

module _ {x y : Float} {p n q m D : ℕ} (E : 0 < D) (v : Val x p n D) (w : Val y q m D) where
  -- ---- what a test says of the values
  pub lt_true : lt x y ≡ true → p + m < q + n
  lt_true e = ltb-true (p + m) (q + n) (sym (lt_val E v w) ∙ e)

  pub lt_false : lt x y ≡ false → q + n ≤ p + m
  lt_false e = ltb-false (p + m) (q + n) (sym (lt_val E v w) ∙ e)

  pub le_true : le x y ≡ true → p + m ≤ q + n
  le_true e = leb-true (p + m) (q + n) (sym (le_val E v w) ∙ e)

  pub le_false : le x y ≡ false → q + n < p + m
  le_false e = leb-false (p + m) (q + n) (sym (le_val E v w) ∙ e)

  -- ---- the same of a test as a proposition, and back: what the values say of a test
  pub lt_says : T (lt x y) → p + m < q + n
  lt_says t = ltb→lt (p + m) (q + n) (subst T (lt_val E v w) t)

  pub le_says : T (le x y) → p + m ≤ q + n
  le_says t = leb→le (p + m) (q + n) (subst T (le_val E v w) t)

  pub lt_show : p + m < q + n → T (lt x y)
  lt_show h = subst T (sym (lt_val E v w)) (lt→ltb (p + m) (q + n) h)

  pub le_show : p + m ≤ q + n → T (le x y)
  le_show h = subst T (sym (le_val E v w)) (le→leb (p + m) (q + n) h)
