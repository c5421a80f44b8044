-- Five tests in their order, each with the number of its refusal: a number comes exactly where its test fails and none before it. Assumes nothing.
use Prim.Native.Nat.{ℕ}
use mathlib.Core.Path.{◌≡◌, refl, sym}
use mathlib.Core.Bool.{Bool, true, false, cond, true≢false}
use mathlib.Core.Logic.{◌↔◌}

-- the number: that of the first test that fails, and 0 where none does
abbrev pub by_tests : (a b c d e : ℕ) (p q r s t : Bool) → ℕ
by_tests a b c d e p q r s t = cond p (cond q (cond r (cond s (cond t 0 e) d) c) b) a

-- five numbers, no two alike and none 0
pub record Apart (a b c d e : ℕ) : Type 0 where
  pub ab : a ≡ b → ⊥
  pub ac : a ≡ c → ⊥
  pub ad : a ≡ d → ⊥
  pub ae : a ≡ e → ⊥
  pub bc : b ≡ c → ⊥
  pub bd : b ≡ d → ⊥
  pub be : b ≡ e → ⊥
  pub cd : c ≡ d → ⊥
  pub ce : c ≡ e → ⊥
  pub de : d ≡ e → ⊥
  pub a0 : a ≡ 0 → ⊥
  pub b0 : b ≡ 0 → ⊥
  pub c0 : c ≡ 0 → ⊥
  pub d0 : d ≡ 0 → ⊥
  pub e0 : e ≡ 0 → ⊥

pub record Steps (a b c d e : ℕ) (P Q R S T : Type 0) (k : ℕ) : Type 0 where
  pub at_a : (k ≡ a) ↔ (P → ⊥)
  pub at_b : (k ≡ b) ↔ (P × (Q → ⊥))
  pub at_c : (k ≡ c) ↔ (P × Q × (R → ⊥))
  pub at_d : (k ≡ d) ↔ (P × Q × R × (S → ⊥))
  pub at_e : (k ≡ e) ↔ (P × Q × R × S × (T → ⊥))
  pub at_0 : (k ≡ 0) ↔ (P × Q × R × S × T)

other : {X : Type 0} (k n : ℕ) → (k ≡ n → ⊥) → (X → ⊥) → (k ≡ n) ↔ X
other k n h x = (λ e. absurd (h e), λ y. absurd (x y))

not_so : {X : Type 0} → (false ≡ true) ↔ X → X → ⊥
not_so i x = true≢false (sym (i.1 x))

pub through : {A B C : Type 0} → A ↔ B → B ↔ C → A ↔ C
through i j = (λ x. j.0 (i.0 x), λ z. i.1 (j.1 z))

module _ (a b c d e : ℕ) (n : Apart a b c d e) {P Q R S T : Type 0} where
  pub steps : (p q r s t : Bool) → (p ≡ true) ↔ P → (q ≡ true) ↔ Q → (r ≡ true) ↔ R → (s ≡ true) ↔ S → (t ≡ true) ↔ T
      → Steps a b c d e P Q R S T (by_tests a b c d e p q r s t)
  steps false q r s t i j k l m =
      record {
        at_a = (λ _. not_so i, λ _. refl);
        at_b = other a b n.ab (λ y. not_so i y.0);
        at_c = other a c n.ac (λ y. not_so i y.0);
        at_d = other a d n.ad (λ y. not_so i y.0);
        at_e = other a e n.ae (λ y. not_so i y.0);
        at_0 = other a 0 n.a0 (λ y. not_so i y.0);
      }
  steps true false r s t i j k l m =
      record {
        at_a = other b a (λ z. n.ab (sym z)) (λ y. y (i.0 refl));
        at_b = (λ _. (i.0 refl, not_so j), λ _. refl);
        at_c = other b c n.bc (λ y. not_so j y.1);
        at_d = other b d n.bd (λ y. not_so j y.1);
        at_e = other b e n.be (λ y. not_so j y.1);
        at_0 = other b 0 n.b0 (λ y. not_so j y.1);
      }
  steps true true false s t i j k l m =
      record {
        at_a = other c a (λ z. n.ac (sym z)) (λ y. y (i.0 refl));
        at_b = other c b (λ z. n.bc (sym z)) (λ y. y.1 (j.0 refl));
        at_c = (λ _. (i.0 refl, j.0 refl, not_so k), λ _. refl);
        at_d = other c d n.cd (λ y. not_so k y.2);
        at_e = other c e n.ce (λ y. not_so k y.2);
        at_0 = other c 0 n.c0 (λ y. not_so k y.2);
      }
  steps true true true false t i j k l m =
      record {
        at_a = other d a (λ z. n.ad (sym z)) (λ y. y (i.0 refl));
        at_b = other d b (λ z. n.bd (sym z)) (λ y. y.1 (j.0 refl));
        at_c = other d c (λ z. n.cd (sym z)) (λ y. y.2 (k.0 refl));
        at_d = (λ _. (i.0 refl, j.0 refl, k.0 refl, not_so l), λ _. refl);
        at_e = other d e n.de (λ y. not_so l y.3);
        at_0 = other d 0 n.d0 (λ y. not_so l y.3);
      }
  steps true true true true false i j k l m =
      record {
        at_a = other e a (λ z. n.ae (sym z)) (λ y. y (i.0 refl));
        at_b = other e b (λ z. n.be (sym z)) (λ y. y.1 (j.0 refl));
        at_c = other e c (λ z. n.ce (sym z)) (λ y. y.2 (k.0 refl));
        at_d = other e d (λ z. n.de (sym z)) (λ y. y.3 (l.0 refl));
        at_e = (λ _. (i.0 refl, j.0 refl, k.0 refl, l.0 refl, not_so m), λ _. refl);
        at_0 = other e 0 n.e0 (λ y. not_so m y.4);
      }
  steps true true true true true i j k l m =
      record {
        at_a = other 0 a (λ z. n.a0 (sym z)) (λ y. y (i.0 refl));
        at_b = other 0 b (λ z. n.b0 (sym z)) (λ y. y.1 (j.0 refl));
        at_c = other 0 c (λ z. n.c0 (sym z)) (λ y. y.2 (k.0 refl));
        at_d = other 0 d (λ z. n.d0 (sym z)) (λ y. y.3 (l.0 refl));
        at_e = other 0 e (λ z. n.e0 (sym z)) (λ y. y.4 (m.0 refl));
        at_0 = (λ _. (i.0 refl, j.0 refl, k.0 refl, l.0 refl, m.0 refl), λ _. refl);
      }
