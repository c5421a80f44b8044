-- Blanks around a text: what stands before and behind them. Assumes nothing.
use Prim.Native.Nat.{ℕ, ◌≤◌}
use native.Mathlib.Omega.{arith}
use mathlib.Core.Path.{◌≡◌, refl, ap}
use mathlib.Core.List.{List, [], ◌∷◌, ◌++◌}
use mathlib.Core.Bool.{Bool, true, false, cond, ◌&&◌, ◌||◌, and-eq-true_iff}
use mathlib.Core.Logic.{inl, inr}
use lib.ListN.{length}
use lib.Dec.{leb, eqb}
use borrow.Author.Tests.{leb-true, eqb-true, le-leb, lt-leb, eq-eqb, ne_eqb}
use Rattle.parsing.specs.Grammar.{Blank, AllBlank}
use Rattle.parsing.specs.scan.Form.{is_blank, after_blanks}

-- ---- one byte
pub blank_is : (c : ℕ) → Blank c → is_blank c ≡ true
unfolding is_blank
blank_is c (inl h) = rw (le-leb 9 c h.0, le-leb c 13 h.1)
blank_is c (inr e) = rw (eq-eqb c 32 e) (last (leb 9 c && leb c 13))
  where
    last : (b : Bool) → (b || true) ≡ true
    last true = refl
    last false = refl

pub is-blank : (c : ℕ) → is_blank c ≡ true → Blank c
unfolding is_blank
is-blank c e = either (leb 9 c && leb c 13) refl e
  where
    either : (b : Bool) → (leb 9 c && leb c 13) ≡ b → (b || eqb c 32) ≡ true → Blank c
    either true k h = let p = (and-eq-true_iff (leb 9 c) (leb c 13)).0 k in inl (leb-true 9 c p.0, leb-true c 13 p.1)
    either false k h = inr (eqb-true c 32 h)

-- bytes from 33 on are none
pub no_blank : (c : ℕ) → 33 ≤ c → is_blank c ≡ false
unfolding is_blank
no_blank c h = rw (lt-leb c 13 (omega arith), ne_eqb c 32 (λ e. omega arith)) (last (leb 9 c))
  where
    last : (b : Bool) → ((b && false) || false) ≡ false
    last true = refl
    last false = refl

-- ---- in front
pub front_blanks : List ℕ → List ℕ
front_blanks [] = []
front_blanks (c ∷ cs) = cond (is_blank c) (c ∷ front_blanks cs) []

pub front_blank : (t : List ℕ) → AllBlank (front_blanks t)
unfolding front_blanks AllBlank
front_blank [] = tt
front_blank (c ∷ cs) = either (is_blank c) refl (front_blank cs)
  where
    either : (b : Bool) → is_blank c ≡ b → AllBlank (front_blanks cs) → AllBlank (cond b (c ∷ front_blanks cs) [])
    either true e h = (is-blank c e, h)
    either false e h = tt

pub front_split : (t : List ℕ) → t ≡ front_blanks t ++ after_blanks t
unfolding front_blanks after_blanks
front_split [] = refl
front_split (c ∷ cs) = either (is_blank c) (front_split cs)
  where
    either : (b : Bool) → cs ≡ front_blanks cs ++ after_blanks cs → c ∷ cs ≡ cond b (c ∷ front_blanks cs) [] ++ cond b (after_blanks cs) (c ∷ cs)
    either true h = ap (λ (l : List ℕ). c ∷ l) h
    either false h = refl

-- blanks in front are skipped, and nothing else
pub skipped : (b s : List ℕ) → AllBlank b → after_blanks s ≡ s → after_blanks (b ++ s) ≡ s
unfolding AllBlank after_blanks
skipped [] s h e = e
skipped (c ∷ cs) s h e = rw (blank_is c h.0) (skipped cs s h.1 e)

-- ---- behind
pub all-skipped : (b : List ℕ) → AllBlank b → after_blanks b ≡ []
unfolding AllBlank after_blanks
all-skipped [] h = refl
all-skipped (c ∷ cs) h = rw (blank_is c h.0) (all-skipped cs h.1)

pub none_left : (b : List ℕ) → length (after_blanks b) ≡ 0 → AllBlank b
unfolding AllBlank after_blanks
none_left [] e = tt
none_left (c ∷ cs) e = either (is_blank c) refl (none_left cs) e
  where
    either : (x : Bool) → is_blank c ≡ x → (length (after_blanks cs) ≡ 0 → AllBlank cs) → length (cond x (after_blanks cs) (c ∷ cs)) ≡ 0 → AllBlank (c ∷ cs)
    either true k back h = (is-blank c k, back h)
    either false k back h = absurd (let z : ⊥ = omega arith in z)
