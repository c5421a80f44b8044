-- Lists whose elements stand to one another in turn, with one more at the end; and a test of more and more places, which stays false once it is.
-- Assumes nothing.
use Rattle.std.proofs.Common.{◌≡◌, ℕ, zero, suc, ◌<◌, Bool, true, false, ◌&&◌, ltb, List, [], ◌∷◌, ◌++◌, length, get_or, sym, refl, ap, ◌∙◌, subst}
use Rattle.std.proofs.Common.{true≢false, le_of_suc-le-suc, not-suc-le-zero, arith, ltb-false, ltb-true}
use Rattle.leap_table.specs.rows.Table.{in_turn}
use Rattle.std.proofs.Common.{◌≤◌, leb, leb-false, leb-true}

-- the last element of a list, d of an empty one
abbrev pub last_of : {A : Type 0} → A → List A → A
last_of d [] = d
last_of d (a ∷ l) = last_of a l

pub last-of-more : {A : Type 0} (d : A) (l : List A) (b : A) → last_of d (l ++ (b ∷ [])) ≡ b
last-of-more d [] b = refl
last-of-more d (a ∷ l) b = last-of-more a l b

both_hold : (a b : Bool) → a && b ≡ true → (a ≡ true) × (b ≡ true)
both_hold true b e = (refl, e)
both_hold false b e = absurd (true≢false (sym e))

with_true : (b : Bool) → b && true ≡ b
with_true true = refl
with_true false = refl

and_assoc : (a b c : Bool) → a && (b && c) ≡ (a && b) && c
and_assoc true b c = refl
and_assoc false b c = refl

pub one_more : {A : Type 0} (to : A → A → Bool) (d : A) (l : List A) (b : A) → 0 < length l → in_turn to (l ++ (b ∷ [])) ≡ in_turn to l && to (last_of d l) b
one_more to d [] b h = absurd (not-suc-le-zero h)
one_more to d (a ∷ []) b h = with_true (to a b)
one_more to d (a ∷ (e ∷ l)) b h =
    ap (λ (t : Bool). to a e && t) (one_more to d (e ∷ l) b (omega arith))
    ∙ and_assoc (to a e) (in_turn to (e ∷ l)) (to (last_of e l) b)

pub in_turn_at : {A : Type 0} (to : A → A → Bool) (d : A) (l : List A) → in_turn to l ≡ true → (i : ℕ) → suc i < length l
    → to (get_or l i d) (get_or l (suc i) d) ≡ true
in_turn_at to d [] e i h = absurd (not-suc-le-zero h)
in_turn_at to d (a ∷ []) e i h = absurd (not-suc-le-zero (le_of_suc-le-suc h))
in_turn_at to d (a ∷ (b ∷ l)) e zero h = (both_hold (to a b) (in_turn to (b ∷ l)) e).0
in_turn_at to d (a ∷ (b ∷ l)) e (suc i) h = in_turn_at to d (b ∷ l) (both_hold (to a b) (in_turn to (b ∷ l)) e).1 i (le_of_suc-le-suc h)

-- ---- a test that asks one thing more at each place
module _ (f g : ℕ → Bool) (step : (n : ℕ) → f (suc n) ≡ f n && g n) where
  -- where it holds, each thing asked does; where it fails, one fails that stands after places that hold
  pub all_hold : (n : ℕ) → f n ≡ true → (i : ℕ) → i < n → (f i ≡ true) × (g i ≡ true)
  all_hold zero e i h = absurd (not-suc-le-zero h)
  all_hold (suc n) e i h = go (ltb i n) refl (both_hold (f n) (g n) (sym (step n) ∙ e)) (λ p l. all_hold n p i l)
    where
      last : (a b : ℕ) → ltb a b ≡ false → a < suc b → b ≡ a
      last a b p q = omega (arith, ltb-false a b p)

      go : (b : Bool) → ltb i n ≡ b → (f n ≡ true) × (g n ≡ true) → (f n ≡ true → i < n → (f i ≡ true) × (g i ≡ true)) → (f i ≡ true) × (g i ≡ true)
      go true p q more = more q.0 (ltb-true i n p)
      go false p q more = subst (λ (k : ℕ). (f k ≡ true) × (g k ≡ true)) (last i n p h) q

  pub first-fails : f 0 ≡ true → (n : ℕ) → f n ≡ false → (i : ℕ) × (i < n) × (f i ≡ true) × (g i ≡ false)
  first-fails z zero e = absurd (true≢false (sym z ∙ e))
  first-fails z (suc n) e = go (f n) refl (g n) refl (sym (step n) ∙ e) (λ p. first-fails z n p)
    where
      go : (a : Bool) → f n ≡ a → (b : Bool) → g n ≡ b → f n && g n ≡ false → (f n ≡ false → (i : ℕ) × (i < n) × (f i ≡ true) × (g i ≡ false)) → (i : ℕ)
          × (i < suc n) × (f i ≡ true) × (g i ≡ false)
      go false p b q r more = let (i, l, x, y) = more p in (i, omega (arith, l), x, y)
      go true p false q r more = (n, omega arith, p, q)
      go true p true q r more = absurd (true≢false (sym (rw (p, q)) ∙ r))

-- ---- the same test one place on: it fails where the thing asked does, stays false once it is, and holds where both do
module _ (f g : ℕ → Bool) (step : (n : ℕ) → f (suc n) ≡ f n && g n) where
  pub fails_at : (n : ℕ) → g n ≡ false → f (suc n) ≡ false
  fails_at n e = step n ∙ ap (λ (b : Bool). f n && b) e ∙ off (f n)
    where
      off : (b : Bool) → b && false ≡ false
      off true = refl
      off false = refl

  pub stays-false : (k i : ℕ) → i ≤ k → f i ≡ false → f k ≡ false
  stays-false zero i h e = ap f (none i h) ∙ e
    where
      none : (j : ℕ) → j ≤ 0 → 0 ≡ j
      none j g = omega arith
  stays-false (suc k) i h e = go (leb i k) refl (λ p. stays-false k i p e)
    where
      last : (a b : ℕ) → leb a b ≡ false → a ≤ suc b → suc b ≡ a
      last a b p q = omega (arith, leb-false a b p)

      off : (b : Bool) → b ≡ false → b && g k ≡ false
      off b p = rw p

      go : (b : Bool) → leb i k ≡ b → (i ≤ k → f k ≡ false) → f (suc k) ≡ false
      go true p more = step k ∙ off (f k) (more (leb-true i k p))
      go false p more = ap f (last i k p h) ∙ e

  pub holds-next : (n : ℕ) → f n ≡ true → g n ≡ true → f (suc n) ≡ true
  holds-next n p q = rw (step n, p, q)
