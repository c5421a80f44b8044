-- Which bytes of the three slices are whose. Assumes nothing.
use Prim.Native.Nat.{ℕ, zero, suc, ◌+◌, ◌*◌, ◌<◌, ◌≤◌}
use native.Mathlib.Omega.{arith}
use native.Mathlib.Nat.{eq-or-lt_of_le}
use mathlib.Core.Path.{◌≡◌, refl, sym, ap, ◌∙◌}
use mathlib.Core.Logic.{◌⊎◌, inl, inr}
use mathlib.Core.Bool.{cond}
use mathlib.Core.List.{List}
use lib.Dec.{eqb}
use lib.ListN.{length, get_or, set}
use lib.Seq.{get_or-set_same, get_or-set_other}
use Rattle.refusals.specs.Outcome.{Outcome, answer, refusal}
use Rattle.numerals.proofs.little_endian.SetBytes.{set_outside, set_inside}
use Rattle.utc.specs.run_texts.RunTexts.{refusal_byte, with_text, with_texts, with_bytes, texts_refused}
use Rattle.utc.specs.laws.RunTexts.{numbers_not_zero}
use Rattle.utc.proofs.run_texts.Puts.{texts-kept, bytes-kept}

-- ---- the texts f 0, f 1, .., each of at most 27 bytes
module _ (f : ℕ → Outcome (List ℕ)) (few : (i : ℕ) (t : List ℕ) → f i ≡ answer t → length t ≤ 27) (l : List ℕ) where
  text-outside : (o : Outcome (List ℕ)) (i : ℕ) (s : List ℕ) (j : ℕ) → ((t : List ℕ) → o ≡ answer t → length t ≤ 27) → (j < 27 * i) ⊎ (27 * i + 27 ≤ j)
      → get_or (with_text o i s) j 0 ≡ get_or s j 0
  unfolding with_text
  text-outside (answer t) i s j most h = set_outside t s (27 * i) j (by (most t refl) h)
    where
      by : length t ≤ 27 → (j < 27 * i) ⊎ (27 * i + 27 ≤ j) → (j < 27 * i) ⊎ (27 * i + length t ≤ j)
      by m (inl p) = inl p
      by m (inr p) = inr (omega arith)
  text-outside (refusal n) i s j most h = refl

  pub texts-beyond : (n j : ℕ) → 27 * n ≤ j → get_or (with_texts f n l) j 0 ≡ get_or l j 0
  unfolding with_texts
  texts-beyond zero j h = refl
  texts-beyond (suc n) j h = text-outside (f n) n (with_texts f n l) j (few n) (inr (omega arith)) ∙ texts-beyond n j (omega arith)

  -- what is found at byte k of place i, x, once stamp i is put, is found there at the end
  kept-to : (n i k x : ℕ) → k < 27 → i < n → get_or (with_texts f (suc i) l) (27 * i + k) 0 ≡ x → get_or (with_texts f n l) (27 * i + k) 0 ≡ x
  unfolding with_texts
  kept-to zero i k x b h e = let w : ⊥ = omega arith in absurd w
  kept-to (suc n) i k x b h e = go (eq-or-lt_of_le (omega arith)) (λ m. kept-to n i k x b m e)
    where
      go : (i ≡ n) ⊎ (i < n) → (i < n → get_or (with_texts f n l) (27 * i + k) 0 ≡ x) → get_or (with_text (f n) n (with_texts f n l)) (27 * i + k) 0 ≡ x
      go (inl q) before = ap (λ (m : ℕ). get_or (with_text (f m) m (with_texts f m l)) (27 * i + k) 0) (sym q) ∙ e
      go (inr m) before = text-outside (f n) n (with_texts f n l) (27 * i + k) (few n) (inl (omega arith)) ∙ before m

  module _ (n i k : ℕ) (h : i < n) where
    pub text_at : (t : List ℕ) → f i ≡ answer t → 27 * n ≤ length l → k < length t → get_or (with_texts f n l) (27 * i + k) 0 ≡ get_or t k 0
    unfolding with_texts with_text
    text_at t e room b =
        let most = few i t e in
        kept-to n i k (get_or t k 0) (omega arith) h
        (rw e (set_inside t (with_texts f i l) (27 * i) k (omega (arith, texts-kept f i l)) b))

    pub behind-at : (t : List ℕ) → f i ≡ answer t → length t ≤ k → k < 27 → get_or (with_texts f n l) (27 * i + k) 0 ≡ get_or l (27 * i + k) 0
    unfolding with_texts with_text
    behind-at t e b c =
        kept-to n i k (get_or l (27 * i + k) 0) c h
        (rw e (set_outside t (with_texts f i l) (27 * i) (27 * i + k) (inr (omega arith)) ∙ texts-beyond i (27 * i + k) (omega arith)))

    pub refused-at : (r : ℕ) → f i ≡ refusal r → k < 27 → get_or (with_texts f n l) (27 * i + k) 0 ≡ get_or l (27 * i + k) 0
    unfolding with_texts with_text
    refused-at r e c = kept-to n i k (get_or l (27 * i + k) 0) c h (rw e (texts-beyond i (27 * i + k) (omega arith)))

-- ---- a byte for each stamp
module _ (byte : Outcome (List ℕ) → ℕ) (f : ℕ → Outcome (List ℕ)) (l : List ℕ) where
  pub bytes-beyond : (n j : ℕ) → n ≤ j → get_or (with_bytes byte f n l) j 0 ≡ get_or l j 0
  unfolding with_bytes
  bytes-beyond zero j h = refl
  bytes-beyond (suc n) j h = get_or-set_other (with_bytes byte f n l) n j (byte (f n)) 0 (λ e. let w : ⊥ = omega arith in w) ∙ bytes-beyond n j (omega arith)

  byte_step : (n i : ℕ) → (i ≡ n) ⊎ (i < n) → suc n ≤ length l → (i < n → get_or (with_bytes byte f n l) i 0 ≡ byte (f i))
      → get_or (set (with_bytes byte f n l) n (byte (f n))) i 0 ≡ byte (f i)
  byte_step n i (inl q) room before = rw q (get_or-set_same (with_bytes byte f n l) n (byte (f n)) 0 (omega (arith, bytes-kept byte f n l)))
  byte_step n i (inr m) room before = get_or-set_other (with_bytes byte f n l) n i (byte (f n)) 0 (λ e. let w : ⊥ = omega arith in w) ∙ before m

  pub byte_at : (n i : ℕ) → i < n → n ≤ length l → get_or (with_bytes byte f n l) i 0 ≡ byte (f i)
  unfolding with_bytes
  byte_at zero i h room = let w : ⊥ = omega arith in absurd w
  byte_at (suc n) i h room = byte_step n i (eq-or-lt_of_le (omega arith)) room (λ m. byte_at n i m (omega arith))

-- the count is of the numbers that are not 0
pub counted : (f : ℕ → Outcome (List ℕ)) (l : List ℕ) (n m : ℕ) → m ≤ n → n ≤ length l → texts_refused f m ≡ numbers_not_zero m (with_bytes refusal_byte f n l)
unfolding texts_refused numbers_not_zero
counted f l n zero h room = refl
counted f l n (suc m) h room =
    λ k. counted f l n m (omega arith) room k + cond (eqb (sym (byte_at refusal_byte f l n m (omega arith) room) k) 0) 0 1
