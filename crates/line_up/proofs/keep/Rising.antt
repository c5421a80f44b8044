-- What is kept rises, and has a stamp of each pile. Assumes nothing.
use Prim.Native.Nat.{ℕ, zero, suc, ◌+◌, ◌-◌, ◌<◌, ◌≤◌}
use native.Mathlib.Omega.{arith}
use mathlib.Core.Path.{◌≡◌, refl, sym, ap, ◌∙◌, subst}
use mathlib.Core.Bool.{Bool, true, false, cond}
use mathlib.Core.List.{List, [], ◌∷◌}
use lib.Dec.{eqb}
use lib.ListN.{length, get_or}
use borrow.Author.Tests.{eqb-true, eqb-false}
use Rattle.line_up.specs.keep.Piles.{piles_before, laid, piles_after, all_laid, ranks, wanted_before, wanted, all_judged, zeros, After, Rises}

-- the places zs that are kept, after piles ts: one of each of the `many` piles but the first w, and they may follow the last stamp of pile w
pub record Joined (lt : ℕ → ℕ → Bool) (ts : List ℕ) (many w : ℕ) (zs : List ℕ) : Type 0 where
  pub low : w ≤ length ts
  pub whole : length zs + w ≡ many
  pub rises : Rises lt zs
  pub joins : (p : ℕ) → w ≡ suc p → After lt (get_or ts p 0) zs

module _ (lt : ℕ → ℕ → Bool) where
  before-low-by : (c : Bool) (p k : ℕ) → p ≤ k → cond c 0 (suc p) ≤ suc k
  before-low-by true p k h = omega arith
  before-low-by false p k h = omega arith

  pub before-low : (i : ℕ) (ts : List ℕ) → piles_before lt i ts ≤ length ts
  unfolding piles_before
  before-low i [] = omega arith
  before-low i (t ∷ ts) = before-low-by (lt i t) (piles_before lt i ts) (length ts) (before-low i ts)

  before-late-by : (c : Bool) (i t p q : ℕ) (ts : List ℕ) → lt i t ≡ c → (q < p → lt i (get_or ts q 0) ≡ false) → suc q < cond c 0 (suc p)
      → lt i (get_or ts q 0) ≡ false
  before-late-by true i t p q ts e f h = let w : ⊥ = omega arith in absurd w
  before-late-by false i t p q ts e f h = f (omega arith)

  first-late-by : (c : Bool) (i t p : ℕ) → lt i t ≡ c → 0 < cond c 0 (suc p) → lt i t ≡ false
  first-late-by true i t p e h = let w : ⊥ = omega arith in absurd w
  first-late-by false i t p e h = e

  -- a stamp is not earlier than the last of a pile before its own
  pub before-late : (i : ℕ) (ts : List ℕ) (q : ℕ) → q < piles_before lt i ts → lt i (get_or ts q 0) ≡ false
  unfolding piles_before
  before-late i [] q h = let w : ⊥ = omega arith in absurd w
  before-late i (t ∷ ts) zero h = first-late-by (lt i t) i t (piles_before lt i ts) refl h
  before-late i (t ∷ ts) (suc q) h = before-late-by (lt i t) i t (piles_before lt i ts) q ts refl (before-late i ts q) h

  laid-same-by : (c : Bool) (i t p : ℕ) (ts us : List ℕ) → get_or us p 0 ≡ i → get_or (cond c (i ∷ ts) (t ∷ us)) (cond c 0 (suc p)) 0 ≡ i
  laid-same-by true i t p ts us h = refl
  laid-same-by false i t p ts us h = h

  -- it is the last of its pile
  pub laid_same : (i : ℕ) (ts : List ℕ) → get_or (laid lt i ts) (piles_before lt i ts) 0 ≡ i
  unfolding piles_before laid
  laid_same i [] = refl
  laid_same i (t ∷ ts) = laid-same-by (lt i t) i t (piles_before lt i ts) ts (laid lt i ts) (laid_same i ts)

  laid-first-by : (c : Bool) (i t p : ℕ) (ts us : List ℕ) → (0 ≡ cond c 0 (suc p) → ⊥) → get_or (cond c (i ∷ ts) (t ∷ us)) 0 0 ≡ t
  laid-first-by true i t p ts us h = absurd (h refl)
  laid-first-by false i t p ts us h = refl

  laid-other-by : (c : Bool) (i t p q : ℕ) (ts us : List ℕ) → ((q ≡ p → ⊥) → get_or us q 0 ≡ get_or ts q 0) → (suc q ≡ cond c 0 (suc p) → ⊥)
      → get_or (cond c (i ∷ ts) (t ∷ us)) (suc q) 0 ≡ get_or ts q 0
  laid-other-by true i t p q ts us f h = refl
  laid-other-by false i t p q ts us f h = f (λ e. h (ap suc e))

  -- the other piles are as they were
  pub laid-other : (i : ℕ) (ts : List ℕ) (q : ℕ) → (q ≡ piles_before lt i ts → ⊥) → get_or (laid lt i ts) q 0 ≡ get_or ts q 0
  unfolding piles_before laid
  laid-other i [] zero h = absurd (h refl)
  laid-other i [] (suc q) h = refl
  laid-other i (t ∷ ts) zero h = laid-first-by (lt i t) i t (piles_before lt i ts) ts (laid lt i ts) h
  laid-other i (t ∷ ts) (suc q) h = laid-other-by (lt i t) i t (piles_before lt i ts) q ts (laid lt i ts) (laid-other i ts q) h

  laid-low-by : (c : Bool) (i t p w : ℕ) (ts us : List ℕ) → (w ≤ length us → (w ≡ suc p → ⊥) → w ≤ length ts) → suc w ≤ length (cond c (i ∷ ts) (t ∷ us))
      → (suc w ≡ suc (cond c 0 (suc p)) → ⊥) → suc w ≤ suc (length ts)
  laid-low-by true i t p w ts us f h d = omega arith
  laid-low-by false i t p w ts us f h d = let k : w ≤ length ts = f (omega arith) (λ e. d (ap suc e)) in omega arith

  -- no pile but its own is new
  pub laid-low : (i : ℕ) (ts : List ℕ) (w : ℕ) → w ≤ length (laid lt i ts) → (w ≡ suc (piles_before lt i ts) → ⊥) → w ≤ length ts
  unfolding piles_before laid
  laid-low i [] w h d = omega arith
  laid-low i (t ∷ ts) zero h d = omega arith
  laid-low i (t ∷ ts) (suc w) h d = laid-low-by (lt i t) i t (piles_before lt i ts) w ts (laid lt i ts) (laid-low i ts w) h d

  module _ (many : ℕ) (i : ℕ) (ts zs : List ℕ) where
    kept-after : (p : ℕ) → p ≡ piles_before lt i ts → Joined lt (laid lt i ts) many (suc p) zs → Joined lt ts many p (i ∷ zs)
    kept-after p e j = record {
      low = omega (arith, before-low i ts);
      whole = omega (arith, j.whole);
      rises = (subst (λ (x : ℕ). After lt x zs) (ap (λ (q : ℕ). get_or (laid lt i ts) q 0) e ∙ laid_same i ts) (j.joins p refl), j.rises);
      joins = λ q d. before-late i ts q (omega arith);
    }

    left-out-after : (w : ℕ) → (w ≡ suc (piles_before lt i ts) → ⊥) → Joined lt (laid lt i ts) many w zs → Joined lt ts many w zs
    left-out-after w d j = record {
      low = laid-low i ts w j.low d;
      whole = j.whole;
      rises = j.rises;
      joins = λ q e. subst (λ (x : ℕ). After lt x zs) (laid-other i ts q (λ f. d (e ∙ ap suc f))) (j.joins q e);
    }

    laid_by : (c : Bool) (w : ℕ) → eqb (suc (piles_before lt i ts)) w ≡ c → Joined lt (laid lt i ts) many w zs
        → Joined lt ts many (cond c (suc (piles_before lt i ts) - 1) w) (cond (eqb (cond c 0 17) 0) (i ∷ zs) zs)
    laid_by true w e j =
        let p = piles_before lt i ts in
        let f : suc (piles_before lt i ts) ≡ w = eqb-true (suc p) w e in
        let g : suc (piles_before lt i ts) - 1 ≡ piles_before lt i ts = omega arith in
        rw g (kept-after (piles_before lt i ts) refl (subst (λ (v : ℕ). Joined lt (laid lt i ts) many v zs) (sym f) j))
    laid_by false w e j = left-out-after w (λ f. eqb-false (suc (piles_before lt i ts)) w e (sym f)) j

    refused-by : (c : Bool) (n w : ℕ) → eqb n 0 ≡ false → eqb 0 w ≡ c → Joined lt ts many w zs
        → Joined lt ts many (cond c (0 - 1) w) (cond (eqb n 0) (i ∷ zs) zs)
    refused-by true n w e f j = let g : w ≡ 0 = sym (eqb-true 0 w f) in rw e (subst (λ (v : ℕ). Joined lt ts many v zs) g j)
    refused-by false n w e f j = rw e j

    step_by : (c : Bool) (n w : ℕ) → eqb n 0 ≡ c → Joined lt (cond c (laid lt i ts) ts) many w zs
        → Joined lt ts many (wanted_before (cond c (suc (piles_before lt i ts)) 0) w)
        (cond (eqb (cond c (cond (eqb (cond c (suc (piles_before lt i ts)) 0) w) 0 17) n) 0) (i ∷ zs) zs)
    step_by true n w e j = laid_by (eqb (suc (piles_before lt i ts)) w) w refl j
    step_by false n w e j = refused-by (eqb 0 w) n w e refl j

  pub all-joined : (i : ℕ) (ns ts : List ℕ) (many : ℕ) → many ≡ length (all_laid lt i ns ts)
      → Joined lt ts many (wanted (ranks lt i ns ts) many) (zeros i (all_judged ns (ranks lt i ns ts) many))
  unfolding all_laid wanted ranks zeros all_judged
  all-joined i [] ts many e = record { low = omega arith; whole = omega arith; rises = tt; joins = λ p d. tt }
  all-joined i (n ∷ ns) ts many e =
      step_by many i ts (zeros (suc i) (all_judged ns (ranks lt (suc i) ns (piles_after lt n i ts)) many)) (eqb n 0) n
      (wanted (ranks lt (suc i) ns (piles_after lt n i ts)) many) refl
      (all-joined (suc i) ns (piles_after lt n i ts) many e)
