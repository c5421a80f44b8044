-- The search by halving, and that the last pass not after a tick is the only one so placed. Assumes nothing.
use Prim.Native.Nat.{ℕ, zero, suc, ◌+◌, ◌-◌, ◌/◌, ◌<◌, ◌≤◌}
use native.Mathlib.Omega.{arith}
use native.Mathlib.Nat.{le_refl}
use native.Mathlib.Decide.{dec_lt}
use mathlib.Core.Path.{◌≡◌, refl, sym, subst}
use mathlib.Core.Bool.{Bool, true, false, cond}
use lib.Dec.{leb}
use borrow.Author.Tests.{leb-true, leb-false}
use Rattle.ticks.specs.Passes.{last_not_after}
use Rattle.ticks.specs.judging.Numbers.{RisesTo}
use Rattle.ticks.specs.Asked.{FoundPass}
use Rattle.ticks.proofs.judging.ByLast.{rises-to}

-- ---- halving: the pass is `from` or one of the `left` behind it
pub record Seeking (tick : ℕ → ℕ) (low high t from left : ℕ) : Type 0 where
  pub under : low ≤ from
  pub over : from + left ≤ high
  pub at : tick from ≤ t
  pub next : from + left < high → t < tick (from + left + 1)

module _ (tick : ℕ → ℕ) (low high t : ℕ) where
  pub seek_starts : low ≤ high → tick low ≤ t → Seeking tick low high t low (high - low)
  seek_starts o f = record { under = le_refl low; over = omega arith; at = f; next = λ h. absurd (omega arith) }

  module _ (from left : ℕ) (s : Seeking tick low high t from left) (h : 0 < left) (r : ℕ) (er : r ≡ tick (from + (left + 1) / 2)) where
    pub seek_up : r ≤ t → Seeking tick low high t (from + (left + 1) / 2) (left / 2)
    seek_up k =
        let e : from + (left + 1) / 2 + left / 2 ≡ from + left = omega arith in
        record {
          under = omega (arith, s.under);
          over = omega (arith, s.over);
          at = omega arith;
          next = λ w. subst (λ (x : ℕ). t < tick (x + 1)) (sym e) (s.next (omega arith));
        }

    -- of an even number left the pass in the middle stays among them, though it is after the tick: then the next is too
    pub seek_down : RisesTo tick high → t < r → Seeking tick low high t from (left / 2)
    seek_down u k =
        record {
          under = s.under;
          over = omega (arith, s.over);
          at = s.at;
          next = λ w. after (dec_lt (left / 2) ((left + 1) / 2)) w;
        }
      where
        m : t < tick (from + (left + 1) / 2)
        m = omega arith

        after : Dec (left / 2 < (left + 1) / 2) → from + left / 2 < high → t < tick (from + left / 2 + 1)
        after (yes d) w =
            let e : from + (left + 1) / 2 ≡ from + left / 2 + 1 = omega arith in
            subst (λ (x : ℕ). t < tick x) e m
        after (no d) w =
            let e : from + (left + 1) / 2 ≡ from + left / 2 = omega arith in
            omega (arith, subst (λ (x : ℕ). t < tick x) e m, u (from + left / 2) w)

  pub seek_ends : (from left : ℕ) → Seeking tick low high t from left → left ≡ 0 → FoundPass tick low high t from
  seek_ends from left s h =
      let e : from + left ≡ from = omega arith in
      record {
        low = s.under;
        high = omega (arith, s.over);
        from = s.at;
        next = λ w. subst (λ (x : ℕ). t < tick (x + 1)) e (s.next (omega arith));
      }

-- ---- the last pass that is not after the tick
module _ (tick : ℕ → ℕ) (t : ℕ) where
  pub last-low : (k : ℕ) → last_not_after tick t k ≤ k
  unfolding last_not_after
  last-low zero = le_refl 0
  last-low (suc k) = go (leb (tick (suc k)) t) (last-low k)
    where
      go : (b : Bool) → last_not_after tick t k ≤ k → cond b (suc k) (last_not_after tick t k) ≤ suc k
      go true h = le_refl (suc k)
      go false h = omega arith

  pub last-from : tick 0 ≤ t → (k : ℕ) → tick (last_not_after tick t k) ≤ t
  unfolding last_not_after
  last-from l zero = l
  last-from l (suc k) = go (leb (tick (suc k)) t) refl (last-from l k)
    where
      go : (b : Bool) → leb (tick (suc k)) t ≡ b → tick (last_not_after tick t k) ≤ t → tick (cond b (suc k) (last_not_after tick t k)) ≤ t
      go true e h = leb-true (tick (suc k)) t e
      go false e h = h

  pub last-next : (k : ℕ) → last_not_after tick t k < k → t < tick (last_not_after tick t k + 1)
  unfolding last_not_after
  last-next zero h = absurd (omega arith)
  last-next (suc k) h = go (leb (tick (suc k)) t) refl (last-next k) h
    where
      go : (b : Bool) → leb (tick (suc k)) t ≡ b → (last_not_after tick t k < k → t < tick (last_not_after tick t k + 1))
          → cond b (suc k) (last_not_after tick t k) < suc k → t < tick (cond b (suc k) (last_not_after tick t k) + 1)
      go true e hyp h = absurd (omega arith)
      go false e hyp h = pick (dec_lt (last_not_after tick t k) k)
        where
          pick : Dec (last_not_after tick t k < k) → t < tick (last_not_after tick t k + 1)
          pick (yes w) = hyp w
          pick (no w) =
              let m : suc k ≡ last_not_after tick t k + 1 = omega arith in
              subst (λ (x : ℕ). t < tick x) m (leb-false (tick (suc k)) t e)

  -- it is the only pass of 0 to k that is not after the tick and whose next is after it
  pub last-only : (k : ℕ) → RisesTo tick k → (j : ℕ) → j ≤ k → tick j ≤ t → (j < k → t < tick (j + 1)) → j ≡ last_not_after tick t k
  unfolding last_not_after
  last-only zero r j h a n = omega arith
  last-only (suc k) r j h a n = go (leb (tick (suc k)) t) refl (last-only k (λ i w. r i (omega arith)) j) (dec_lt j (suc k))
    where
      go : (b : Bool) → leb (tick (suc k)) t ≡ b → (j ≤ k → tick j ≤ t → (j < k → t < tick (j + 1)) → j ≡ last_not_after tick t k) → Dec (j < suc k)
          → j ≡ cond b (suc k) (last_not_after tick t k)
      go true e hyp (yes w) = absurd (omega (arith, leb-true (tick (suc k)) t e, n w, rises-to tick (suc k) r (j + 1) (suc k) (omega arith) (omega arith)))
      go true e hyp (no w) = omega arith
      go false e hyp (yes w) = hyp (omega arith) a (λ z. n (omega arith))
      go false e hyp (no w) =
          let m : j ≡ suc k = omega arith in
          absurd (omega (arith, leb-false (tick (suc k)) t e, subst (λ (x : ℕ). tick x ≤ t) m a))

  -- what the search finds up to k, or up to a pass that is after the tick
  pub found-last : (k : ℕ) → RisesTo tick k → (low r : ℕ) → FoundPass tick low k t r → r ≡ last_not_after tick t k
  found-last k u low r f = last-only k u r f.high f.from f.next

  pub found_below : (k : ℕ) → RisesTo tick k → (low high r : ℕ) → high ≤ k → t < tick high → FoundPass tick low high t r → r ≡ last_not_after tick t k
  found_below k u low high r h l f = last-only k u r (omega (arith, f.high)) f.from (λ w. f.next (go (dec_lt r high)))
    where
      go : Dec (r < high) → r < high
      go (yes w) = w
      go (no w) =
          let m : r ≡ high = omega (arith, f.high) in
          absurd (omega (arith, subst (λ (x : ℕ). tick x ≤ t) m f.from))
