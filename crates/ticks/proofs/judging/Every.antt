-- What is true of each of the first numbers: how a loop adds one, where it stops, and what it has shown. Assumes nothing.
use Prim.Native.Nat.{ℕ, zero, suc, ◌+◌, ◌<◌}
use native.Mathlib.Omega.{arith}
use native.Mathlib.Numerals.{add-one}
use native.Mathlib.Decide.{dec_lt}
use mathlib.Core.Path.{◌≡◌, refl, subst}
use mathlib.Core.Bool.{Bool, true, false, ◌&&◌}
use Rattle.std.proofs.lemmas.Bool.{and_parts, and_right}
use Rattle.ticks.specs.judging.Numbers.{holds_below}

module _ (f : ℕ → Bool) where
  pub every_more : (n : ℕ) → holds_below n f ≡ true → f n ≡ true → holds_below (n + 1) f ≡ true
  unfolding holds_below
  every_more n p q = rw (add-one, p) q

  pub every_stops : (n i : ℕ) → i < n → f i ≡ false → holds_below n f ≡ false
  unfolding holds_below
  every_stops zero i h e = absurd (omega arith)
  every_stops (suc n) i h e = go (every_stops n i) (dec_lt i n)
    where
      go : (i < n → f i ≡ false → holds_below n f ≡ false) → Dec (i < n) → holds_below n f && f n ≡ false
      go hyp (yes k) = rw (hyp k e)
      go hyp (no k) =
          let m : i ≡ n = omega arith in
          and_right (holds_below n f) (f n) (subst (λ (j : ℕ). f j ≡ false) m e)

  pub every_at : (n : ℕ) → holds_below n f ≡ true → (i : ℕ) → i < n → f i ≡ true
  unfolding holds_below
  every_at zero e i h = absurd (omega arith)
  every_at (suc n) e i h = go (every_at n (and_parts (holds_below n f) (f n) e).0 i) (dec_lt i n)
    where
      go : (i < n → f i ≡ true) → Dec (i < n) → f i ≡ true
      go hyp (yes k) = hyp k
      go hyp (no k) =
          let m : n ≡ i = omega arith in
          subst (λ (j : ℕ). f j ≡ true) m (and_parts (holds_below n f) (f n) e).1

  pub every_all : (n : ℕ) → ((i : ℕ) → i < n → f i ≡ true) → holds_below n f ≡ true
  unfolding holds_below
  every_all zero h = refl
  every_all (suc n) h = rw (every_all n (λ i k. h i (omega arith))) (h n (omega arith))
