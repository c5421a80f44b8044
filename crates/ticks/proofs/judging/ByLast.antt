-- Passes judged by their numbers: of numbers that rise the last is the largest, so that all are below 2^40 where it is. Assumes nothing.
use Prim.Native.Nat.{ℕ, zero, suc, ◌+◌, ◌-◌, ◌<◌, ◌≤◌}
use native.Mathlib.Omega.{arith}
use native.Mathlib.Nat.{le_refl}
use mathlib.Core.Path.{◌≡◌, refl, subst}
use mathlib.Core.Bool.{Bool, true, false, cond, ◌&&◌}
use borrow.Author.Tests.{ltb-true}
use Rattle.ticks.specs.judging.Numbers.{all_small, all_rising, RisesTo}
use Rattle.ticks.specs.judging.Refusing.{judged_by}
use Rattle.std.proofs.lemmas.Bool.{and_parts, and_right}
use Rattle.ticks.proofs.judging.Every.{every_at}
use Rattle.ticks.proofs.judging.Checks.{step, small_all, small-not}

climb : (f : ℕ → ℕ) (k : ℕ) → RisesTo f k → (i n : ℕ) → i + n ≤ k → f i ≤ f (i + n)
climb f k r i zero h =
    let e : i ≡ i + 0 = omega arith in
    subst (λ (x : ℕ). f i ≤ f x) e (le_refl (f i))
climb f k r i (suc n) h =
    let e : i + n + 1 ≡ i + suc n = omega arith in
    subst (λ (x : ℕ). f i ≤ f x) e (omega (arith, climb f k r i n (omega arith), r (i + n) (omega arith)))

pub rises-to : (f : ℕ → ℕ) (k : ℕ) → RisesTo f k → (i j : ℕ) → i ≤ j → j ≤ k → f i ≤ f j
rises-to f k r i j h l =
    let e : i + (j - i) ≡ j = omega arith in
    subst (λ (x : ℕ). f i ≤ f x) e (climb f k r i (j - i) (omega arith))

pub rises-of : (n : ℕ) (f : ℕ → ℕ) → all_rising n f ≡ true → RisesTo f (n - 1)
unfolding all_rising
rises-of n f e i h = ltb-true (f i) (f (i + 1)) (every_at (step f) (n - 1) e i h)

small-by-last : (n : ℕ) (f : ℕ → ℕ) → all_rising n f ≡ true → f (n - 1) < 0x100_0000_0000 → all_small n f ≡ true
small-by-last n f e h = small_all n f (λ i k. omega (arith, rises-to f (n - 1) (rises-of n f e) i (n - 1) (omega arith) (omega arith)))

module _ (n : ℕ) (tick milli : ℕ → ℕ) where
  pub by_tests : (a b : Bool) → all_small n tick && all_small n milli ≡ a → all_rising n tick && all_rising n milli ≡ b
      → cond a (cond b 0 24) 23 ≡ judged_by n tick milli
  unfolding judged_by
  by_tests a b p q = rw (p, q)

  module _ (some : 1 ≤ n) where
    pub last-tick-large : 0x100_0000_0000 ≤ tick (n - 1) → 23 ≡ judged_by n tick milli
    unfolding judged_by
    last-tick-large h = rw (small-not n tick (n - 1) (omega arith) h)

    pub last-milli-large : 0x100_0000_0000 ≤ milli (n - 1) → 23 ≡ judged_by n tick milli
    last-milli-large h = by_tests false (all_rising n tick && all_rising n milli)
        (and_right (all_small n tick) (all_small n milli) (small-not n milli (n - 1) (omega arith) h)) refl

    pub nothing-wrong : all_rising n tick && all_rising n milli ≡ true → tick (n - 1) < 0x100_0000_0000 → milli (n - 1) < 0x100_0000_0000
        → 0 ≡ judged_by n tick milli
    nothing-wrong e h k =
        let r = and_parts (all_rising n tick) (all_rising n milli) e in
        by_tests true true (rw (small-by-last n tick r.0 h) (small-by-last n milli r.1 k)) e
