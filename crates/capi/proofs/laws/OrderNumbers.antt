-- THE NUMBER of `ct_compare` says how the exact sums of the two dates stand. Assumes nothing.
use mathlib.Core.Path.{◌≡◌, refl, sym, ap, ◌∙◌, subst}
use mathlib.Core.Bool.{Bool, true, false, cond}
use Prim.Native.Nat.{ℕ, ◌+◌}
use native.Mathlib.Omega.{arith}
use lib.Dec.{T, ltb}
use lib.Ieee.{binary64, fits}
use borrow.Author.Tests.{ltb-true, ltb-false}
use Rattle.refusals.specs.Outcome.{Outcome, answer, refusal, onward}
use Rattle.rounding.specs.Value.{L}
use Rattle.julian.specs.declared.JulianDate.{JulianDate}
use Rattle.julian.specs.Worth.{Worth}
use Rattle.julian.specs.order.Order.{Order, comes_before, same_sum, comes_after, comparison, order_of}
use Rattle.julian.proofs.order.Exactly.{exactly-ordered}
use Rattle.capi.specs.OrderNumber.{order_number, numbered}
use Rattle.capi.specs.laws.ExactSums.{ByExactSums, smaller, level, greater}

-- of two numbers
number_of : (P N Q M : ℕ) → ByExactSums P N Q M (order_number (order_of (P + M) (Q + N)))
unfolding order_of order_number
number_of P N Q M = go (ltb (P + M) (Q + N)) (ltb (Q + N) (P + M)) refl refl
  where
    go : (x y : Bool) → ltb (P + M) (Q + N) ≡ x → ltb (Q + N) (P + M) ≡ y → ByExactSums P N Q M
        (order_number (cond x comes_before (cond y comes_after same_sum)))
    go true y e f = smaller (ltb-true (P + M) (Q + N) e)
    go false true e f = greater (ltb-true (Q + N) (P + M) f)
    go false false e f = level (omega (arith, ltb-false (P + M) (Q + N) e, ltb-false (Q + N) (P + M) f))

module _ (d e : JulianDate) (f1 : T (fits binary64 d.jd1)) (f2 : T (fits binary64 d.jd2)) (g1 : T (fits binary64 e.jd1))
    (g2 : T (fits binary64 e.jd2)) where
  pub order-number : (n : ℕ) → numbered (comparison d e) ≡ answer n → (P N Q M : ℕ) → Worth d P N L → Worth e Q M L → ByExactSums P N Q M n
  unfolding numbered onward
  order-number n is P N Q M v w = go (comparison d e) refl is
    where
      go : (o : Outcome Order) → comparison d e ≡ o → onward o (λ (x : Order). answer (order_number x)) ≡ answer n → ByExactSums P N Q M n
      go (answer x) k h =
          let s : x ≡ order_of (P + M) (Q + N) = exactly-ordered d e f1 f2 g1 g2 x k P N Q M v w in
          let t : order_number x ≡ n = cc in
          subst (λ (y : ℕ). ByExactSums P N Q M y) (ap order_number (sym s) ∙ t) (number_of P N Q M)
      go (refusal k) q h = let z : ◌≡◌ {A = ℕ} 0 1 = cc in absurd (omega arith)
