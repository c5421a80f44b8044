-- The two fractions on the grid of 2 ^ -52: every operation is exact, and nothing is carried at the end. Assumes nothing.
use mathlib.Core.Path.{◌≡◌, refl, sym, ap, ◌∙◌, subst}
use mathlib.Core.Bool.{Bool, true, false, cond}
use Prim.Native.Nat.{ℕ, ◌+◌, ◌-◌, ◌*◌, ◌^◌, ◌≤◌, ◌<◌}
use native.Mathlib.Omega.{arith}
use lib.Dec.{lit≤}
use lib.Pow.{pow_pos}
use lib.Ieee.{Float, binary64, sub, lt}
use Rattle.floats.specs.Whole.{one}
use Rattle.rounding.specs.Value.{Val}
use Rattle.rounding.proofs.Value.{val-move, val-scale}
use Rattle.rounding.proofs.Exact.{add_exact, sub_exact}
use Rattle.rounding.proofs.Compare.{lt_false}
use Rattle.rounding.proofs.Chain.{Adds, exactly}
use Rattle.julian.specs.declared.day_number.Kahan.{Kahan}
use Rattle.julian.specs.declared.day_number.Carried.{Carried}
use Rattle.julian.specs.declared.day_number.Normalized.{Normalized}
use Rattle.julian.specs.day_number.DayNumber.{c_minus_eps_4, kahan_of, sum_fractions, beside_borrowed, carry_day, joined_fractions}
use Rattle.julian.proofs.day_number.Units.{S, one-S, half-S, nought-S, minus-eps-4}
use Rattle.julian.proofs.day_number.SumFractions.{Both, both}
use Rattle.julian.proofs.day_number.NormalizeFraction.{Normal, normal}
use Rattle.julian.proofs.day_number.Split.{Split, both_fits}

adds_S : Adds S 0
adds_S x y p n q m u l v w = exactly (add_exact 52 (lit≤ tt) (omega arith) (omega arith) v w)

-- a fraction on the grid that is below 1 is not carried
stays : (κ : Kahan) (z : Float) (p n : ℕ) → Val z p n S → p < n + S → n ≤ p → carry_day κ z ≡ record { carry = 0; fraction = z }
unfolding carry_day
stays κ z p n v h k = go (lt (sub binary64 z one) c_minus_eps_4) refl _
  where
    t : Val (sub binary64 z one) (p + 0) (n + S) S
    t = sub_exact 52 (lit≤ tt) (omega arith) (omega arith) v one-S

    go : (u : Bool) → lt (sub binary64 z one) c_minus_eps_4 ≡ u → (r : Carried)
        → cond u (record { carry = 0; fraction = z }) r ≡ record { carry = 0; fraction = z }
    go true e r = refl
    go false e r = let y : 0 + (n + S) * 4 ≤ (p + 0) * 4 + 1 = lt_false (pow_pos 54) (val-scale 4 t) minus-eps-4 e in let w : ⊥ = omega arith in absurd w

module _ (f g : Float) (P N Q M : ℕ) (vf : Val f P N S) (vg : Val g Q M S) (f1 : N ≤ P + S) (f2 : P ≤ N + S) (g1 : M ≤ Q + S) (g2 : Q ≤ M + S)
    (fg : 2 * (N + M) ≤ 2 * (P + Q) + 3 * S) where
  pub split-grid : Split S 0 (sum_fractions f g) (joined_fractions f g) (2 ^ 51 + P + Q) (N + M)
  unfolding joined_fractions
  split-grid =
      let b = both S (2 ^ 51) 0 adds_S (pow_pos 52) refl one-S half-S nought-S (lit≤ tt) f g P N Q M vf vg f1 (omega arith) (omega arith) (omega arith)
      (omega arith) in
      let k = sum_fractions f g in
      go b (normal S 0 adds_S (pow_pos 52) one-S nought-S (lit≤ tt) k.kahan (2 ^ 51 + P + Q) (N + M + b.up * S) (both_fits f g) b.sum b.high
      b.low b.correction)
    where
      go : (b : Both S 0 (sum_fractions f g) (2 ^ 51 + P + Q) (N + M)) → (n : Normal S 0 (sum_fractions f g).kahan (2 ^ 51 + P + Q) (N + M + b.up * S))
          → Split S 0 (sum_fractions f g) (joined_fractions f g) (2 ^ 51 + P + Q) (N + M)
      go b n = fin n.ready.p n.ready.n n.ready.over n.ready.under n.ready.low n.ready.high n.ready.val
        where
          fin : (x y : ℕ) → x + (N + M + b.up * S) ≤ y + (2 ^ 51 + P + Q + n.borrow * S) + 40 * 0
              → y + (2 ^ 51 + P + Q + n.borrow * S) ≤ x + (N + M + b.up * S) + 40 * 0 → y ≤ x → x < y + S + 64 * 0 → Val n.fraction x y S
              → Split S 0 (sum_fractions f g) (joined_fractions f g) (2 ^ 51 + P + Q) (N + M)
          fin x y o u l t v =
              let e : joined_fractions f g ≡ record { carry = 0; borrow = n.borrow; fraction = n.fraction } = n.is
              ∙ ap (beside_borrowed n.borrow) (stays (kahan_of n.sum n.fraction) n.fraction x y v (omega arith) l) in
              subst (λ (r : Normalized). Split S 0 (sum_fractions f g) r (2 ^ 51 + P + Q) (N + M)) (sym e) (record {
                up = b.up;
                few = b.few;
                carry = b.carry;
                more = 0;
                one = omega arith;
                again = refl;
                down = n.borrow;
                least = n.few;
                borrow = refl;
                units = x - y;
                val = val-move v (omega arith);
                below = omega arith;
                over = omega arith;
                under = omega arith;
              })
