-- Which fractions carry: those of 1.0 or more, as no float lies less than 2 ^ -53 below 1.0 (document 01's "less than 2 ^ -54 below 1.0, or above"). Assumes
-- nothing.
use mathlib.Core.Path.{◌≡◌, refl, sym, ◌∙◌}
use mathlib.Core.Bool.{Bool, true, false, not}
use Prim.Native.Nat.{ℕ, ◌+◌, ◌*◌, ◌≤◌, ◌<◌}
use native.Mathlib.Omega.{arith}
use lib.Dec.{T, leb, ltb, leb→le, nleb→lt, ltb→lt, lt→ltb, lit≤}
use lib.Pow.{pow_pos}
use lib.Ieee.{Float, binary64, sub, lt, fits}
use lib.Ieee.Bits.{is_true}
use Rattle.floats.specs.Whole.{one}
use Rattle.rounding.specs.Value.{Val, L}
use Rattle.rounding.proofs.Value.{L-pos, val-scale}
use Rattle.rounding.proofs.Exact.{sub_exact}
use Rattle.rounding.proofs.Compare.{lt_val, lt_show}
use Rattle.floats.proofs.Fields.{same_test}
use Rattle.julian.specs.day_number.DayNumber.{c_minus_eps_4}
use Rattle.julian.proofs.day_number.Units.{G, W, L-W, one-L, one-G, minus-eps-4}
use Rattle.julian.proofs.day_number.CarryDay.{less_one, to-grid, cancel}

-- the test of `carry_day`, of a fraction z = p - n from 0 to below 2
pub carry_test : (z : Float) (p n : ℕ) → T (fits binary64 z) → Val z p n L → n ≤ p → p < n + 2 * L → lt (sub binary64 z one) c_minus_eps_4 ≡ lt z one
carry_test z p n f v h k = go (leb (n + 13510798882111488 * W) p) (leb→le (n + 13510798882111488 * W) p) (nleb→lt (n + 13510798882111488 * W) p)
  where
    grid : (d : ℕ) × (p ≡ n + d * (2 * W)) × Val z d 0 G → lt (sub binary64 z one) c_minus_eps_4 ≡ lt z one
    grid (d, e, x) =
        let b : d < 2 * G = cancel d (2 * G) (omega (arith, L-W)) in
        let t : Val (sub binary64 z one) (d + 0) (0 + G) G = sub_exact 53 (lit≤ tt) (omega arith) (omega arith) x one-G in
        lt_val (pow_pos 54) (val-scale 2 t) minus-eps-4
        ∙ same_test (ltb ((d + 0) * 2 + 1) (0 + (0 + G) * 2)) (ltb (d + 0) (G + 0))
        (λ u. lt→ltb (d + 0) (G + 0) (down d (ltb→lt ((d + 0) * 2 + 1) (0 + (0 + G) * 2) u)))
        (λ u. lt→ltb ((d + 0) * 2 + 1) (0 + (0 + G) * 2) (up d (ltb→lt (d + 0) (G + 0) u)))
        ∙ sym (lt_val (pow_pos 53) x one-G)
      where
        down : (d : ℕ) → (d + 0) * 2 + 1 < 0 + (0 + G) * 2 → d + 0 < G + 0
        down d l = omega arith

        up : (d : ℕ) → d + 0 < G + 0 → (d + 0) * 2 + 1 < 0 + (0 + G) * 2
        up d l = omega arith

    low : p < n + 13510798882111488 * W → (b : Bool) → lt (sub binary64 z one) c_minus_eps_4 ≡ b → b ≡ true
    low l true e = refl
    low l false e = absurd (less_one z p n v h l e)

    go : (u : Bool) → (T u → n + 13510798882111488 * W ≤ p) → (T (not u) → p < n + 13510798882111488 * W) → lt (sub binary64 z one) c_minus_eps_4 ≡ lt z one
    go true a b = grid (to-grid z p n f v (omega (arith, a tt)))
    go false a b = low (b tt) (lt (sub binary64 z one) c_minus_eps_4) refl ∙ sym (is_true (lt z one) (lt_show L-pos v one-L (omega (arith, b tt, L-W))))
