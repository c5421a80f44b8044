-- A whole number of units, rounded, is `step` units, and differs from it by at most 2 ^ -53 of its size. Assumes nothing.
use mathlib.Core.Path.{◌≡◌, sym, ap, ◌∙◌, subst}
use mathlib.Core.Logic.{inl, inr}
use Prim.Native.Nat.{ℕ, ◌+◌, ◌-◌, ◌*◌, ◌^◌, ◌≤◌, ◌<◌}
use native.Mathlib.Nat.{le_trans, le_of_eq, lt_of_le_of_lt, eq-zero-or-pos, mul-one, mul_assoc, mul-pos}
use native.Mathlib.Omega.{arith}
use mathlib.Core.Bool.{Bool}
use lib.Dec.{lit<}
use lib.Pow.{pow-add, pow_pos}
use lib.Ieee.{binary64, round, size}
use lib.Ieee.Exact.{HasValue}
use lib.Ieee.Nearest.{closest, closest_same, div_same}
use lib.Ieee.Order.{drop}
use lib.Ieee.Scale.{grid}
use Rattle.rounding.specs.Value.{L}
use Rattle.rounding.proofs.Value.{L-is, L-pos}
use Rattle.rounding.proofs.Grid.{Half}
use Rattle.rounding.proofs.Near.{round_has}
use Rattle.rounding.proofs.Optimal.{digits_dropped, step, step-near, step_same, reaches}

cross : (a : ℕ) → a * 2 ^ 1074 * 1 ≡ a * L
cross a = mul-one (a * 2 ^ 1074) ∙ ap (λ (x : ℕ). a * x) (sym L-is)

drop_same : (a : ℕ) → drop 53 (a * 2 ^ 1074) L ≡ digits_dropped a
drop_same a = ap (λ (z : ℕ). size z - 53) (div_same (a * 2 ^ 1074) L a 1 L-pos (lit< tt) (cross a))

-- a whole number of units, rounded: `grid` over the denominator L is `step`
pub grid_step : (a : ℕ) → grid binary64 a L ≡ step a
grid_step a =
    ap (λ (k : ℕ). closest (a * 2 ^ 1074) (L * 2 ^ k) * 2 ^ k) (drop_same a)
    ∙ ap (λ (x : ℕ). x * 2 ^ digits_dropped a)
    (closest_same (a * 2 ^ 1074) (L * 2 ^ digits_dropped a) a (1 * 2 ^ digits_dropped a) (mul-pos L-pos (pow_pos (digits_dropped a)))
    (mul-pos (lit< tt) (pow_pos (digits_dropped a)))
    (sym (mul_assoc (a * 2 ^ 1074) 1 (2 ^ digits_dropped a)) ∙ ap (λ (x : ℕ). x * 2 ^ digits_dropped a) (cross a) ∙ mul_assoc a L (2 ^ digits_dropped a)))

-- a whole number of units, rounded, is `step` units
pub step-has : (s : Bool) (a : ℕ) → step a < 2 ^ 2098 → HasValue (round binary64 s a L) s (step a) L
step-has s a h = subst (λ (x : ℕ). HasValue (round binary64 s a L) s x L) (grid_step a)
    (subst (λ (x : ℕ). HasValue (round binary64 s a L) s (grid binary64 a L) x) (sym L-is)
    (round_has binary64 s a L (lt_of_le_of_lt (le_of_eq (grid_step a)) h)))

-- |step a - a| ≤ 2 ^ -53 * a
pub step-relative : (a : ℕ) → (2 ^ 53 * step a ≤ 2 ^ 53 * a + a) × (2 ^ 53 * a ≤ 2 ^ 53 * step a + a)
step-relative a = elim (eq-zero-or-pos (digits_dropped a)) [
  | inl e ↦ none (step a) (step_same a e)
  | inr k ↦ some (step a) (2 ^ digits_dropped a) (step-near a)
      (le_trans (le_of_eq (sym (pow-add 2 52 (digits_dropped a)))) (reaches a k))
]
  where
    none : (g : ℕ) → g ≡ a → (2 ^ 53 * g ≤ 2 ^ 53 * a + a) × (2 ^ 53 * a ≤ 2 ^ 53 * g + a)
    none g e = omega arith

    some : (g u : ℕ) → Half g a u → 2 ^ 52 * u ≤ a → (2 ^ 53 * g ≤ 2 ^ 53 * a + a) × (2 ^ 53 * a ≤ 2 ^ 53 * g + a)
    some g u h k = omega arith
