-- No f64 is nearer to a whole number of units than the one that it is rounded to (`step-optimal`). Over natural numbers, the unit being 2 ^ -1074; for two-sum.
-- Assumes nothing.
use mathlib.Core.Path.{◌≡◌, sym, ap, ◌∙◌, subst}
use mathlib.Core.Logic.{inl, inr}
use Prim.Native.Nat.{ℕ, ◌+◌, ◌-◌, ◌*◌, ◌/◌, ◌^◌, ◌≤◌, ◌<◌}
use native.Mathlib.Nat.{le_trans, le_of_eq, le_of_lt, lt_of_lt_of_le, lt_of_le_of_lt, not-le_of_lt, eq-zero-or-pos, eq-or-lt_of_le, one-mul, div-one}
use native.Mathlib.Nat.{mul-le-mul_right, add-mul, lt_of_mul-lt-mul_right}
use native.Mathlib.Omega.{arith}
use mathlib.Core.Bool.{Bool, true, false, not}
use lib.Dec.{T, leb, leb→le, nleb→lt, lit<}
use lib.Pow.{pow-add, pow_pos, pow_mono, shl_lt}
use lib.Ieee.{size}
use lib.Ieee.Digits.{size_reaches}
use lib.Ieee.Nearest.{closest}
use lib.Ieee.Order.{drop, kept}
use Rattle.rounding.proofs.Grid.{Half, closest_near, step-mono, step-exact}
use Rattle.rounding.proofs.Own.{Rep, lift}

-- the number of binary digits that rounding drops from a whole number of units, and that number, rounded
abbrev pub digits_dropped : ℕ → ℕ
digits_dropped a = drop 53 a 1

abbrev pub step : ℕ → ℕ
step a = kept 53 a 1 * 2 ^ digits_dropped a

-- off by at most a half of the last digit kept
pub step-near : (a : ℕ) → Half (step a) a (2 ^ digits_dropped a)
step-near a = subst (λ (u : ℕ). Half (closest a (1 * 2 ^ digits_dropped a) * u) a u) (one-mul (2 ^ digits_dropped a))
    (closest_near a (1 * 2 ^ digits_dropped a) (subst (λ (u : ℕ). 0 < u) (sym (one-mul (2 ^ digits_dropped a))) (pow_pos (digits_dropped a))))

-- what the format holds is rounded to itself
pub step-fix : (y : ℕ) → Rep y → step y ≡ y
step-fix y r = ap step r.is ∙ step-exact 53 r.q r.j r.small ∙ sym r.is

-- the order is kept
pub step-le : (a b : ℕ) → a ≤ b → step a ≤ step b
step-le a b h = step-mono 53 a 1 b 1 (lit< tt) (lit< tt) (lit< tt) (mul-le-mul_right 1 h)

-- from 2 ^ (52 + k) units on, every f64 is a multiple of 2 ^ k units
pub multiple : (k y : ℕ) → Rep y → 2 ^ (52 + k) ≤ y → (d : ℕ) × (y ≡ d * 2 ^ k)
multiple k y r h = go (leb k r.j) (leb→le k r.j) (nleb→lt k r.j)
  where
    low : r.j < k → y < 2 ^ (52 + k)
    low l = lt_of_le_of_lt (le_of_eq r.is) (lt_of_lt_of_le (shl_lt 53 r.j r.small) (pow_mono (omega arith)))

    go : (b : Bool) → (T b → k ≤ r.j) → (T (not b) → r.j < k) → (d : ℕ) × (y ≡ d * 2 ^ k)
    go true f g = (r.q * 2 ^ (r.j - k), r.is ∙ lift r.q k r.j (f tt))
    go false f g = absurd (not-le_of_lt (low (g tt)) h)

gap : (K d u : ℕ) → K * u < d * u → K * u + u ≤ d * u
gap K d u h = le_trans (le_of_eq (ap (λ (x : ℕ). K * u + x) (sym (one-mul u)) ∙ sym (add-mul K 1 u)))
    (mul-le-mul_right u (more K d (lt_of_mul-lt-mul_right u h)))
  where
    more : (x y : ℕ) → x < y → x + 1 ≤ y
    more x y l = omega arith

-- with digits dropped, a is 2 ^ (52 + k) at least
pub reaches : (a : ℕ) → 0 < digits_dropped a → 2 ^ (52 + digits_dropped a) ≤ a
reaches a h = le_trans (size_reaches (a / 1) (52 + digits_dropped a) (all (size (a / 1)) h)) (le_of_eq (div-one a))
  where
    all : (z : ℕ) → 0 < z - 53 → 52 + (z - 53) < z
    all z l = omega arith

-- with no digit dropped, nothing is rounded
pub step_same : (a : ℕ) → digits_dropped a ≡ 0 → step a ≡ a
step_same a e = go (step a) (subst (λ (k : ℕ). Half (step a) a (2 ^ k)) e (step-near a))
  where
    go : (g : ℕ) → Half g a 1 → g ≡ a
    go g h = omega arith

-- ---- a value at or above a, with the rounded one at or below it, and the other way round
opt_over : (a y : ℕ) → Rep y → a ≤ y → step a ≤ a → 2 * a ≤ step a + y
opt_over a y r h l = elim (eq-zero-or-pos (digits_dropped a)) [ inl e ↦ none (step a) (step_same a e) | inr k ↦ some k ]
  where
    none : (g : ℕ) → g ≡ a → 2 * a ≤ g + y
    none g e = omega arith

    some : 0 < digits_dropped a → 2 * a ≤ step a + y
    some k =
        let m = multiple (digits_dropped a) y r (le_trans (reaches a k) h) in
        elim (eq-or-lt_of_le (le_trans l h)) [
          | inl e ↦ same (step a) e l h
          | inr g ↦ apart (step a) (2 ^ digits_dropped a) (step-near a).1
              (le_trans (gap (kept 53 a 1) m.0 (2 ^ digits_dropped a) (lt_of_lt_of_le g (le_of_eq m.1))) (le_of_eq (sym m.1)))
        ]
      where
        same : (g : ℕ) → g ≡ y → g ≤ a → a ≤ y → 2 * a ≤ g + y
        same g e x z = omega arith

        apart : (g u : ℕ) → 2 * a ≤ 2 * g + u → g + u ≤ y → 2 * a ≤ g + y
        apart g u x z = omega arith

opt_under : (a y : ℕ) → Rep y → y ≤ a → a ≤ step a → step a + y ≤ 2 * a
opt_under a y r h l = elim (eq-zero-or-pos (digits_dropped a)) [
  | inl e ↦ none (step a) (step_same a e)
  | inr k ↦ some k (leb (2 ^ (52 + digits_dropped a)) y) (leb→le (2 ^ (52 + digits_dropped a)) y)
      (nleb→lt (2 ^ (52 + digits_dropped a)) y)
]
  where
    none : (g : ℕ) → g ≡ a → g + y ≤ 2 * a
    none g e = omega arith

    below : (z d : ℕ) → z ≡ d * 2 ^ digits_dropped a → z ≤ a → step a + z ≤ 2 * a
    below z d e b = elim (eq-or-lt_of_le (le_trans b l)) [
      | inl q ↦ same (step a) q
      | inr q ↦ apart (step a) (2 ^ digits_dropped a) (step-near a).0
          (le_trans (le_of_eq (ap (λ (x : ℕ). x + 2 ^ digits_dropped a) e)) (gap d (kept 53 a 1) (2 ^ digits_dropped a) (lt_of_le_of_lt (le_of_eq (sym e)) q)))
    ]
      where
        same : (g : ℕ) → z ≡ g → g + z ≤ 2 * a
        same g q = omega arith

        apart : (g u : ℕ) → 2 * g ≤ 2 * a + u → z + u ≤ g → g + z ≤ 2 * a
        apart g u x w = omega arith

    some : 0 < digits_dropped a → (b : Bool) → (T b → 2 ^ (52 + digits_dropped a) ≤ y) → (T (not b) → y < 2 ^ (52 + digits_dropped a)) → step a + y ≤ 2 * a
    some k true f g = let m = multiple (digits_dropped a) y r (f tt) in below y m.0 m.1 h
    some k false f g = far (step a) (2 ^ (52 + digits_dropped a)) (below (2 ^ (52 + digits_dropped a)) (2 ^ 52) (pow-add 2 52 (digits_dropped a)) (reaches a k))
        (g tt)
      where
        far : (s z : ℕ) → s + z ≤ 2 * a → y < z → s + y ≤ 2 * a
        far s z x w = omega arith

-- |step a - a| ≤ |y - a|, for any y that the format holds
pub step-optimal : (a y : ℕ) → Rep y → (step a - a) + (a - step a) ≤ (y - a) + (a - y)
step-optimal a y r = go (leb a y) (leb→le a y) (nleb→lt a y) (leb a (step a)) (leb→le a (step a)) (nleb→lt a (step a))
  where
    go : (b : Bool) → (T b → a ≤ y) → (T (not b) → y < a) → (c : Bool) → (T c → a ≤ step a) → (T (not c) → step a < a)
        → (step a - a) + (a - step a) ≤ (y - a) + (a - y)
    go true f g true f' g' = fin (step a) (f tt) (f' tt) (le_trans (step-le a y (f tt)) (le_of_eq (step-fix y r)))
      where
        fin : (s : ℕ) → a ≤ y → a ≤ s → s ≤ y → (s - a) + (a - s) ≤ (y - a) + (a - y)
        fin s x z w = omega arith
    go true f g false f' g' = fin (step a) (f tt) (g' tt) (opt_over a y r (f tt) (le_of_lt (g' tt)))
      where
        fin : (s : ℕ) → a ≤ y → s < a → 2 * a ≤ s + y → (s - a) + (a - s) ≤ (y - a) + (a - y)
        fin s x z w = omega arith
    go false f g true f' g' = fin (step a) (g tt) (f' tt) (opt_under a y r (le_of_lt (g tt)) (f' tt))
      where
        fin : (s : ℕ) → y < a → a ≤ s → s + y ≤ 2 * a → (s - a) + (a - s) ≤ (y - a) + (a - y)
        fin s x z w = omega arith
    go false f g false f' g' = fin (step a) (g tt) (g' tt) (le_trans (le_of_eq (sym (step-fix y r))) (step-le y a (le_of_lt (g tt))))
      where
        fin : (s : ℕ) → y < a → s < a → y ≤ s → (s - a) + (a - s) ≤ (y - a) + (a - y)
        fin s x z w = omega arith
