-- A number of units that the format holds is rounded to itself, and so is the difference of two that are within a factor of two of each other (Sterbenz).
-- Assumes nothing.
use mathlib.Core.Path.{◌≡◌, sym, ap, ◌∙◌, subst}
use Prim.Native.Nat.{ℕ, ◌-◌, ◌*◌, ◌^◌, ◌≤◌, ◌<◌, ◌+◌}
use native.Mathlib.Nat.{le_trans, le_of_eq, lt_of_le_of_lt, le_of_mul-le-mul_right}
use native.Mathlib.Omega.{arith}
use mathlib.Core.Bool.{Bool, true, false, not}
use mathlib.Core.Logic.{◌⊎◌, inl, inr}
use lib.Dec.{T, leb, leb→le, nleb→lt}
use lib.Pow.{pow_pos}
use lib.Ieee.{Float, binary64, round}
use lib.Ieee.Exact.{HasValue, round_exact}
use Rattle.rounding.specs.Value.{Val, Rounds, L, Signed}
use Rattle.rounding.proofs.Value.{L-pos, L-is}
use Rattle.rounding.proofs.Fractions.{sub_mul}
use Rattle.rounding.proofs.Own.{Rep, lift}

rep_has : (s : Bool) (a : ℕ) → Rep a → a < 2 ^ 2098 → HasValue (round binary64 s a L) s a L
rep_has s a r h =
    round_exact binary64 s a L r.q r.j L-pos r.small (lt_of_le_of_lt (le_of_eq (sym r.is)) h)
    (ap (λ (x : ℕ). x * 2 ^ 1074) r.is ∙ ap (λ (x : ℕ). r.q * 2 ^ r.j * x) (sym L-is))

-- |P - N| units are what the format holds, so that (P - N) / L is rounded to itself
pub rounds-rep : {z : Float} {P N : ℕ} (r : Rounds binary64 z P N L) → Rep r.size → r.size < 2 ^ 2098 → Val z P N L
rounds-rep {z} r k h = record {
  sign = r.sign;
  size = r.size;
  has =
      subst (λ (x : Float). HasValue x r.sign r.size L) (sym r.eq) (rep_has r.sign r.size k h);
  is = r.is;
}

-- ---- the difference of two values that are close
-- x - y units, for x at most twice y
pub rep_diff : (x y : ℕ) → Rep x → Rep y → x ≤ 2 * y → Rep (x - y)
rep_diff x y r s h = go (leb r.j s.j) (leb→le r.j s.j) (nleb→lt r.j s.j)
  where
    go : (b : Bool) → (T b → r.j ≤ s.j) → (T (not b) → s.j < r.j) → Rep (x - y)
    go true f g =
        let Y = s.q * 2 ^ (s.j - r.j) in
        let e : y ≡ Y * 2 ^ r.j = s.is ∙ lift s.q r.j s.j (f tt) in
        record {
          q = r.q - Y;
          j = r.j;
          is = ap (λ (z : ℕ). z - y) r.is ∙ ap (λ (z : ℕ). r.q * 2 ^ r.j - z) e ∙ sym (sub_mul r.q Y (2 ^ r.j));
          small = less r.q Y r.small;
        }
      where
        less : (q Y : ℕ) → q < 2 ^ 53 → q - Y < 2 ^ 53
        less q Y l = omega arith
    go false f g =
        let X = r.q * 2 ^ (r.j - s.j) in
        let e : x ≡ X * 2 ^ s.j = r.is ∙ lift r.q s.j r.j (weak s.j r.j (g tt)) in
        let d : x - y ≡ (X - s.q) * 2 ^ s.j = ap (λ (z : ℕ). z - y) e ∙ ap (λ (z : ℕ). X * 2 ^ s.j - z) s.is ∙ sym (sub_mul X s.q (2 ^ s.j)) in
        let l : X - s.q ≤ s.q = le_of_mul-le-mul_right {k = 2 ^ s.j} (le_trans (le_of_eq (sym d)) (le_trans (half x y h) (le_of_eq s.is)))
        (pow_pos s.j) in
        record { q = X - s.q; j = s.j; is = d; small = lt_of_le_of_lt l s.small }
      where
        weak : (i j : ℕ) → i < j → i ≤ j
        weak i j l = omega arith

        half : (x y : ℕ) → x ≤ 2 * y → x - y ≤ y
        half x y l = omega arith

pub signed-diff : (s : Bool) (c a b : ℕ) → Signed s c (a + 0) (0 + b) → Rep (a - b) → Rep (b - a) → Rep c × ((c ≤ a) ⊎ (c ≤ b))
signed-diff false c a b h r q = (subst Rep (up c a b h) r, inl (omega arith))
  where
    up : (c a b : ℕ) → c + (0 + b) ≡ a + 0 → a - b ≡ c
    up c a b e = omega arith
signed-diff true c a b h r q = (subst Rep (up c a b h) q, inr (omega arith))
  where
    up : (c a b : ℕ) → c + (a + 0) ≡ 0 + b → b - a ≡ c
    up c a b e = omega arith
