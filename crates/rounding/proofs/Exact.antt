-- A result that the format can hold is exact: where the exact sum or difference is a whole number of 2 ^ -k, of at most 2 ^ 53 of them, nothing is
-- rounded. The same for a multiple of 2 ^ i such units, of at most 2 ^ 53 multiples. Assumes nothing.
use mathlib.Core.Path.{◌≡◌, sym, ap, ◌∙◌, subst}
use mathlib.Core.Logic.{◌⊎◌, inl, inr}
use Prim.Native.Nat.{ℕ, ◌+◌, ◌-◌, ◌*◌, ◌^◌, ◌≤◌, ◌<◌}
use native.Mathlib.Nat.{le_of_eq, lt_of_lt_of_le, lt_of_le_of_lt, eq-or-lt_of_le, one-mul, mul-one, mul_assoc}
use native.Mathlib.Omega.{arith}
use mathlib.Core.Bool.{Bool}
use lib.Dec.{lit≤, lit<}
use lib.Pow.{pow-add, pow_pos, pow-lt, pow_mono, shl_lt}
use lib.Ieee.{Float, binary64, round, add, sub}
use lib.Ieee.Exact.{HasValue, round_exact}
use Rattle.rounding.specs.Value.{Val, Rounds}
use Rattle.rounding.proofs.Value.{add_rounds, sub_rounds}
use Rattle.rounding.proofs.Signed.{signed_le}

shift : (i k : ℕ) → k ≤ 1074 → i + 1074 ≡ i + (1074 - k) + k
shift i k h = omega arith

power : (c i k : ℕ) → k ≤ 1074 → c * 2 ^ i * 2 ^ 1074 ≡ c * 2 ^ (i + (1074 - k)) * 2 ^ k
power c i k h =
    mul_assoc c (2 ^ i) (2 ^ 1074)
    ∙ ap (λ (x : ℕ). c * x) (sym (pow-add 2 i 1074) ∙ ap (λ (x : ℕ). 2 ^ x) (shift i k h) ∙ pow-add 2 (i + (1074 - k)) k)
    ∙ sym (mul_assoc c (2 ^ (i + (1074 - k))) (2 ^ k))

-- c * 2 ^ i units of 2 ^ -k, with c at most 2 ^ 53, are rounded to themselves
pub exact-has : (s : Bool) (c i k : ℕ) → k ≤ 1074 → i ≤ 970 → c ≤ 2 ^ 53 → HasValue (round binary64 s (c * 2 ^ i) (2 ^ k)) s (c * 2 ^ i) (2 ^ k)
exact-has s c i k h g l = go (eq-or-lt_of_le l)
  where
    up_to : 53 + (i + (1074 - k)) ≤ 2098
    up_to = omega arith

    below : 53 + i + (1074 - k) < 2098
    below = omega arith

    go : (c ≡ 2 ^ 53) ⊎ (c < 2 ^ 53) → HasValue (round binary64 s (c * 2 ^ i) (2 ^ k)) s (c * 2 ^ i) (2 ^ k)
    go (inr u) = round_exact binary64 s (c * 2 ^ i) (2 ^ k) c (i + (1074 - k)) (pow_pos k) u (lt_of_lt_of_le (shl_lt 53 (i + (1074 - k)) u) (pow_mono up_to))
        (power c i k h)
    go (inl e) =
        round_exact binary64 s (c * 2 ^ i) (2 ^ k) 1 (53 + i + (1074 - k)) (pow_pos k) (lit< tt)
        (lt_of_le_of_lt (le_of_eq (one-mul (2 ^ (53 + i + (1074 - k))))) (pow-lt below))
        (ap (λ (x : ℕ). x * 2 ^ 1074) (ap (λ (x : ℕ). x * 2 ^ i) e ∙ sym (pow-add 2 53 i) ∙ sym (one-mul (2 ^ (53 + i)))) ∙ power 1 (53 + i) k h)

-- |p - n| ≤ 2 ^ 53: (p - n) / 2 ^ k is rounded to itself
pub rounds-exact : (k : ℕ) {z : Float} {p n : ℕ} → k ≤ 1074 → p ≤ n + 2 ^ 53 → n ≤ p + 2 ^ 53 → Rounds binary64 z p n (2 ^ k) → Val z p n (2 ^ k)
rounds-exact k {z} {p} {n} h u l r =
    record {
      sign = r.sign;
      size = r.size;
      has =
          subst (λ (x : Float). HasValue x r.sign r.size (2 ^ k)) (sym r.eq)
          (subst (λ (x : ℕ). HasValue (round binary64 r.sign x (2 ^ k)) r.sign x (2 ^ k)) (mul-one r.size)
          (exact-has r.sign r.size 0 k h (lit≤ tt) (signed_le r.sign r.size p n (2 ^ 53) r.is u l)));
      is = r.is;
    }

-- ---- a multiple of 2 ^ i units: |p - n| ≤ 2 ^ 53 counts the multiples
-- (p - n) / 2 ^ k + (q - m) / 2 ^ k
pub add_exact : (k : ℕ) {x y : Float} {p n q m : ℕ} → k ≤ 1074 → p + q ≤ n + m + 2 ^ 53 → n + m ≤ p + q + 2 ^ 53 → Val x p n (2 ^ k) → Val y q m (2 ^ k)
    → Val (add binary64 x y) (p + q) (n + m) (2 ^ k)
add_exact k h u l v w = rounds-exact k h u l (add_rounds binary64 (pow_pos k) v w)

-- (p - n) / 2 ^ k - (q - m) / 2 ^ k
pub sub_exact : (k : ℕ) {x y : Float} {p n q m : ℕ} → k ≤ 1074 → p + m ≤ n + q + 2 ^ 53 → n + q ≤ p + m + 2 ^ 53 → Val x p n (2 ^ k) → Val y q m (2 ^ k)
    → Val (sub binary64 x y) (p + m) (n + q) (2 ^ k)
sub_exact k h u l v w = rounds-exact k h u l (sub_rounds binary64 (pow_pos k) v w)
