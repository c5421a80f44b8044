-- The integer sum of the days: it stays within -68570 to 1e9, and no step of it wraps, though the casts of the parts' whole numbers saturate. Assumes nothing.
use mathlib.Core.Path.{◌≡◌, sym, ap, ◌∙◌}
use mathlib.Core.Bool.{Bool, true, false}
use Prim.Native.Nat.{ℕ, ◌+◌, ◌*◌, ◌≤◌, ◌<◌}
use native.Mathlib.Nat.{add-mul, le_of_eq, lt_of_le_of_lt, lt_of_lt_of_le, lt_of_mul-lt-mul_right}
use native.Mathlib.Omega.{arith}
use lib.IntN.{ℤ}
use Rattle.rounding.proofs.Signed.{plus-of, minus-of}
use Rattle.rounding.proofs.Casts.{plus_z, minus_z}
use Rattle.julian.specs.day_number.Sums.{Sums}
use Rattle.julian.proofs.day_number.NearestInt.{sat_plus, sat_minus}

-- I D ≤ K D + b, and b below (M + 1) D
fewer : (I K M D b : ℕ) → I * D ≤ K * D + b → b < (M + 1) * D → I ≤ K + M
fewer I K M D b h k = let z : I * D < (K + (M + 1)) * D =
    lt_of_lt_of_le (lt_of_le_of_lt h (more (K * D) b ((M + 1) * D) k)) (le_of_eq (sym (add-mul K (M + 1) D))) in less (lt_of_mul-lt-mul_right D z)
  where
    more : (x b y : ℕ) → b < y → x + b < x + y
    more x b y l = omega arith

    less : I < K + (M + 1) → I ≤ K + M
    less l = omega arith

gather : (a b c d D : ℕ) → (a + b + c + d) * D ≡ a * D + b * D + c * D + d * D
gather a b c d D = add-mul (a + b + c) d D ∙ ap (λ (z : ℕ). z + d * D) (add-mul (a + b) c D ∙ ap (λ (z : ℕ). z + c * D) (add-mul a b D))

pub gather3 : (a b c D : ℕ) → (a + b + c) * D ≡ a * D + b * D + c * D
gather3 a b c D = add-mul (a + b) c D ∙ ap (λ (z : ℕ). z + c * D) (add-mul a b D)

pub record Bounded (I K : ℕ) : Type 0 where
  pub high : I ≤ K + 1000000000
  pub low : K ≤ I + 68570

pub bounded : (D h e8 e p n q m i k j l up more down units : ℕ) → D ≡ 2 * h → D ≡ 8 * e8 → 0 < e8 → 8 * e ≤ D → units < D
    → units + (n + i * D + (m + j * D) + up * D) + more * D ≤ h + (p + k * D) + (q + l * D) + down * D + e
    → h + (p + k * D) + (q + l * D) + down * D ≤ units + (n + i * D + (m + j * D) + up * D) + more * D + e
    → p + q < n + m + 8000000001 * e8 → n + m < p + q + 548557 * e8 → Bounded (i + j + up + more) (k + l + down)
bounded D h e8 e p n q m i k j l up more down units two eight ep small below over under hi lo =
    let a = gather i j up more D in
    let b = gather3 k l down D in
    record {
      high = fewer (i + j + up + more) (k + l + down) 1000000000 D (8000000006 * e8)
          (rw (a, b) (one (i * D) (j * D) (up * D) (more * D) (k * D) (l * D) (down * D) over)) (omega arith);
      low = fewer (k + l + down) (i + j + up + more) 68570 D (548563 * e8)
          (rw (a, b) (two' (i * D) (j * D) (up * D) (more * D) (k * D) (l * D) (down * D) under)) (omega arith);
    }
  where
    one : (i j u w k l d : ℕ) → units + (n + i + (m + j) + u) + w ≤ h + (p + k) + (q + l) + d + e → i + j + u + w ≤ k + l + d + 8000000006 * e8
    one i j u w k l d o = omega arith

    two' : (i j u w k l d : ℕ) → h + (p + k) + (q + l) + d ≤ units + (n + i + (m + j) + u) + w + e → k + l + d ≤ i + j + u + w + 548563 * e8
    two' i j u w k l d o = omega arith

-- the casts saturate, and the sum stays: of two signs, min (A, 2 ^ 63 - 1) - min (B, 2 ^ 63) is between A - B and -1
pub sums : (a b : ℤ) (s t : Bool) (A B up more down : ℕ) → plus_z a ≡ sat_plus s A → minus_z a ≡ sat_minus s A → plus_z b ≡ sat_plus t B → minus_z b
    ≡ sat_minus t B
    → up ≤ 2 → more ≤ 1 → down ≤ 1 → Bounded (plus-of s A + plus-of t B + up + more) (minus-of s A + minus-of t B + down) → Sums a b up more down
sums a b false false A B up more down e1 e2 e3 e4 h1 h2 h3 k =
    record {
      few = h1;
      one = h2;
      least = h3;
      top = omega (arith, k.high);
      bottom = omega (arith, k.high);
      high = omega (arith, k.high);
      low =
          omega (arith, k.low, k.high);
    }
sums a b true true A B up more down e1 e2 e3 e4 h1 h2 h3 k =
    record {
      few = h1;
      one = h2;
      least = h3;
      top = omega (arith, k.low);
      bottom = omega (arith, k.low);
      high = omega (arith, k.high, k.low);
      low =
          omega (arith, k.low);
    }
sums a b false true A B up more down e1 e2 e3 e4 h1 h2 h3 k =
    record {
      few = h1;
      one = h2;
      least = h3;
      top = omega (arith, k.high);
      bottom = omega (arith, k.high);
      high = omega (arith, k.high, k.low);
      low =
          omega (arith, k.low, k.high);
    }
sums a b true false A B up more down e1 e2 e3 e4 h1 h2 h3 k =
    record {
      few = h1;
      one = h2;
      least = h3;
      top = omega (arith, k.high);
      bottom = omega (arith, k.high);
      high = omega (arith, k.high, k.low);
      low =
          omega (arith, k.low, k.high);
    }
