-- An i64 as a difference A - B of two natural numbers, for `omega`: sums, differences, the range, and what the machine reads back. Assumes nothing.
use mathlib.Core.Path.{◌≡◌}
use Prim.Native.Nat.{ℕ, ◌+◌, ◌^◌, ◌≤◌, ◌<◌}
use native.Mathlib.Omega.{arith}
use lib.IntN.{ℤ, ◌+ℤ◌, ◌-ℤ◌}
use mir.Syntax.{w64}
use mir.Val.{SFits}
use Rattle.rounding.proofs.Casts.{plus_z, minus_z, add_pair, sub_pair, pair_le, mag_pair}

-- z = A - B
pub record Int (z : ℤ) (A B : ℕ) : Type 0 where
  pub is : plus_z z + B ≡ minus_z z + A

-- an integer is its own pair
pub int_own : (z : ℤ) → Int z (plus_z z) (minus_z z)
int_own z = record { is = omega arith }

-- x + y = (A + C) - (B + D)
pub int_add : {x y : ℤ} {A B C D : ℕ} → Int x A B → Int y C D → Int (x +ℤ y) (A + C) (B + D)
int_add {x} {y} v w = record { is = omega (arith, v.is, w.is, add_pair x y) }

-- x - y = (A + D) - (B + C)
pub int_sub : {x y : ℤ} {A B C D : ℕ} → Int x A B → Int y C D → Int (x -ℤ y) (A + D) (B + C)
int_sub {x} {y} v w = record { is = omega (arith, v.is, w.is, sub_pair x y) }

-- A < 2 ^ 63 and B ≤ 2 ^ 63: A - B is in the range of i64
pub int_fits : {z : ℤ} {A B : ℕ} → Int z A B → A < 2 ^ 63 → B ≤ 2 ^ 63 → SFits w64 z
int_fits {z} {A} {B} v h k = let s = pair_le z A B v.is in record { sfits = mag_pair z (2 ^ 63) (omega (arith, s.0)) (omega (arith, s.1)) }
