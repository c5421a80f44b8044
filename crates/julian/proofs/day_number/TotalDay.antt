-- The integer sum of the days fits 64 bits, and so do its first two numbers. Assumes nothing.
use mathlib.Core.Path.{◌≡◌}
use Prim.Native.Nat.{ℕ, ◌+◌, ◌-◌, ◌^◌, ◌≤◌}
use native.Mathlib.Omega.{arith}
use lib.IntN.{ℤ, pos, ◌+ℤ◌, ◌-ℤ◌}
use mir.Syntax.{w64}
use mir.Val.{SFits, to_z, of_z}
use mir.ValLaws.{to_z-of_z}
use Rattle.rounding.proofs.Casts.{plus_z, minus_z, mag_pair, pair_le}
use Rattle.rounding.proofs.Ints.{Int, int_own, int_add, int_sub, int_fits}
use Rattle.julian.specs.day_number.Sums.{Sums}

-- an integer between -M and K
pub sides : {z : ℤ} {A B : ℕ} (K M : ℕ) → Int z A B → A ≤ B + K → B ≤ A + M → (plus_z z ≤ K) × (minus_z z ≤ M)
sides {z} {A} {B} K M v h k = omega (arith, pair_le z (A - B) (B - A) (omega (arith, v.is)))

-- an integer as 64 bits and back
abbrev pub R : ℤ → ℤ
R z = to_z w64 (of_z w64 z)

within : {z : ℤ} {A B : ℕ} → Int z A B → A ≤ B + 2000000000 → B ≤ A + 2000000000 → SFits w64 z
within {z} v h k = let s = sides 2000000000 2000000000 v h k in record { sfits = mag_pair z (2 ^ 63) (omega (arith, s.0)) (omega (arith, s.1)) }

module _ (a b : ℤ) (u m d : ℕ) (h : Sums a b u m d) where
  pub read_a : R a ≡ a
  read_a = to_z-of_z w64 a (int_fits (int_own a) (omega (arith, h.top)) (omega (arith, h.bottom)))

  pub read-b : R b ≡ b
  read-b = to_z-of_z w64 b (int_fits (int_own b) (omega (arith, h.top)) (omega (arith, h.bottom)))

  pub s4 : SFits w64 (a +ℤ b +ℤ pos u +ℤ (pos m -ℤ pos d))
  s4 = within (int_add (int_add (int_add (int_own a) (int_own b)) (int_own (pos u))) (int_sub (int_own (pos m)) (int_own (pos d)))) (omega (arith, h.high))
      (omega (arith, h.low))
