-- An integer below 2^53 in size as an `f64`: the cast loses nothing, and the float is worth the integer. Assumes nothing.
use Prim.Native.Nat.{ℕ, suc, ◌^◌, ◌≤◌, ◌<◌}
use native.Mathlib.Omega.{arith}
use mathlib.Core.Bool.{true, false}
use lib.Dec.{T, le→leb, lt→ltb}
use lib.IntN.{ℤ, pos, negsuc}
use lib.Signed.{mag}
use lib.Ieee.{binary64, of_int, in_float, fits}
use lib.Ieee.Fits.{round-fits}
use Rattle.rounding.specs.Value.{Val}
use Rattle.rounding.proofs.Casts.{plus_z, minus_z, of_int_val}

-- `mag z` is n both for n and for -(n + 1)
pub sides_mag : (z : ℤ) (B : ℕ) → mag z < B → (plus_z z ≤ B) × (minus_z z ≤ B)
sides_mag (pos n) B h = (omega arith, omega arith)
sides_mag (negsuc n) B h = (omega arith, omega arith)

pub in-float : (z : ℤ) → mag z < 2 ^ 53 → T (in_float binary64 z)
unfolding in_float
in-float (pos n) h = le→leb n (2 ^ 53) (omega arith)
in-float (negsuc n) h = lt→ltb n (2 ^ 53) h

pub integer_val : (z : ℤ) → mag z < 2 ^ 53 → Val (of_int binary64 z) (plus_z z) (minus_z z) 1
integer_val z h = let s = sides_mag z (2 ^ 53) h in of_int_val z s.0 s.1

pub integer_fits : (z : ℤ) → T (fits binary64 (of_int binary64 z))
unfolding of_int
integer_fits (pos n) = round-fits binary64 false n 1
integer_fits (negsuc n) = round-fits binary64 true (suc n) 1
