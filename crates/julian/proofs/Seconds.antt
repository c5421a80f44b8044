-- The whole days in a number of seconds, and the seconds that are left: what the machine's division gives, and that an `f64` holds each exactly. Assumes
-- nothing.
use mathlib.Core.Path.{◌≡◌, refl}
use Prim.Native.Nat.{ℕ, zero, suc, ◌/◌, ◌%◌, ◌^◌, ◌<◌}
use native.Mathlib.Omega.{arith}
use lib.Dec.{T}
use lib.IntN.{ℤ, pos, negsuc, neg_ℤ}
use lib.Signed.{mag, quot_z, rem_z}
use lib.Ieee.{binary64, in_float}
use mir.Syntax.{w64}
use mir.Val.{SFits}
use Rattle.julian.specs.UnixTime.{days_toward_zero, seconds_left}
use Rattle.julian.proofs.Integers.{in-float}

-- ---- the machine's quotient and remainder

pub quotient_is : (z : ℤ) → quot_z z (pos 86400) ≡ days_toward_zero z
quotient_is (pos s) = refl
quotient_is (negsuc s) = refl

pub remainder_is : (z : ℤ) → rem_z z (pos 86400) ≡ seconds_left z
remainder_is (pos s) = refl
remainder_is (negsuc s) = refl

-- ---- their sizes: 2 ^ 63 / 86400 is below 2 ^ 47

mag_minus : (n b : ℕ) → n < b → mag (neg_ℤ (pos n)) < b
mag_minus zero b h = omega arith
mag_minus (suc n) b h = omega arith

pub days-size : (z : ℤ) → SFits w64 z → mag (days_toward_zero z) < 2 ^ 47
days-size (pos s) f = omega (arith, f.sfits)
days-size (negsuc s) f = mag_minus (suc s / 86400) (2 ^ 47) (omega (arith, f.sfits))

pub left-size : (z : ℤ) → mag (seconds_left z) < 86400
left-size (pos s) = omega arith
left-size (negsuc s) = mag_minus (suc s % 86400) 86400 (omega arith)

pub days-fit : (z : ℤ) → SFits w64 z → SFits w64 (days_toward_zero z)
days-fit z f = record { sfits = omega (arith, days-size z f) }

pub left-fit : (z : ℤ) → SFits w64 (seconds_left z)
left-fit z = record { sfits = omega (arith, left-size z) }

pub days-in-float : (z : ℤ) → SFits w64 z → T (in_float binary64 (days_toward_zero z))
days-in-float z f = in-float (days_toward_zero z) (omega (arith, days-size z f))

pub left-in-float : (z : ℤ) → T (in_float binary64 (seconds_left z))
left-in-float z = in-float (seconds_left z) (omega (arith, left-size z))
