-- A float of X units of 2 ^ -1074 with the sign s: its value, and what X can be. Assumes nothing.
use mathlib.Core.Path.{subst}
use mathlib.Core.Bool.{Bool}
use Prim.Native.Nat.{ℕ}
use lib.Dec.{T}
use lib.Ieee.{Float, binary64, fits}
use lib.Ieee.Exact.{HasValue}
use Rattle.rounding.specs.Value.{Val, L}
use Rattle.rounding.proofs.Signed.{plus-of, minus-of, signed_of, signed-dist}
use Rattle.rounding.proofs.Own.{Rep, val-rep}

pub has-val : (x : Float) (s : Bool) (X D : ℕ) → HasValue x s X D → Val x (plus-of s X) (minus-of s X) D
has-val x s X D v = record { sign = s; size = X; has = v; is = signed_of s X }

pub has-rep : (x : Float) (s : Bool) (X : ℕ) → T (fits binary64 x) → HasValue x s X L → Rep X
has-rep x s X f v = subst Rep (signed-dist s X (plus-of s X) (minus-of s X) (signed_of s X)) (val-rep f (has-val x s X L v))
