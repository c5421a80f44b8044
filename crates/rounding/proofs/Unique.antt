-- A float is fixed by its sign and its value. Assumes nothing.
use mathlib.Core.Path.{◌≡◌, sym, ap, ◌∙◌}
use mathlib.Core.Bool.{Bool, cond}
use Prim.Native.Nat.{ℕ, ◌+◌, ◌-◌, ◌*◌, ◌/◌, ◌^◌, ◌<◌}
use native.Mathlib.Nat.{mul_right_comm}
use lib.Dec.{T}
use lib.Ieee.{Float, nan, inf, fin, binary64, up, down, size, fits, of_bits, to_bits}
use lib.Ieee.Bits.{of_bits-to_bits}
use lib.Ieee.Exact.{HasValue}
use lib.Ieee.Fits.{down_pos}
use lib.Ieee.Nearest.{div_same}

-- the bits say only the sign and the value
bits : Bool → ℕ → ℕ
bits s n = cond s (2 ^ 63) 0 + (size n - 53) * 2 ^ 52 + n / 2 ^ (size n - 53)

bits_of : (x : Float) (s : Bool) (a c : ℕ) → 0 < c → HasValue x s a c → to_bits binary64 x ≡ bits s (a * 2 ^ 1074 / c)
unfolding to_bits bits
bits_of nan s a c h v = absurd v
bits_of (inf t) s a c h v = absurd v
bits_of (fin t m e) s a c h v =
    ap (λ (b : Bool). bits b (m * up e * 2 ^ 1074 / down e)) v.0
    ∙ ap (bits s) (div_same (m * up e * 2 ^ 1074) (down e) (a * 2 ^ 1074) c (down_pos e) h
    (mul_right_comm (m * up e) (2 ^ 1074) c ∙ ap (λ (z : ℕ). z * 2 ^ 1074) v.1 ∙ mul_right_comm a (down e) (2 ^ 1074)))

pub float-unique : (x y : Float) (s : Bool) (a c : ℕ) → 0 < c → T (fits binary64 x) → T (fits binary64 y) → HasValue x s a c → HasValue y s a c → x ≡ y
float-unique x y s a c h fx fy v w = sym (of_bits-to_bits binary64 x fx) ∙ ap (of_bits binary64) (bits_of x s a c h v ∙ sym (bits_of y s a c h w))
    ∙ of_bits-to_bits binary64 y fy
