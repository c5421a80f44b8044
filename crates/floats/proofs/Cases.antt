-- Closed cases that fix the definitions: signed zeros, halves, the ends of the format, a NaN, and the ends of an i64.
use Rattle.std.proofs.Common.{◌≡◌, true, false, pos, negsuc, refl}
use lib.Ieee.{nan, inf, fin, binary64, of_bits, to_bits, to_signed, lt, add, sub}
use Rattle.floats.specs.Whole.{abs, half, nought, one, to_whole, cut, downward, upward, away, nearest_int}

-- ---- 0.0, 0.5 and 1.0 by their bits, as code writes them
pub literals : (of_bits binary64 0 ≡ nought) × (of_bits binary64 0x3fe0_0000_0000_0000 ≡ half) × (of_bits binary64 0x3ff0_0000_0000_0000 ≡ one)
unfolding of_bits
literals = (refl, refl, refl)

-- ---- the sign of a zero stays: -0.0 and -0.25 to a whole number, and trunc(-0.3)
floor_minus_zero : to_whole downward (fin true 0 (pos 0)) ≡ fin true 0 (pos 0)
unfolding to_whole
floor_minus_zero = refl

minus-quarter : (to_whole cut (fin true 1 (negsuc 1)) ≡ fin true 0 (pos 0)) × (to_whole upward (fin true 1 (negsuc 1)) ≡ fin true 0 (pos 0))
    × (to_whole away (fin true 1 (negsuc 1)) ≡ fin true 0 (pos 0)) × (to_whole downward (fin true 1 (negsuc 1)) ≡ fin true 1 (pos 0))
unfolding to_whole
minus-quarter = (refl, refl, refl, refl)

trunc_minus_three_tenths : to_whole cut (of_bits binary64 0xbfd3_3333_3333_3333) ≡ fin true 0 (pos 0)
unfolding to_whole of_bits
trunc_minus_three_tenths = refl

abs-minus-zero : abs (fin true 0 (pos 0)) ≡ fin false 0 (pos 0)
unfolding abs
abs-minus-zero = refl

-- ---- halves: ±2.5 away from zero to ±3, and 0.49999999999999994 to 0
round_halves : (to_whole away (fin true 5 (negsuc 0)) ≡ fin true 3 (pos 0)) × (to_whole away (fin false 5 (negsuc 0)) ≡ fin false 3 (pos 0))
unfolding to_whole
round_halves = (refl, refl)

round_under_half : to_whole away (of_bits binary64 0x3fdf_ffff_ffff_ffff) ≡ fin false 0 (pos 0)
unfolding to_whole of_bits
round_under_half = refl

-- ---- the ends of the format: the largest negative float, the negative one nearest to zero, an infinity, a NaN
floor_ends : (to_whole downward (of_bits binary64 0xffef_ffff_ffff_ffff) ≡ of_bits binary64 0xffef_ffff_ffff_ffff)
    × (to_whole downward (of_bits binary64 0x8000_0000_0000_0001) ≡ fin true 1 (pos 0)) × (to_whole downward (inf true) ≡ inf true) ×
    (to_whole downward nan ≡ nan)
unfolding to_whole of_bits
floor_ends = (refl, refl, refl, refl)

-- ---- nearest_int: 0.5 to 1, -0.5 to -1, -0.25 to 0.0, and 2 ^ 52 + 1 to 2 ^ 52 + 2
nearest-halves : (nearest_int (fin false 1 (negsuc 0)) ≡ fin false 1 (pos 0)) × (nearest_int (fin true 1 (negsuc 0)) ≡ fin true 1 (pos 0))
    × (nearest_int (fin true 1 (negsuc 1)) ≡ fin false 0 (pos 0))
unfolding nearest_int lt add sub
nearest-halves = (refl, refl, refl)

nearest-from-two-52 : nearest_int (fin false 4503599627370497 (pos 0)) ≡ fin false 2251799813685249 (pos 1)
unfolding nearest_int lt add
nearest-from-two-52 = refl

-- ---- the cast to an i64: 2 ^ 63, -2 ^ 63, the next float below it, a NaN, and toward zero
cast_ends : (to_signed 63 (fin false 1 (pos 63)) ≡ pos 9223372036854775807) × (to_signed 63 (fin true 1 (pos 63)) ≡ negsuc 9223372036854775807)
    × (to_signed 63 (of_bits binary64 0xc3e0_0000_0000_0001) ≡ negsuc 9223372036854775807) × (to_signed 63 (inf false) ≡ pos 9223372036854775807)
    × (to_signed 63 nan ≡ pos 0)
unfolding to_signed of_bits
cast_ends = (refl, refl, refl, refl, refl)

cast_toward_zero : to_signed 63 (fin true 5 (negsuc 0)) ≡ negsuc 1
unfolding to_signed
cast_toward_zero = refl

-- ---- bit patterns: a NaN is written 7ff8000000000000; a signalling NaN's pattern and a negative NaN's are a NaN's; the infinity's is not
nan_written : to_bits binary64 nan ≡ 0x7ff8_0000_0000_0000
unfolding to_bits
nan_written = refl

nan_read : (of_bits binary64 0x7ff0_0000_0000_0001 ≡ nan) × (of_bits binary64 0xfff8_0000_0000_0000 ≡ nan) ×
    (of_bits binary64 0x7ff0_0000_0000_0000 ≡ inf false)
unfolding of_bits
nan_read = (refl, refl, refl)
