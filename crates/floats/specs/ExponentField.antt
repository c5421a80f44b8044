-- The exponent field of a binary64 pattern. Written from IEEE 754: a pattern whose field is all ones is an infinity where its fraction is 0, and else a NaN, of
-- either sign and of any payload. Assumes nothing.
use Rattle.std.specs.Prelude.{ℕ, ◌/◌, ◌%◌, ◌^◌}

-- bits 52 to 62
abbrev pub exponent_field : ℕ → ℕ
exponent_field bits = bits / 2 ^ 52 % 2 ^ 11
