-- Hexadecimal numbers of 16 digits, as the bits of a float are shown, read and written. Written from document 02, item 13 ("16 hexadecimal digits of their
-- bits"; its example 7ff8000000000000 has small letters). Assumes nothing.
use Rattle.std.specs.Prelude.{ℕ, zero, suc, ◌+◌, ◌-◌, ◌*◌, ◌/◌, ◌%◌, List, [], ◌∷◌, ◌++◌, cond, ltb}

-- 0 to 9 are 48 to 57, 10 to 15 are a to f, 97 to 102
unfoldable pub hex_digit : ℕ → ℕ
hex_digit d = cond (ltb d 10) (48 + d) (87 + d)

-- what such a digit is worth
unfoldable pub hex_worth : ℕ → ℕ
hex_worth c = cond (ltb c 58) (c - 48) (c - 87)

-- the number that hexadecimal digits say, read from the left after the number v
abbrev pub hex_value : ℕ → List ℕ → ℕ
hex_value v [] = v
hex_value v (c ∷ cs) = hex_value (16 * v + hex_worth c) cs

abbrev pub hex_number : List ℕ → ℕ
hex_number cs = hex_value 0 cs

-- the last k hexadecimal digits of n
unfoldable pub hex_digits : ℕ → ℕ → List ℕ
hex_digits zero n = []
hex_digits (suc k) n = hex_digits k (n / 16) ++ (hex_digit (n % 16) ∷ [])

unfoldable pub hex16 : ℕ → List ℕ
hex16 n = hex_digits 16 n
