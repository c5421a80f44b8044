-- Three numbers of 64 bits as bytes, eight each, little-endian. Written from docs/DECISIONS.md 24. Assumes nothing.
use Rattle.std.specs.Prelude.{ℕ, List, ◌++◌}
use Rattle.numerals.specs.little_endian.LittleEndian.{eight_bytes}

abbrev pub three_eights : ℕ → ℕ → ℕ → List ℕ
three_eights a b c = eight_bytes a ++ (eight_bytes b ++ eight_bytes c)
