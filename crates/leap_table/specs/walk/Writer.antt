-- Dates written as bytes, and what a caller reads off the offsets' bytes: the layout as a writer has it, apart from what reads it. Document 02, item 2: "year,
-- month, day triples". Assumes nothing.
use Rattle.std.specs.Prelude.{ℕ, List, ◌++◌, FitsSigned, to_bits, Float}
use Rattle.std.specs.Float.{binary64}
use Rattle.std.specs.Int.{w32}
use Rattle.numerals.specs.little_endian.LittleEndian.{four_bytes, eight_bytes, pattern32}
use Rattle.leap_table.specs.declared.judging.Triple.{Triple}

-- the year, the month and the day in four bytes each, in two's complement
unfoldable pub triple_bytes : Triple → List ℕ
triple_bytes t = four_bytes (pattern32 t.year) ++ (four_bytes (pattern32 t.month) ++ four_bytes (pattern32 t.day))

-- fields of 32 bits
pub record DateFits (t : Triple) : Type 0 where
  pub year_fits : FitsSigned w32 t.year
  pub month_fits : FitsSigned w32 t.month
  pub day_fits : FitsSigned w32 t.day

-- an offset in eight bytes
abbrev pub offset_bytes : Float → List ℕ
offset_bytes x = eight_bytes (to_bits binary64 x)
