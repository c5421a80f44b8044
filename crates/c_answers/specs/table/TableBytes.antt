-- The table that a C caller lends as bytes. Written from document 02, item 8: "From C it is these 136 bytes, little-endian; any other length is 14, before 20":
-- two sizes of 4 bytes, 16 month starts and 16 seconds of 4 bytes each, in two's complement. Assumes nothing.
use Rattle.std.specs.Prelude.{ℕ, zero, suc, ◌+◌, cond, List, [], ◌∷◌, eqb, ℤ, length}
use Rattle.refusals.specs.Outcome.{Outcome, refusal}
use Rattle.numerals.specs.little_endian.LittleEndian.{u32_at, i32_at}
use Rattle.leap_table.specs.declared.rows.AnnouncedRows.{AnnouncedRows}
use Rattle.leap_table.specs.rows.Table.{Row}
use Rattle.leap_table.specs.rows.Announced.{table_of}

-- n signed numbers, four bytes each, one behind the other
unfoldable pub signed_from : List ℕ → ℕ → ℕ → List ℤ
signed_from s at zero = []
signed_from s at (suc n) = i32_at s at ∷ signed_from s (at + 4) n

-- the record in the bytes
abbrev pub record_in : List ℕ → AnnouncedRows
record_in s = record { months_size = u32_at s 0; seconds_size = u32_at s 4; months = signed_from s 8 16; seconds = signed_from s 72 16 }

-- 14: a length other than 136
unfoldable pub of_length : ℕ → Outcome (List Row) → Outcome (List Row)
of_length n o = cond (eqb n 136) o (refusal 14)

-- the length, then the tests of the table
unfoldable pub table_bytes : List ℕ → Outcome (List Row)
table_bytes s = of_length (length s) (table_of (record_in s))
