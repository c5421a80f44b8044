-- A table's closed cases in a literal row behind 2017's, as they stand while that is the last row: `table.Laws` and `AnswerCases` have them by whatever row is
-- the last. Computed. Assumes nothing.
use Prim.Native.Nat.{ℕ}
use mathlib.Core.Path.{◌≡◌, refl}
use mathlib.Core.List.{List, [], ◌∷◌, ◌++◌}
use lib.IntN.{pos}
use lib.ListN.{get_or, replicate}
use Rattle.refusals.specs.Outcome.{answer, refusal}
use Rattle.numerals.specs.little_endian.LittleEndian.{four_at, u32_at, signed32, eight_bytes}
use Rattle.leap_table.specs.rows.Table.{row, fixed}
use Rattle.leap_table.specs.rows.Announced.{rows_to, announced_size, table_of}
use Rattle.c_answers.specs.table.TableBytes.{signed_from, record_in, of_length, table_bytes}

-- a row of January 2027 with 38 s; its month start read with a sign; its seconds; the length before the sizes
abbrev pub row_bytes : ℕ → ℕ → ℕ → ℕ → ℕ → List ℕ
row_bytes size a b c seconds = 1 ∷ 0 ∷ 0 ∷ 0 ∷ size ∷ 0 ∷ 0 ∷ 0 ∷ a ∷ b ∷ c ∷ c ∷ (replicate 60 0 ++ (seconds ∷ 0 ∷ 0 ∷ 0 ∷ replicate 60 0))

pub one-row : table_bytes (row_bytes 1 0x04 0x5f 0 38) ≡ answer (fixed ++ (row 2027 1 380000000 0 0 ∷ []))
unfolding table_bytes of_length table_of announced_size rows_to fixed signed_from signed32 u32_at four_at
one-row = refl

pub month-below-zero : table_bytes (row_bytes 1 0xff 0xff 0xff 38) ≡ refusal 21
unfolding table_bytes of_length table_of announced_size rows_to fixed signed_from signed32 u32_at four_at
month-below-zero = refl

pub two-seconds : table_bytes (row_bytes 1 0x04 0x5f 0 39) ≡ refusal 22
unfolding table_bytes of_length table_of announced_size rows_to fixed signed_from signed32 u32_at four_at
two-seconds = refl

pub unequal_sizes : table_bytes (row_bytes 2 0x04 0x5f 0 38) ≡ refusal 20
unfolding table_bytes of_length table_of announced_size rows_to fixed signed_from signed32 u32_at four_at
unequal_sizes = refl

pub one-byte-more : table_bytes (row_bytes 2 0x04 0x5f 0 38 ++ (0 ∷ [])) ≡ refusal 14
unfolding table_bytes of_length
one-byte-more = refl

-- ---- and by its record
-- eight numbers of eight bytes, of which the first is n and the others are 0
abbrev sixty-four : ℕ → List ℕ
sixty-four n = eight_bytes n ++ eight_bytes 0 ++ eight_bytes 0 ++ eight_bytes 0 ++ eight_bytes 0 ++ eight_bytes 0 ++ eight_bytes 0 ++ eight_bytes 0

-- the two sizes in eight bytes; the month 24324, which is 12 × 2027, and 38 s
abbrev table-of : ℕ → List ℕ
table-of sizes = eight_bytes sizes ++ sixty-four 24324 ++ sixty-four 38

abbrev row-of-38 : List ℕ
row-of-38 = table-of 0x0000_0001_0000_0001

pub row_read : ((record_in row-of-38).months_size ≡ 1) × ((record_in row-of-38).seconds_size ≡ 1) × (get_or (record_in row-of-38).months 0 (pos 0) ≡ pos 24324)
    × (get_or (record_in row-of-38).seconds 0 (pos 0) ≡ pos 38)
unfolding signed_from u32_at signed32 four_at
row_read = (refl, refl, refl, refl)
