-- Dates as signed 32-bit numbers, three a date, and as bytes, twelve a date in two's complement, the lowest first. Written from document 02, item 2 ("a slice
-- of signed 32-bit numbers, year, month, day triples"); the bytes are the layout for C. Assumes nothing.
use Rattle.std.specs.Prelude.{ℕ, zero, suc, ◌+◌, ◌*◌, ◌/◌, ◌%◌, List, [], ◌∷◌, length, ℤ, pos, ◌==◌, slice_index_or}
use Rattle.refusals.specs.Outcome.{Outcome}
use Rattle.numerals.specs.little_endian.LittleEndian.{i32_at}
use Rattle.leap_table.specs.declared.judging.Triple.{Triple}
use Rattle.leap_table.specs.judging.Judging.{triple, judged_list}

-- the k dates f i, f (i + 1), ..
unfoldable pub dates_from : (ℕ → Triple) → ℕ → ℕ → List Triple
dates_from f i zero = []
dates_from f i (suc k) = f i ∷ dates_from f (suc i) k

-- date i of a list of numbers, and of a list of bytes
abbrev pub triple_at : List ℤ → ℕ → Triple
triple_at l i = triple (slice_index_or l (3 * i) (pos 0)) (slice_index_or l (3 * i + 1) (pos 0)) (slice_index_or l (3 * i + 2) (pos 0))

abbrev pub triple_in : List ℕ → ℕ → Triple
triple_in s i = triple (i32_at s (12 * i)) (i32_at s (12 * i + 4)) (i32_at s (12 * i + 8))

-- the dates of a list of numbers, for so many places
abbrev pub judged_numbers : List ℤ → ℕ → Outcome Unit
judged_numbers l places = judged_list (length l % 3 == 0) (dates_from (triple_at l) 0 (length l / 3)) places

-- and of a list of bytes, for so many bytes of room, eight a place
abbrev pub judged_bytes : List ℕ → ℕ → Outcome Unit
judged_bytes s room = judged_list (length s % 12 == 0) (dates_from (triple_in s) 0 (length s / 12)) (room / 8)
