-- The walk over dates as numbers and as bytes; offsets as bytes, eight each, the lowest first. Written from document 02, item 2; the bytes are the layout for
-- C. Assumes nothing.
use Rattle.std.specs.Prelude.{ℕ, ◌/◌, ◌%◌, List, [], ◌∷◌, ◌++◌, length, ℤ, ◌==◌, to_bits, Float}
use Rattle.std.specs.Float.{binary64}
use Rattle.refusals.specs.Outcome.{Outcome}
use Rattle.numerals.specs.little_endian.LittleEndian.{eight_bytes}
use Rattle.leap_table.specs.rows.Table.{Row}
use Rattle.leap_table.specs.judging.Lists.{dates_from, triple_at, triple_in}
use Rattle.leap_table.specs.walk.Walk.{Walked, walk_of}

-- the walk over numbers and so many places
abbrev pub walk_of_numbers : List Row → List ℤ → ℕ → Outcome Walked
walk_of_numbers rows l places = walk_of rows (length l % 3 == 0) (dates_from (triple_at l) 0 (length l / 3)) places

-- the walk over bytes and so many bytes of room
abbrev pub walk_of_bytes : List Row → List ℕ → ℕ → Outcome Walked
walk_of_bytes rows s room = walk_of rows (length s % 12 == 0) (dates_from (triple_in s) 0 (length s / 12)) (room / 8)

-- floats as their patterns, eight bytes each
unfoldable pub in_eights : List Float → List ℕ
in_eights [] = []
in_eights (x ∷ l) = eight_bytes (to_bits binary64 x) ++ in_eights l
