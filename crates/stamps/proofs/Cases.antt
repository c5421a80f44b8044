-- Worked blocks: which refusal comes first, the header of an empty one and of three stamps, and what the sentence of a wrong length names. Assumes nothing.
use mathlib.Core.Path.{◌≡◌, refl}
use mathlib.Core.List.{List, [], ◌∷◌, ◌++◌}
use Prim.Native.Nat.{ℕ}
use Rattle.refusals.specs.Outcome.{answer, refusal}
use Rattle.numerals.specs.little_endian.LittleEndian.{u32_at, four_at}
use Rattle.numerals.specs.digits.Decimal.{digits_in}
use Rattle.leap_table.specs.rows.Table.{fixed}
use Rattle.utc.specs.text.Ascii.{ascii_bytes}
use Rattle.reasons.specs.declared.Values.TheVariants.{Block}
use Rattle.stamps.specs.declared.Reporting.TheVariants.{Numbers, Sentences}
use Rattle.stamps.specs.Block.{block_of}
use Rattle.stamps.specs.Listing.{line_room, header, refused_in, came, block_values}
use Rattle.stamps.specs.Parts.{line_of}

-- sizes of 4,001 and 4,002: they differ, before the first is too large
pub differ_before_large : block_of (161 ∷ 15 ∷ 0 ∷ 0 ∷ 162 ∷ 15 ∷ 0 ∷ 0 ∷ []) ≡ refusal 12
unfolding block_of u32_at four_at
differ_before_large = refl

-- sizes of 1 and 2 in 8 bytes: they differ, before the length is wrong
pub differ_before_length : block_of (1 ∷ 0 ∷ 0 ∷ 0 ∷ 2 ∷ 0 ∷ 0 ∷ 0 ∷ []) ≡ refusal 12
unfolding block_of u32_at four_at
differ_before_length = refl

-- no stamps in 8 bytes
pub none : block_of (0 ∷ 0 ∷ 0 ∷ 0 ∷ 0 ∷ 0 ∷ 0 ∷ 0 ∷ []) ≡ answer 0
unfolding block_of u32_at four_at
none = refl

abbrev empty : List ℕ
empty = 0 ∷ 0 ∷ 0 ∷ 0 ∷ 0 ∷ 0 ∷ 0 ∷ 0 ∷ []

-- its listing in sentences begins `utc listing 0 refused 0`
pub empty-header : line_of (Sentences 8) fixed (answer 0) empty 0 ≡ ascii_bytes "utc listing 0 refused 0\n"
unfolding line_of header refused_in digits_in
empty-header = refl

-- of three stamps of which one is refused it is `utc listing 3 refused 1`, of 4,000 with 212 `utc listing 4000 refused 212`
pub three-one-header : header 3 1 ≡ ascii_bytes "utc listing 3 refused 1" ++ (10 ∷ [])
unfolding header digits_in
three-one-header = refl

pub full_header : header 4000 212 ≡ ascii_bytes "utc listing 4000 refused 212" ++ (10 ∷ [])
unfolding header digits_in
full_header = refl

-- of an input of 70,000 bytes whose first 8 are at hand a refusal names 70,000
pub whole_length : block_values (Sentences 70000) empty ≡ Block 70000 0 0
unfolding came u32_at four_at
whole_length = refl

-- the room of a line
pub rooms : (line_room Numbers ≡ 33) × (line_room (Sentences 70000) ≡ 64)
unfolding line_room
rooms = (refl, refl)
