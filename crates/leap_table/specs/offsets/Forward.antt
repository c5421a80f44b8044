-- What a walk forward through the table reads of it: the start of each row, and the terms that a row's offsets are made of. Written from document 02, item 2
-- ("walking the table forward"), and from the look-up by one row, `by_row`, whose float expression this is. Assumes nothing.
use Rattle.std.specs.Prelude.{ℕ, cond, Float}
use Rattle.std.specs.Float.{binary64}
use Rattle.std.specs.Float.Ieee.{add, sub, mul}
use Rattle.leap_table.specs.declared.offsets.walk_rows.RowTerms.{RowTerms}

-- what stands past the last row: later than the month of any date with a 32-bit year
abbrev pub never : ℕ
never = 0xffff_ffff_ffff_ffff

-- the offset by a row's terms
unfoldable pub by_terms : RowTerms → Float → Float → Float
by_terms t mjd fraction =
    cond t.drifts
    (add binary64 t.seconds (mul binary64 (sub binary64 (add binary64 mjd fraction) t.start) t.rate))
    t.seconds
