-- Document 02, item 4's own case: midnight of 2000-01-01 plus 3/2048 day is 126,562.5 ms. Assumes nothing.
use Rattle.std.specs.Prelude.{◌≡◌}
use Rattle.std.specs.Float.{binary64}
use Rattle.std.specs.Float.Ieee.{of_bits}
use Rattle.refusals.specs.Outcome.{answer}
use Rattle.constants.specs.Constants.{decimal}
use Rattle.julian.specs.declared.JulianDate.{JulianDate}
use Rattle.julian.specs.JulianDate.{julian}
use Rattle.leap_table.specs.rows.Table.{fixed}
use Rattle.utc.specs.text.Ascii.{ascii_bytes}
use Rattle.utc.specs.iso_texts.IsoText.{iso_text}
use Rattle.utc.specs.iso_texts.HalfEven.{iso_text_half_even}

abbrev pub sheet : JulianDate
sheet = julian (decimal 24515445 1) (of_bits binary64 0x3f58_0000_0000_0000)

-- the old text ends in 02:06.563, the new in 02:06.562
abbrev pub HalfMillisecond : Type 0
HalfMillisecond =
    (iso_text fixed sheet ≡ answer (ascii_bytes "2000-01-01T00:02:06.563"))
    × (iso_text_half_even fixed sheet ≡ answer (ascii_bytes "2000-01-01T00:02:06.562"))
