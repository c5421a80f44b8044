-- The fields of a text that was read as bytes, little-endian, in their order: year, month, day, hour and minute as 4 bytes each, the second as the 8 of its
-- bits; of a UTC text the date's two parts behind them. Written from docs/DECISIONS.md 24 and document 02, item 1 ("the six fields; a UTC text .. gives its
-- date too"). Assumes nothing.
use Rattle.std.specs.Prelude.{ℕ, List, ◌++◌}
use Rattle.numerals.specs.little_endian.LittleEndian.{pattern_of}
use Rattle.parsing.specs.declared.ParsedDateTime.{ParsedDateTime}
use Rattle.parsing.specs.declared.ParsedUtc.{ParsedUtc}
use Rattle.c_answers.specs.Fields.{four_bytes, float_bytes, julian_bytes}

-- 28 bytes
unfoldable pub parsed_bytes : ParsedDateTime → List ℕ
parsed_bytes p = four_bytes (pattern_of p.year)
    ++ (four_bytes p.month ++ (four_bytes p.day ++ (four_bytes p.hour ++ (four_bytes p.minute ++ float_bytes p.second))))

-- 44 bytes
unfoldable pub parsed_utc_bytes : ParsedUtc → List ℕ
parsed_utc_bytes r = parsed_bytes r.fields ++ julian_bytes r.date.0
