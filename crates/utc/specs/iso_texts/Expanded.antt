-- The text of a UTC date with expanded years. Written from document 02, item 6: "a text call like 01's that writes such years as a sign
-- and seven digits". Assumes nothing.
use Rattle.std.specs.Prelude.{ℕ, List}
use Rattle.refusals.specs.Outcome.{Outcome}
use Rattle.floats.specs.Whole.{away}
use Rattle.julian.specs.declared.JulianDate.{JulianDate}
use Rattle.leap_table.specs.rows.Table.{Row}
use Rattle.time_of_day.specs.TimeShown.{count_by}
use Rattle.utc.specs.text.Expanded.{expanded_text}
use Rattle.utc.specs.iso_texts.TextForm.{TextForm}
use Rattle.utc.specs.iso_texts.IsoText.{iso_text_by}

-- milliseconds as document 01's form counts them, years of four digits or of a sign and seven
abbrev pub expanded_form : TextForm
expanded_form = record { count = count_by away; write = expanded_text }

abbrev pub iso_text_expanded : List Row → JulianDate → Outcome (List ℕ)
iso_text_expanded rows jd = iso_text_by expanded_form rows jd
