-- The text of a UTC date with a half millisecond to the even one. Written from document 02, item 4: "a text call with that rule".
-- Assumes nothing.
use Rattle.std.specs.Prelude.{ℕ, List}
use Rattle.refusals.specs.Outcome.{Outcome}
use Rattle.julian.specs.declared.JulianDate.{JulianDate}
use Rattle.leap_table.specs.rows.Table.{Row}
use Rattle.time_of_day.specs.HalfEven.{even_count}
use Rattle.utc.specs.text.Text.{utc_text}
use Rattle.utc.specs.iso_texts.TextForm.{TextForm}
use Rattle.utc.specs.iso_texts.IsoText.{iso_text_by}

-- a half millisecond to the even one, dates and times as document 01's form writes them
abbrev pub half_even_form : TextForm
half_even_form = record { count = even_count; write = utc_text }

abbrev pub iso_text_half_even : List Row → JulianDate → Outcome (List ℕ)
iso_text_half_even rows jd = iso_text_by half_even_form rows jd
