-- The text of a UTC date with the rule of the day, in each form. Written from document 02, item 5: the text calls pass on the rule of the calendar's date at
-- 0h, which is the date before any carry: a text that shows the next midnight passes on the rule of the day that ends there. Assumes nothing.
use Rattle.std.specs.Prelude.{ℕ, ◌≡◌, List, length, Result}
use Rattle.refusals.specs.declared.Refusal.{Refusal}
use Rattle.refusals.specs.Outcome.{Outcome, onward, outcome}
use Rattle.julian.specs.declared.JulianDate.{JulianDate}
use Rattle.julian.specs.Calendar.{julian_to_calendar}
use Rattle.leap_table.specs.declared.offsets.Rule.{Rule}
use Rattle.leap_table.specs.rows.Table.{Row}
use Rattle.leap_table.specs.offsets.Rule.{with_rule, forget}
unfoldable pub use Rattle.leap_table.specs.offsets.Rule.{rule_on}
use Rattle.utc.specs.text.Answer.{text_written}
use Rattle.utc.specs.iso_texts.TextForm.{TextForm}
use Rattle.utc.specs.iso_texts.IsoText.{standard_form, day_text_by}
use Rattle.utc.specs.iso_texts.Expanded.{expanded_form}
use Rattle.utc.specs.iso_texts.HalfEven.{half_even_form}
use Rattle.utc.specs.iso_texts.TextCall.{buffer_holds}

-- in any form
unfoldable pub text_by_rule : TextForm → List Row → JulianDate → Outcome (List ℕ × Rule)
text_by_rule textForm rows jd = onward (julian_to_calendar jd.jd1 jd.jd2)
    (λ c. with_rule (day_text_by textForm rows c.date c.fraction) (rule_on rows c.date))

-- document 01's text, and those of document 02's items 4 and 6
abbrev pub iso_text_by_rule : List Row → JulianDate → Outcome (List ℕ × Rule)
iso_text_by_rule rows jd = text_by_rule standard_form rows jd

abbrev pub half_even_by_rule : List Row → JulianDate → Outcome (List ℕ × Rule)
half_even_by_rule rows jd = text_by_rule half_even_form rows jd

abbrev pub expanded_by_rule : List Row → JulianDate → Outcome (List ℕ × Rule)
expanded_by_rule rows jd = text_by_rule expanded_form rows jd

-- into a buffer of n bytes: 11 only where there is a text
unfoldable pub written_by_rule : Outcome (List ℕ × Rule) → ℕ → Outcome (ℕ × Rule)
written_by_rule text n = onward text (λ t. with_rule (text_written t.0 n) t.1)

-- r answers the text and the rule, and the buffer, which held `before`, holds `after`
pub record TextRuleCall (text : Outcome (List ℕ × Rule)) (before : List ℕ) (r : Result (ℕ × Rule) Refusal) (after : List ℕ) : Type 0 where
  pub says : outcome r ≡ written_by_rule text (length before)
  pub holds : after ≡ buffer_holds (forget text) before
