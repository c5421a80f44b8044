-- By each form of text a text that shows the next midnight passes on the rule of the day that ends there: on 2016-12-31 row 40 under a text of 2017, on
-- 1971-12-31 the row 13 that drifts under a text of 1972. Assumes nothing.
use mathlib.Core.Path.{◌≡◌, ap, ◌∙◌}
use mathlib.Core.List.{List}
use Prim.Native.Nat.{ℕ}
use lib.IntN.{pos}
use Rattle.refusals.specs.Outcome.{Outcome, answer}
use Rattle.refusals.proofs.Onward.{went}
use Rattle.calendar.specs.Calendar.{date}
use Rattle.calendar.specs.declared.CalendarDate.{CalendarDate}
use Rattle.julian.specs.declared.JulianDate.{JulianDate}
use Rattle.julian.specs.declared.CalendarFields.{CalendarFields}
use Rattle.julian.specs.Calendar.{julian_to_calendar}
use Rattle.leap_table.specs.declared.offsets.Rule.{Rule}
use Rattle.leap_table.specs.declared.offsets.Rule.TheVariants.{Drifting, Whole}
use Rattle.leap_table.specs.rows.Table.{Row, fixed}
use Rattle.leap_table.specs.offsets.Rule.{with_rule}
use Rattle.leap_table.proofs.offsets.RuleLaws.{rule-cases}
use Rattle.utc.specs.iso_texts.TextForm.{TextForm}
use Rattle.utc.specs.iso_texts.IsoText.{next_midnight_text_by, day_text_by}
use Rattle.utc.specs.iso_texts.ByRule.{rule_on, text_by_rule}

module _ (textForm : TextForm) (jd : JulianDate) (c : CalendarFields) (e : julian_to_calendar jd.jd1 jd.jd2 ≡ answer c) where
  abbrev Carried : List Row → Type 0
  Carried rows = day_text_by textForm rows c.date c.fraction ≡ next_midnight_text_by textForm.write c.date

  pub carried : (rows : List Row) → Carried rows
      → text_by_rule textForm rows jd ≡ with_rule (next_midnight_text_by textForm.write c.date) (rule_on rows c.date)
  unfolding text_by_rule
  carried rows h = went _ e ∙ ap (λ (o : Outcome (List ℕ)). with_rule o (rule_on rows c.date)) h

  on-date : (d : CalendarDate) (r : Rule) → c.date ≡ d → rule_on fixed d ≡ r → Carried fixed
      → text_by_rule textForm fixed jd ≡ with_rule (next_midnight_text_by textForm.write c.date) r
  on-date d r p q h = carried fixed h ∙ ap (with_rule (next_midnight_text_by textForm.write c.date)) (ap (rule_on fixed) p ∙ q)

  pub carried_2016 : c.date ≡ date (pos 2016) 12 31 → Carried fixed
      → text_by_rule textForm fixed jd ≡ with_rule (next_midnight_text_by textForm.write c.date) (Whole 40)
  unfolding rule_on
  carried_2016 p = on-date _ _ p rule-cases.4

  pub carried_1971 : c.date ≡ date (pos 1971) 12 31 → Carried fixed
      → text_by_rule textForm fixed jd ≡ with_rule (next_midnight_text_by textForm.write c.date) (Drifting 13)
  unfolding rule_on
  carried_1971 p = on-date _ _ p rule-cases.2
