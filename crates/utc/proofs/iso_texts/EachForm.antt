-- The calls of a form of text with its rule: the refusal of the day, of the table or of the buffer is handed on, and a day's text gets its rule.
-- Assumes nothing.
use Prim.Native.Nat.{ℕ, ◌≤◌}
use mathlib.Core.Path.{◌≡◌, sym, ap, ◌∙◌}
use mathlib.Core.List.{List}
use Rattle.std.specs.Prelude.{Result, Ok, Err, IsErrAnd}
use Rattle.refusals.specs.declared.Refusal.{Refusal}
use Rattle.refusals.specs.Outcome.{Outcome, answer, onward, outcome, number_said}
use Rattle.refusals.proofs.Handed.{answered, handed, handed_on}
use Rattle.julian.specs.declared.JulianDate.{JulianDate}
use Rattle.leap_table.specs.declared.offsets.Rule.{Rule}
use Rattle.leap_table.specs.declared.rows.AnnouncedRows.{AnnouncedRows}
use Rattle.leap_table.specs.rows.Table.{Row}
use Rattle.leap_table.specs.rows.Announced.{rows_of, table_of, unless_refused}
use Rattle.leap_table.specs.offsets.Rule.{with_rule}
use Rattle.leap_table.proofs.rows.TablesTaken.{call_refused, call_taken}
use Rattle.time_of_day.specs.declared.TimeShown.{TimeShown}
use Rattle.time_of_day.specs.TimeShown.{shown_by}
use Rattle.utc.specs.declared.iso_texts.TextDay.{TextDay}
use Rattle.utc.specs.iso_texts.TextForm.{TextForm}
use Rattle.utc.specs.iso_texts.IsoText.{shown_text_by}
use Rattle.utc.specs.iso_texts.TextCall.{TextCall}
use Rattle.utc.specs.iso_texts.ByRule.{text_by_rule, TextRuleCall}
use Rattle.utc.specs.iso_texts.TextDay.{text_day}
use Rattle.utc.proofs.iso_texts.TextRules.{rule-call-refused, rule-call-as, rule-call-with}
use Rattle.utc.proofs.iso_texts.TextDays.{day-refused, day-given, day-in-range}

-- ---- by rows that are tested: a is what was found of the day
module _ (rows : List Row) (jd : JulianDate) (a : Result TextDay Refusal) (found : outcome a ≡ text_day rows jd) where
  pub text_refused : (textForm : TextForm) {k : Refusal} {l : List ℕ} {r : Result (ℕ × Rule) Refusal} → a ≡ Err k → IsErrAnd r (λ e. e ≡ k)
      → TextRuleCall (text_by_rule textForm rows jd) l r l
  text_refused textForm is on = rule-call-refused _ _ _ _ (handed_on _ _ on) (day-refused textForm rows jd _ (sym found ∙ handed is))

  module _ {d : TextDay} (is : a ≡ Ok d) where
    day-answered : text_day rows jd ≡ answer d
    day-answered = sym found ∙ answered is

    pub found-in-range : (d.date.month ≤ 12) × (d.date.day ≤ 31)
    found-in-range = day-in-range rows jd d day-answered

    module _ (textForm : TextForm) {t : TimeShown} (shown : t ≡ shown_by textForm.count d.fraction d.leap) {said : Result ℕ Refusal} {before after : List ℕ}
        (put : TextCall (shown_text_by textForm.write d.date t) before said after) where
      told : {r : Result (ℕ × Rule) Refusal} → outcome r ≡ with_rule (outcome said) d.rule → TextRuleCall (text_by_rule textForm rows jd) before r after
      told ruled =
          rule-call-as _ _ _ _ _
          (day-given textForm rows jd d day-answered ∙ ap (λ (t : TimeShown). with_rule (shown_text_by textForm.write d.date t) d.rule) (sym shown))
          (rule-call-with _ _ _ _ _ _ ruled put)

      pub text-told : {n : ℕ} → said ≡ Ok n → TextRuleCall (text_by_rule textForm rows jd) before (Ok (n, d.rule)) after
      unfolding outcome with_rule onward
      text-told p = told (sym (ap (λ (o : Outcome ℕ). with_rule o d.rule) (answered p)))

      pub text_not_told : {k : Refusal} {r : Result (ℕ × Rule) Refusal} → said ≡ Err k → IsErrAnd r (λ e. e ≡ k)
          → TextRuleCall (text_by_rule textForm rows jd) before r after
      unfolding with_rule onward
      text_not_told p on = told (handed_on _ _ on ∙ sym (ap (λ (o : Outcome ℕ). with_rule o d.rule) (handed p)))

-- ---- by a table: j is what was judged of it
module _ (textForm : TextForm) (t : AnnouncedRows) (jd : JulianDate) (j : Result Unit Refusal)
    (tested : unless_refused (number_said j) (rows_of t) ≡ table_of t) {before : List ℕ} where
  pub table-refused : {k : Refusal} {r : Result (ℕ × Rule) Refusal} → j ≡ Err k → IsErrAnd r (λ e. e ≡ k)
      → TextRuleCall (onward (table_of t) (λ rows. text_by_rule textForm rows jd)) before r before
  table-refused is on = rule-call-refused _ _ _ _ (handed_on _ _ on) (sym (call_refused t j tested (λ rows. text_by_rule textForm rows jd) _ is))

  pub table_taken : {u : Unit} → j ≡ Ok u → {told : Result (ℕ × Rule) Refusal} {after : List ℕ}
      → TextRuleCall (text_by_rule textForm (rows_of t) jd) before told after
      → TextRuleCall (onward (table_of t) (λ rows. text_by_rule textForm rows jd)) before told after
  table_taken is call = rule-call-as _ _ _ _ _ (sym (call_taken t j tested (λ rows. text_by_rule textForm rows jd) _ is)) call
