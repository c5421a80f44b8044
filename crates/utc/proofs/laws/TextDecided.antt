-- WHICH NUMBERS THE TEXT GIVES, AND EXACTLY WHEN, by every announced table, every form of text and every buffer; its three calls are cases. Assumes nothing.
use mathlib.Core.Path.{◌≡◌, refl, sym, ap, subst, ◌∙◌}
use mathlib.Core.Bool.{Bool, true, false, cond}
use mathlib.Core.List.{List}
use Prim.Native.Nat.{ℕ, ◌≤◌, ◌<◌}
use native.Mathlib.Omega.{arith}
use lib.Dec.{leb}
use lib.ListN.{length}
use borrow.Author.Tests.{leb-true, leb-false}
use Rattle.std.specs.Prelude.{Result}
use Rattle.refusals.specs.declared.Refusal.{Refusal}
use Rattle.refusals.specs.Outcome.{Outcome, answer, refusal, onward, outcome}
use Rattle.refusals.proofs.Onward.{went, stopped}
use Rattle.calendar.specs.declared.CalendarDate.{CalendarDate}
use Rattle.calendar.proofs.Years.{valid_of, gregorian_in_range}
use Rattle.julian.specs.day_number.DayNumber.{day_of}
use Rattle.julian.specs.declared.JulianDate.{JulianDate}
use Rattle.julian.specs.declared.CalendarFields.{CalendarFields}
use Rattle.julian.specs.Calendar.{julian_to_calendar}
use Rattle.leap_table.specs.declared.rows.AnnouncedRows.{AnnouncedRows}
use Rattle.leap_table.specs.declared.offsets.Rule.{Rule}
use Rattle.leap_table.specs.rows.Table.{Row}
use Rattle.leap_table.specs.rows.Announced.{rows_of, table_of}
use Rattle.leap_table.specs.offsets.Rule.{rule_on, with_rule}
use Rattle.utc.specs.text.Answer.{text_written}
use Rattle.utc.specs.iso_texts.TextForm.{TextForm}
use Rattle.utc.specs.iso_texts.IsoText.{standard_form, day_text_by, iso_text_by}
use Rattle.utc.specs.iso_texts.Expanded.{expanded_form}
use Rattle.utc.specs.iso_texts.HalfEven.{half_even_form}
use Rattle.utc.specs.iso_texts.ByRule.{text_by_rule, written_by_rule, TextRuleCall}
use Rattle.utc.proofs.laws.DayTexts.{text-refused-by, has-text-by}
use Rattle.utc.proofs.iso_texts.TextCalls.{fields-given-by}
use Rattle.utc.specs.laws.Ladder.{done, refuse, Decided}
use Rattle.utc.specs.laws.Ladders.{date_in, text_ladder, text_call_ladder, parts_then}
use Rattle.utc.proofs.laws.Ladders.{reaches, stops, passes, under_table, by_parts}
use Rattle.utc.proofs.laws.Decided.{decided-by}

module _ (t : AnnouncedRows) where
  abbrev rows : List Row
  rows = rows_of t

  abbrev by_table : {A : Type 0} → (List Row → Outcome A) → Outcome A
  by_table call = onward (table_of t) call

  -- ---- THE TEXT, in every form: 6 by the parts, 1 by the year; and 11 of its call by the buffer
  module _ (textForm : TextForm) (jd : JulianDate) where
    abbrev D : CalendarDate
    D = date_in jd.jd1 jd.jd2

    abbrev F : CalendarFields
    F = record { date = D; fraction = (day_of jd.jd1 jd.jd2).fraction }

    has-text : julian_to_calendar jd.jd1 jd.jd2 ≡ answer F → (v : valid_of D ≡ answer tt) → (text : List ℕ)
        × (day_text_by textForm rows D F.fraction ≡ answer text)
    has-text p v = (_, has-text-by rows D v (gregorian_in_range (day_of jd.jd1 jd.jd2).day).year_high textForm F.fraction)

    no_text : (k : ℕ) → valid_of D ≡ refusal k → day_text_by textForm rows D F.fraction ≡ refusal k
    no_text k v = text-refused-by rows D textForm F.fraction k v

    pub text-decided : Decided (by_table (λ rows. text_by_rule textForm rows jd)) (text_ladder t jd)
    unfolding text_by_rule with_rule
    text-decided = decided-by t (λ rows. text_by_rule textForm rows jd) _ (by_parts jd.jd1 jd.jd2 done
        (λ p. stopped _ p)
        (λ p v. went _ p ∙ stopped _ (no_text 1 v))
        (λ p v. reaches _ (went _ p ∙ went _ (has-text p v).1)))

    -- the text, and its length against the room
    module _ (room : ℕ) where
      abbrev TooLong : Type 0
      TooLong = (text : List ℕ) × (iso_text_by textForm rows jd ≡ answer text) × (room < length text)

      by-room : (text : List ℕ) (rule : Rule) → iso_text_by textForm rows jd ≡ answer text
          → Decided (with_rule (text_written text room) rule) (refuse 11 TooLong done)
      unfolding with_rule text_written onward
      by-room text rule p = go (leb (length text) room) refl
        where
          one-text : (other : List ℕ) → iso_text_by textForm rows jd ≡ answer other → text ≡ other
          one-text other q = cc

          fits : (h : length text ≤ room) → TooLong → ⊥
          fits h (other, q, g) = omega (arith, ap length (one-text other q))

          go : (b : Bool) → leb (length text) room ≡ b → Decided (with_rule (cond b (answer (length text)) (refusal 11)) rule) (refuse 11 TooLong done)
          go true h = passes (fits (leb-true (length text) room h)) (reaches _ refl)
          go false h = stops (text, p, leb-false (length text) room h) refl

      written-decided : Decided (written_by_rule (by_table (λ rows. text_by_rule textForm rows jd)) room) (text_call_ladder textForm t jd room)
      unfolding text_by_rule written_by_rule with_rule
      written-decided = under_table t _
          (λ n e. stopped _ (stopped _ e))
          (λ e. subst (λ o. Decided (written_by_rule o room) (parts_then jd.jd1 jd.jd2 (refuse 11 TooLong done)))
          (sym (went (λ rows. text_by_rule textForm rows jd) e)) by_rows)
        where
          with-text : (text : List ℕ) → day_text_by textForm rows D F.fraction ≡ answer text → julian_to_calendar jd.jd1 jd.jd2 ≡ answer F
              → written_by_rule (text_by_rule textForm rows jd) room ≡ with_rule (text_written text room) (rule_on rows D)
          with-text text q p = went _ (went _ p ∙ went _ q)

          by_rows : Decided (written_by_rule (text_by_rule textForm rows jd) room) (parts_then jd.jd1 jd.jd2 (refuse 11 TooLong done))
          by_rows = by_parts jd.jd1 jd.jd2 _
              (λ p. stopped _ (stopped _ p))
              (λ p v. stopped _ (went _ p ∙ stopped _ (no_text 1 v)))
              (λ p v. let (text, q) = has-text p v in
              subst (λ o. Decided o (refuse 11 TooLong done)) (sym (with-text text q p))
              (by-room text (rule_on rows D) (fields-given-by textForm rows jd F p ∙ q)))

    pub text-call-decided : (l out : List ℕ) (r : Result (ℕ × Rule) Refusal) → TextRuleCall (by_table (λ rows. text_by_rule textForm rows jd)) l r out
        → Decided (outcome r) (text_call_ladder textForm t jd (length l))
    text-call-decided l out r c = subst (λ o. Decided o (text_call_ladder textForm t jd (length l))) (sym c.says) (written-decided (length l))

  -- ---- its three calls: `to_iso8601`, `to_iso8601_half_even` and `to_iso8601_expanded`
  module _ (jd : JulianDate) (l out : List ℕ) (r : Result (ℕ × Rule) Refusal) where
    pub iso_decided : TextRuleCall (by_table (λ rows. text_by_rule standard_form rows jd)) l r out
        → Decided (outcome r) (text_call_ladder standard_form t jd (length l))
    iso_decided = text-call-decided standard_form jd l out r

    pub half-even-decided : TextRuleCall (by_table (λ rows. text_by_rule half_even_form rows jd)) l r out
        → Decided (outcome r) (text_call_ladder half_even_form t jd (length l))
    half-even-decided = text-call-decided half_even_form jd l out r

    pub expanded-decided : TextRuleCall (by_table (λ rows. text_by_rule expanded_form rows jd)) l r out
        → Decided (outcome r) (text_call_ladder expanded_form t jd (length l))
    expanded-decided = text-call-decided expanded_form jd l out r
