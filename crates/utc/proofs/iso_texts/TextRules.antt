-- The text calls that tell a rule: a refusal is handed on and writes nothing, a text gets its rule, and without the rule the call is the one of before. Assumes
-- nothing.
use mathlib.Core.Path.{◌≡◌, refl, sym, ap, subst, ◌∙◌}
use Prim.Native.Nat.{ℕ}
use mathlib.Core.List.{List}
use lib.ListN.{length}
use Rattle.std.specs.Prelude.{Result}
use Rattle.refusals.specs.declared.Refusal.{Refusal}
use Rattle.refusals.specs.Outcome.{Outcome, answer, refusal, onward, outcome}
use Rattle.julian.specs.declared.JulianDate.{JulianDate}
use Rattle.julian.specs.declared.CalendarFields.{CalendarFields}
use Rattle.julian.specs.Calendar.{julian_to_calendar}
use Rattle.leap_table.specs.declared.offsets.Rule.{Rule}
use Rattle.leap_table.specs.rows.Table.{Row}
use Rattle.leap_table.specs.offsets.Rule.{with_rule, forget}
use Rattle.leap_table.proofs.offsets.Rules.{forgets}
use Rattle.utc.specs.text.Answer.{text_written}
use Rattle.utc.specs.iso_texts.TextForm.{TextForm}
use Rattle.utc.specs.iso_texts.IsoText.{standard_form, day_text_by, iso_text_by, iso_text}
use Rattle.utc.specs.iso_texts.Expanded.{expanded_form, iso_text_expanded}
use Rattle.utc.specs.iso_texts.HalfEven.{half_even_form, iso_text_half_even}
use Rattle.utc.specs.iso_texts.TextCall.{written, buffer_holds, TextCall}
use Rattle.utc.specs.iso_texts.ByRule.{rule_on, text_by_rule, iso_text_by_rule, half_even_by_rule, expanded_by_rule, written_by_rule}
use Rattle.utc.specs.iso_texts.ByRule.{TextRuleCall}

pub rule-call-refused : (o : Outcome (List ℕ × Rule)) (k : ℕ) (l : List ℕ) (r : Result (ℕ × Rule) Refusal) → outcome r ≡ refusal k → o ≡ refusal k
    → TextRuleCall o l r l
unfolding written_by_rule buffer_holds forget onward
rule-call-refused o k l r p e = subst (λ (x : Outcome (List ℕ × Rule)). TextRuleCall x l r l) (sym e) (record { says = p; holds = refl })

pub rule-call-as : (o x : Outcome (List ℕ × Rule)) (l out : List ℕ) (r : Result (ℕ × Rule) Refusal) → o ≡ x → TextRuleCall x l r out → TextRuleCall o l r out
rule-call-as o x l out r e p = subst (λ (x : Outcome (List ℕ × Rule)). TextRuleCall x l r out) (sym e) p

-- ---- a text gets its rule
with_written : (o : Outcome (List ℕ)) (rule : Rule) (n : ℕ) → with_rule (written o n) rule ≡ written_by_rule (with_rule o rule) n
unfolding written written_by_rule with_rule onward
with_written (answer t) rule n = refl
with_written (refusal k) rule n = refl

pub rule-call-with : (o : Outcome (List ℕ)) (rule : Rule) (l out : List ℕ) (t : Result ℕ Refusal) (r : Result (ℕ × Rule) Refusal)
    → outcome r ≡ with_rule (outcome t) rule → TextCall o l t out → TextRuleCall (with_rule o rule) l r out
rule-call-with o rule l out t r e p =
    record {
      says = e ∙ ap (λ (x : Outcome ℕ). with_rule x rule) p.says ∙ with_written o rule (length l);
      holds = p.holds ∙ sym (ap (λ (x : Outcome (List ℕ)). buffer_holds x l) (forgets o rule));
    }

-- ---- FORGOTTEN, the rule leaves the text call of before
forget-written : (o : Outcome (List ℕ × Rule)) (n : ℕ) → forget (written_by_rule o n) ≡ written (forget o) n
unfolding written written_by_rule forget onward
forget-written (answer t) n = forgets (text_written t.0 n) t.1
forget-written (refusal k) n = refl

pub rule-call-forgets : (o : Outcome (List ℕ × Rule)) (l out : List ℕ) (r : Result (ℕ × Rule) Refusal) (t : Result ℕ Refusal) → outcome t ≡ forget (outcome r)
    → TextRuleCall o l r out → TextCall (forget o) l t out
rule-call-forgets o l out r t e p = record { says = e ∙ ap forget p.says ∙ forget-written o (length l); holds = p.holds }

pub text-forgets : (textForm : TextForm) (rows : List Row) (jd : JulianDate) → forget (text_by_rule textForm rows jd) ≡ iso_text_by textForm rows jd
unfolding text_by_rule iso_text_by forget onward
text-forgets textForm rows jd = go (julian_to_calendar jd.jd1 jd.jd2)
  where
    go : (w : Outcome CalendarFields)
        → forget (onward w (λ c. with_rule (day_text_by textForm rows c.date c.fraction) (rule_on rows c.date))) ≡ onward w
        (λ c. day_text_by textForm rows c.date c.fraction)
    go (answer c) = forgets (day_text_by textForm rows c.date c.fraction) (rule_on rows c.date)
    go (refusal k) = refl

-- document 01's text and the two others
pub iso_forgets : (rows : List Row) (jd : JulianDate) → forget (iso_text_by_rule rows jd) ≡ iso_text rows jd
iso_forgets = text-forgets standard_form

pub even-forgets : (rows : List Row) (jd : JulianDate) → forget (half_even_by_rule rows jd) ≡ iso_text_half_even rows jd
even-forgets = text-forgets half_even_form

pub expanded-forgets : (rows : List Row) (jd : JulianDate) → forget (expanded_by_rule rows jd) ≡ iso_text_expanded rows jd
expanded-forgets = text-forgets expanded_form
