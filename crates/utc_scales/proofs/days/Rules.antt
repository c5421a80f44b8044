-- An answer with the rule that is passed on: made, taken apart, and without the rule again the answer of before, refusals included. Assumes nothing.
use mathlib.Core.Path.{◌≡◌, refl, sym, ap, ◌∙◌}
use mathlib.Core.List.{List}
use Prim.Native.Nat.{ℕ}
use native.Mathlib.Omega.{arith}
use lib.Ieee.{Float}
use Rattle.refusals.specs.Outcome.{Outcome, answer, refusal, onward}
use Rattle.refusals.proofs.Onward.{went, stopped}
use Rattle.calendar.specs.Gregorian.{gregorian_date}
use Rattle.julian.specs.declared.day_number.DayNumber.{DayNumber}
use Rattle.julian.specs.day_number.Answer.{day_number_and_fraction}
use Rattle.julian.specs.declared.CalendarFields.{CalendarFields}
use Rattle.julian.specs.Calendar.{julian_to_calendar}
use Rattle.julian.proofs.laws.CalendarDays.{fields-of}
use Rattle.leap_table.specs.declared.offsets.Rule.{Rule}
use Rattle.leap_table.specs.rows.Table.{Row}
use Rattle.leap_table.specs.offsets.Rule.{with_rule, forget}
use Rattle.leap_table.proofs.offsets.Rules.{rule_in}
use Rattle.utc_scales.specs.days.Dates.{offset_at0h, offset_of_date}
use Rattle.utc_scales.specs.days.DateRule.{rule_on, rule_of_date, pass_on, offset_of_date_by_rule}
use Rattle.utc_scales.proofs.days.Steps.{offset-no-date, offset-of-day}

module _ {A : Type 0} (o : Outcome A) (q : Outcome Rule) where
  pub passed : (a : A) (r : Rule) → o ≡ answer a → q ≡ answer r → answer (a, r) ≡ pass_on o q
  unfolding pass_on
  passed a r p e = sym (went _ p ∙ went _ e)

  pub passed_all : (r : Rule) → q ≡ answer r → with_rule o r ≡ pass_on o q
  unfolding pass_on with_rule
  passed_all r e = (λ i. onward o (λ a. sym (went (λ s. answer (a, s)) e) i))

  pub not_passed : (k : ℕ) → o ≡ refusal k → refusal k ≡ pass_on o q
  unfolding pass_on
  not_passed k p = sym (stopped _ p)

  pub taken-apart : (a : A) (r : Rule) → pass_on o q ≡ answer (a, r) → (o ≡ answer a) × (q ≡ answer r)
  unfolding pass_on forget onward
  taken-apart a r e = go o q e
    where
      go : (u : Outcome A) (v : Outcome Rule) → pass_on u v ≡ answer (a, r) → (u ≡ answer a) × (v ≡ answer r)
      go (answer x) (answer s) h = (ap forget h, ap (λ (w : Outcome (A × Rule)). answer (rule_in s w)) h)
      go (answer x) (refusal k) h = let z : ◌≡◌ {A = ℕ} 0 1 = cc in absurd (omega arith)
      go (refusal k) v h = let z : ◌≡◌ {A = ℕ} 0 1 = cc in absurd (omega arith)

  pub passed_forgets : (r : Rule) → q ≡ answer r → forget (pass_on o q) ≡ o
  unfolding pass_on forget onward
  passed_forgets r e = ap (λ (v : Outcome Rule). forget (pass_on o v)) e ∙ go o
    where
      go : (u : Outcome A) → forget (pass_on u (answer r)) ≡ u
      go (answer a) = refl
      go (refusal k) = refl

  pub refused-forgets : (k : ℕ) → o ≡ refusal k → forget (pass_on o q) ≡ o
  unfolding forget
  refused-forgets k p = stopped _ (sym (not_passed k p)) ∙ sym p

-- ---- the rule of a day
module _ (rows : List Row) (x y : Float) where
  pub rule-of-day : (d : DayNumber) → day_number_and_fraction x y ≡ answer d → rule_of_date rows x y ≡ answer (rule_on rows (gregorian_date d.day))
  unfolding rule_of_date
  rule-of-day d e = went _ (fields-of x y d e)

  pub offset-by-rule : (d : DayNumber) → day_number_and_fraction x y ≡ answer d
      → with_rule (offset_at0h rows (gregorian_date d.day)) (rule_on rows (gregorian_date d.day)) ≡ offset_of_date_by_rule rows x y
  unfolding offset_of_date_by_rule
  offset-by-rule d e =
      ap (λ (o : Outcome Float). with_rule o (rule_on rows (gregorian_date d.day))) (sym (offset-of-day rows x y d e))
      ∙ passed_all (offset_of_date rows x y) (rule_of_date rows x y) _ (rule-of-day d e)

  pub offset-by-rule-refused : (k : ℕ) → day_number_and_fraction x y ≡ refusal k → refusal k ≡ offset_of_date_by_rule rows x y
  unfolding offset_of_date_by_rule
  offset-by-rule-refused k e = not_passed _ _ k (offset-no-date x y k e rows)

  -- where the offset with its rule is refused, so is the offset
  pub offset-forgets : forget (offset_of_date_by_rule rows x y) ≡ offset_of_date rows x y
  unfolding offset_of_date_by_rule rule_of_date offset_of_date
  offset-forgets = go (julian_to_calendar x y) refl
    where
      go : (w : Outcome CalendarFields) → julian_to_calendar x y ≡ w → forget (pass_on (offset_of_date rows x y) (rule_of_date rows x y))
          ≡ offset_of_date rows x y
      go (answer c) e = passed_forgets _ _ _ (went _ e)
      go (refusal k) e = refused-forgets _ _ k (stopped _ e)

  pub offset-refused : (k : ℕ) → offset_of_date_by_rule rows x y ≡ refusal k → offset_of_date rows x y ≡ refusal k
  unfolding forget
  offset-refused k e = sym offset-forgets ∙ stopped _ e

  pub offset-answered : (a : Float) (s : Rule) → offset_of_date_by_rule rows x y ≡ answer (a, s) → (offset_of_date rows x y ≡ answer a)
      × (rule_of_date rows x y ≡ answer s)
  unfolding offset_of_date_by_rule
  offset-answered a s e = taken-apart (offset_of_date rows x y) (rule_of_date rows x y) a s e

-- ---- the same of an answer that is equal to the one that passes its rule on
pub with_passed : {A : Type 0} (o o' : Outcome A) (q : Outcome Rule) (r : Rule) → o ≡ o' → q ≡ answer r → with_rule o r ≡ pass_on o' q
with_passed {A} o o' q r p e = ap (λ (x : Outcome A). with_rule x r) p ∙ passed_all o' q r e
