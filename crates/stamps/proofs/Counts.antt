-- Which stamps are refused: those that have no day number, and those whose day is before -4799-01-01. Assumes nothing.
use Prim.Native.Nat.{ℕ}
use mathlib.Core.Path.{◌≡◌, refl, sym, ap, ◌∙◌}
use mathlib.Core.Bool.{Bool, true, false, cond}
use mathlib.Core.List.{List}
use lib.IntN.{ℤ, negsuc}
use lib.Signed.{lt_z}
use mir.Syntax.{w64}
use mir.Val.{SFits, to_z, of_z}
use mir.Facts.{to_z-of_z}
use Rattle.std.specs.Prelude.{Result, Ok, Err}
use Rattle.refusals.specs.declared.Refusal.{Refusal}
use Rattle.refusals.specs.Refusal.{refusal_number}
use Rattle.refusals.specs.Outcome.{answer, refusal, onward, outcome}
use Rattle.calendar.specs.Gregorian.{gregorian_date}
use Rattle.calendar.proofs.Years.{valid_of, gregorian_valid}
use Rattle.julian.specs.declared.day_number.DayNumber.{DayNumber}
use Rattle.julian.specs.day_number.Answer.{day_number_and_fraction}
use Rattle.julian.specs.declared.JulianDate.{JulianDate}
use Rattle.julian.specs.Calendar.{fields, julian_to_calendar}
use Rattle.leap_table.specs.rows.Table.{Row}
use Rattle.utc.specs.iso_texts.Expanded.{expanded_form, iso_text_expanded}
use Rattle.julian.proofs.Dates.{date-in-range}
use Rattle.utc.proofs.iso_texts.TextCalls.{fields-refused-by, fields-given-by}
use Rattle.utc.proofs.laws.DayTexts.{text-refused-by, has-text-by}
use Rattle.stamps.specs.Listing.{one_if_refused}

module _ (rows : List Row) (jd : JulianDate) (res : Result DayNumber Refusal) (e : outcome res ≡ day_number_and_fraction jd.jd1 jd.jd2) where
  pub day-refused : (k : Refusal) → res ≡ Err k → 1 ≡ one_if_refused (iso_text_expanded rows jd)
  unfolding outcome julian_to_calendar onward one_if_refused
  day-refused k is =
      let d : day_number_and_fraction jd.jd1 jd.jd2 ≡ refusal (refusal_number k) = sym e ∙ ap outcome is in
      sym (ap one_if_refused (fields-refused-by expanded_form rows jd (refusal_number k) (rw d refl)))

  pub day-given : (n : DayNumber) → res ≡ Ok n → cond (lt_z n.day (negsuc 31737)) 1 0 ≡ one_if_refused (iso_text_expanded rows jd)
  unfolding outcome julian_to_calendar onward one_if_refused
  day-given n is = by (lt_z n.day (negsuc 31737)) (gregorian_valid n.day)
    where
      given : julian_to_calendar jd.jd1 jd.jd2 ≡ answer (fields (gregorian_date n.day) n.fraction)
      given = let d : day_number_and_fraction jd.jd1 jd.jd2 ≡ answer n = sym e ∙ ap outcome is in rw d refl

      by : (b : Bool) → valid_of (gregorian_date n.day) ≡ cond b (refusal 1) (answer tt) → cond b 1 0 ≡ one_if_refused (iso_text_expanded rows jd)
      by true v = sym (ap one_if_refused
          (fields-given-by expanded_form rows jd _ given ∙ text-refused-by rows (gregorian_date n.day) expanded_form n.fraction 1 v))
      by false v =
          sym
          (ap one_if_refused (fields-given-by expanded_form rows jd _ given
          ∙ has-text-by rows (gregorian_date n.day) v (date-in-range jd.jd1 jd.jd2 _ given).year_high expanded_form n.fraction))

-- a day as the machine reads it back from its bits
pub day-test : (n : ℤ) (b : Bool) → SFits w64 n → lt_z (to_z w64 (of_z w64 n)) (negsuc 31737) ≡ b → ◌≡◌ {A = ℕ} (cond b 1 0) (cond (lt_z n (negsuc 31737)) 1 0)
day-test n b f e = ap (λ (x : Bool). cond {A = ℕ} x 1 0) (sym e ∙ ap (λ (z : ℤ). lt_z z (negsuc 31737)) (to_z-of_z f))
