-- Which numbers a text can be refused with, over all floats: 6 and 1, and 11 for the buffer; parts that are not finite are refused with 6. For any table of
-- rows. Assumes nothing.
use mathlib.Core.Path.{◌≡◌, refl, sym, ◌∙◌, subst}
use mathlib.Core.Bool.{Bool, true, false, cond, ◌&&◌, true≢false}
use mathlib.Core.Logic.{◌⊎◌, inl, inr}
use mathlib.Core.List.{List}
use Prim.Native.Nat.{ℕ}
use native.Mathlib.Omega.{arith}
use lib.Dec.{T, leb}
use lib.ListN.{length}
use lib.Ieee.{Float}
use lib.Ieee.Scale.{finite}
use Rattle.std.specs.Prelude.{Err}
use Rattle.refusals.specs.declared.Refusal.{Refusal}
use Rattle.refusals.specs.Refusal.{refusal_number}
use Rattle.refusals.specs.Outcome.{Outcome, answer, refusal, onward, outcome}
use Rattle.calendar.specs.declared.CalendarDate.{CalendarDate}
use Rattle.calendar.proofs.Years.{valid_of, gregorian_refusal}
use Rattle.julian.specs.day_number.DayNumber.{accepted}
use Rattle.julian.proofs.day_number.Answer.{refused}
use Rattle.julian.proofs.day_number.JulianRange.{accepted-finite}
use Rattle.julian.specs.declared.JulianDate.{JulianDate}
use Rattle.julian.specs.declared.CalendarFields.{CalendarFields}
use Rattle.julian.specs.Calendar.{julian_to_calendar}
use Rattle.julian.proofs.laws.CalendarDays.{only-six}
use Rattle.leap_table.specs.rows.Table.{Row}
use Rattle.utc.specs.text.Answer.{text_written}
use Rattle.utc.specs.iso_texts.TextForm.{TextForm}
use Rattle.utc.specs.iso_texts.IsoText.{iso_text_by, iso_text, standard_form}
use Rattle.utc.specs.iso_texts.TextCall.{written, TextCall}
use Rattle.julian.proofs.Dates.{day-of, date-in-range}
use Rattle.utc.proofs.iso_texts.TextCalls.{fields-refused-by, fields-given-by}
use Rattle.utc.proofs.laws.DayTexts.{text-refused-by, has-text-by}

pub not_both : {A : Type 0} (o : Outcome A) (a : A) (n : ℕ) → o ≡ answer a → o ≡ refusal n → ⊥
not_both o a n p q = let z : ◌≡◌ {A = ℕ} 0 1 = cc in omega arith

pub one_number : {A : Type 0} (o : Outcome A) (m n : ℕ) → o ≡ refusal m → o ≡ refusal n → m ≡ n
one_number o m n p q = cc

-- the refusal of the date that an answer has
pub date-refusal : (x y : Float) (c : CalendarFields) → julian_to_calendar x y ≡ answer c → (valid_of c.date ≡ answer tt) ⊎ (valid_of c.date ≡ refusal 1)
date-refusal x y c e = let (n, p) =
    day-of x y c e in subst (λ (d : CalendarDate). (valid_of d ≡ answer tt) ⊎ (valid_of d ≡ refusal 1)) (sym p) (gregorian_refusal n)

-- THE NUMBERS of a text in any form, before the buffer is looked at
pub text-numbers-by : (textForm : TextForm) (rows : List Row) (jd : JulianDate) (k : ℕ) → iso_text_by textForm rows jd ≡ refusal k → (k ≡ 6) ⊎ (k ≡ 1)
text-numbers-by textForm rows jd k e = go (julian_to_calendar jd.jd1 jd.jd2) refl
  where
    go : (o : Outcome CalendarFields) → julian_to_calendar jd.jd1 jd.jd2 ≡ o → (k ≡ 6) ⊎ (k ≡ 1)
    go (refusal n) p = inl (one_number (iso_text_by textForm rows jd) k n e (fields-refused-by textForm rows jd n p) ∙ only-six jd.jd1 jd.jd2 n p)
    go (answer c) p = by-date (date-refusal jd.jd1 jd.jd2 c p)
      where
        by-date : (valid_of c.date ≡ answer tt) ⊎ (valid_of c.date ≡ refusal 1) → (k ≡ 6) ⊎ (k ≡ 1)
        by-date (inl v) = absurd (not_both (iso_text_by textForm rows jd) _ k
            (fields-given-by textForm rows jd c p ∙ has-text-by rows c.date v (date-in-range jd.jd1 jd.jd2 c p).year_high textForm c.fraction) e)
        by-date (inr v) = inr (one_number (iso_text_by textForm rows jd) k 1 e
            (fields-given-by textForm rows jd c p ∙ text-refused-by rows c.date textForm c.fraction 1 v))

-- and of a call
pub call-numbers-by : (textForm : TextForm) (rows : List Row) (jd : JulianDate) (l out : List ℕ) (k : Refusal)
    → TextCall (iso_text_by textForm rows jd) l (Err k) out → (refusal_number k ≡ 6) ⊎ ((refusal_number k ≡ 1) ⊎ (refusal_number k ≡ 11))
unfolding outcome written text_written onward
call-numbers-by textForm rows jd l out k c = go (iso_text_by textForm rows jd) refl c.says
  where
    longer : (t : List ℕ) (b : Bool) → refusal (refusal_number k) ≡ cond b (answer (length t)) (refusal 11) → refusal_number k ≡ 11
    longer t true e = absurd (not_both (refusal (refusal_number k)) _ (refusal_number k) e refl)
    longer t false e = cc

    first : (refusal_number k ≡ 6) ⊎ (refusal_number k ≡ 1) → (refusal_number k ≡ 6) ⊎ ((refusal_number k ≡ 1) ⊎ (refusal_number k ≡ 11))
    first (inl p) = inl p
    first (inr p) = inr (inl p)

    go : (o : Outcome (List ℕ)) → iso_text_by textForm rows jd ≡ o → refusal (refusal_number k) ≡ onward o (λ t. text_written t (length l))
        → (refusal_number k ≡ 6) ⊎ ((refusal_number k ≡ 1) ⊎ (refusal_number k ≡ 11))
    go (answer t) p e = inr (inr (longer t (leb (length t) (length l)) e))
    go (refusal n) p e =
        let q : n ≡ refusal_number k = cc in
        first (text-numbers-by textForm rows jd (refusal_number k) (subst (λ (j : ℕ). iso_text_by textForm rows jd ≡ refusal j) q p))

-- ---- DEMAND 1: a part that is not finite is refused with 6
pub not_finite_by : (textForm : TextForm) (rows : List Row) (jd : JulianDate) → finite jd.jd1 && finite jd.jd2 ≡ false
    → iso_text_by textForm rows jd ≡ refusal 6
unfolding julian_to_calendar onward
not_finite_by textForm rows jd e = go (accepted jd.jd1 jd.jd2) refl
  where
    both : (a b : Bool) → T a → T b → a && b ≡ false → ⊥
    both true true s t q = true≢false q
    both true false s t q = absurd t
    both false b s t q = absurd s

    go : (b : Bool) → accepted jd.jd1 jd.jd2 ≡ b → iso_text_by textForm rows jd ≡ refusal 6
    go true h = let (s, t) = accepted-finite jd.jd1 jd.jd2 h in absurd (both (finite jd.jd1) (finite jd.jd2) s t e)
    go false h = fields-refused-by textForm rows jd 6 (rw (refused jd.jd1 jd.jd2 h))

-- ---- every form of text refuses alike
pub refused-alike : (textForm other : TextForm) (rows : List Row) (jd : JulianDate) (k : ℕ) → iso_text_by textForm rows jd ≡ refusal k
    → iso_text_by other rows jd ≡ refusal k
refused-alike textForm other rows jd k e = go (julian_to_calendar jd.jd1 jd.jd2) refl
  where
    both : (n : ℕ) → iso_text_by textForm rows jd ≡ refusal n → iso_text_by other rows jd ≡ refusal n → iso_text_by other rows jd ≡ refusal k
    both n p q = subst (λ (j : ℕ). iso_text_by other rows jd ≡ refusal j) (one_number (iso_text_by textForm rows jd) n k p e) q

    go : (o : Outcome CalendarFields) → julian_to_calendar jd.jd1 jd.jd2 ≡ o → iso_text_by other rows jd ≡ refusal k
    go (refusal n) p = both n (fields-refused-by textForm rows jd n p) (fields-refused-by other rows jd n p)
    go (answer c) p = by-date (date-refusal jd.jd1 jd.jd2 c p)
      where
        by-date : (valid_of c.date ≡ answer tt) ⊎ (valid_of c.date ≡ refusal 1) → iso_text_by other rows jd ≡ refusal k
        by-date (inl v) =
            absurd (not_both (iso_text_by textForm rows jd) _ k
            (fields-given-by textForm rows jd c p
            ∙ has-text-by rows c.date v (date-in-range jd.jd1 jd.jd2 c p).year_high textForm c.fraction) e)
        by-date (inr v) = both 1 (fields-given-by textForm rows jd c p ∙ text-refused-by rows c.date textForm c.fraction 1 v)
            (fields-given-by other rows jd c p ∙ text-refused-by rows c.date other c.fraction 1 v)

-- ---- of document 01's

pub call-numbers : (rows : List Row) (jd : JulianDate) (l out : List ℕ) (k : Refusal) → TextCall (iso_text rows jd) l (Err k) out
    → (refusal_number k ≡ 6) ⊎ ((refusal_number k ≡ 1) ⊎ (refusal_number k ≡ 11))
call-numbers = call-numbers-by standard_form

pub not_finite : (rows : List Row) (jd : JulianDate) → finite jd.jd1 && finite jd.jd2 ≡ false → iso_text rows jd ≡ refusal 6
not_finite = not_finite_by standard_form
