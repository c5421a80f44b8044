-- What holds of every date and time that a form of text writes holds of every text, over all floats and any table of rows: so document 01's texts have 23 to 26
-- bytes. Assumes nothing.
use mathlib.Core.Path.{◌≡◌, refl, sym, ◌∙◌, subst}
use mathlib.Core.Logic.{◌⊎◌, inl, inr}
use mathlib.Core.List.{List}
use Prim.Native.Nat.{ℕ, ◌≤◌}
use lib.ListN.{length}
use Rattle.std.specs.Prelude.{Ok}
use Rattle.refusals.specs.Outcome.{Outcome, answer, refusal}
use Rattle.calendar.specs.declared.CalendarDate.{CalendarDate}
use Rattle.calendar.specs.Calendar.{next}
use Rattle.calendar.proofs.Years.{valid_of}
use Rattle.julian.specs.declared.JulianDate.{JulianDate}
use Rattle.julian.specs.declared.CalendarFields.{CalendarFields}
use Rattle.julian.specs.Calendar.{julian_to_calendar}
use Rattle.leap_table.specs.rows.Table.{Row}
use Rattle.time_of_day.specs.declared.TimeOfDay.{TimeOfDay}
use Rattle.time_of_day.specs.declared.TimeShown.{TimeShown}
use Rattle.time_of_day.specs.declared.TimeShown.TheVariants.{At, NextMidnight}
use Rattle.time_of_day.specs.TimeShown.{shown_by}
use Rattle.utc.proofs.text.ReadBack as Read
use Rattle.utc.specs.iso_texts.TextForm.{TextForm}
use Rattle.utc.specs.iso_texts.IsoText.{midnight, iso_text_by, iso_text, standard_form}
use Rattle.utc.specs.iso_texts.TextCall.{TextCall}
use Rattle.julian.proofs.Dates.{date-in-range}
use Rattle.utc.proofs.iso_texts.TextCalls.{fields-refused-by, fields-given-by}
use Rattle.utc.proofs.laws.DayTexts.{text_by, text-refused-by, leap_on, has-text-by}
use Rattle.utc.proofs.laws.Numbers.{not_both, date-refusal}
use Rattle.utc.proofs.laws.Alike.{text-put}

module _ (textForm : TextForm) (P : List ℕ → Type 0) (each : (d : CalendarDate) (u : TimeOfDay) → P (textForm.write d u)) (rows : List Row)
    (jd : JulianDate) where
  shown : (d : CalendarDate) (r : TimeShown) → P (text_by textForm.write d r)
  shown d (At u) = each d u
  shown d NextMidnight = each (next d) midnight

  pub every_text : (t : List ℕ) → iso_text_by textForm rows jd ≡ answer t → P t
  every_text t e = go (julian_to_calendar jd.jd1 jd.jd2) refl
    where
      go : (o : Outcome CalendarFields) → julian_to_calendar jd.jd1 jd.jd2 ≡ o → P t
      go (refusal n) p = absurd (not_both (iso_text_by textForm rows jd) t n e (fields-refused-by textForm rows jd n p))
      go (answer c) p = by-date (date-refusal jd.jd1 jd.jd2 c p)
        where
          same : (s : List ℕ) → iso_text_by textForm rows jd ≡ answer s → s ≡ t
          same s q = cc

          by-date : (valid_of c.date ≡ answer tt) ⊎ (valid_of c.date ≡ refusal 1) → P t
          by-date (inl v) =
              let h = (date-in-range jd.jd1 jd.jd2 c p).year_high in
              let r = shown_by textForm.count c.fraction (leap_on rows c.date v h) in
              subst P (same (text_by textForm.write c.date r)
              (fields-given-by textForm rows jd c p ∙ has-text-by rows c.date v h textForm c.fraction)) (shown c.date r)
          by-date (inr v) = absurd (not_both (iso_text_by textForm rows jd) t 1 e
              (fields-given-by textForm rows jd c p ∙ text-refused-by rows c.date textForm c.fraction 1 v))

  -- and what holds of its length holds of what a call says that it wrote
  pub every_call : (Q : ℕ → Type 0) → ((t : List ℕ) → P t → Q (length t)) → (l out : List ℕ) (n : ℕ) → TextCall (iso_text_by textForm rows jd) l (Ok n) out
      → Q n
  every_call Q f l out n c =
      let (t, p, q, s) = text-put (iso_text_by textForm rows jd) l out n c in
      subst Q (sym q) (f t (every_text t p))

-- ---- document 01's
abbrev pub Length01 : ℕ → Type 0
Length01 n = (23 ≤ n) × (n ≤ 26)

pub text-length : (rows : List Row) (jd : JulianDate) (t : List ℕ) → iso_text rows jd ≡ answer t → (23 ≤ length t) × (length t ≤ 26)
text-length = every_text standard_form (λ t. Length01 (length t)) Read.written-length

pub call_length : (rows : List Row) (jd : JulianDate) (l out : List ℕ) (n : ℕ) → TextCall (iso_text rows jd) l (Ok n) out → (23 ≤ n) × (n ≤ 26)
call_length rows jd = every_call standard_form (λ t. Length01 (length t)) Read.written-length rows jd Length01 (λ t h. h)
