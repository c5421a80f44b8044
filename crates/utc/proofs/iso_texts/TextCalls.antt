-- The text calls, each by what the call before it answered: a refusal is handed on and writes nothing, and a text is put. Assumes nothing.
use mathlib.Core.Path.{◌≡◌, refl, sym, subst}
use Prim.Native.Nat.{ℕ}
use mathlib.Core.List.{List}
use lib.IntN.{pos}
use lib.Ieee.{Float}
use Rattle.std.specs.Prelude.{Result}
use Rattle.refusals.specs.declared.Refusal.{Refusal}
use Rattle.refusals.specs.Outcome.{Outcome, answer, refusal, onward, outcome}
use Rattle.calendar.specs.declared.CalendarDate.{CalendarDate}
use Rattle.calendar.specs.Refusals.{next_of}
use Rattle.julian.specs.declared.JulianDate.{JulianDate}
use Rattle.julian.specs.declared.CalendarFields.{CalendarFields}
use Rattle.julian.specs.Calendar.{julian_to_calendar}
use Rattle.leap_table.specs.rows.Table.{Row}
use Rattle.leap_table.specs.offsets.Leap.{leap_at_end_of_day}
use Rattle.time_of_day.specs.declared.TimeOfDay.{TimeOfDay}
use Rattle.time_of_day.specs.TimeShown.{shown_by}
use Rattle.utc.specs.text.Answer.{TextPut}
use Rattle.utc.specs.iso_texts.TextForm.{TextForm}
use Rattle.utc.specs.iso_texts.IsoText.{midnight, next_midnight_text_by, shown_text_by, day_text_by, day_text, iso_text_by, iso_text, standard_form}
use Rattle.utc.specs.iso_texts.TextCall.{written, buffer_holds, TextCall}

pub call-refused : (o : Outcome (List ℕ)) (k : ℕ) (l : List ℕ) (r : Result ℕ Refusal) → outcome r ≡ refusal k → o ≡ refusal k → TextCall o l r l
unfolding written buffer_holds onward
call-refused o k l r p e = subst (λ (x : Outcome (List ℕ)). TextCall x l r l) (sym e) (record { says = p; holds = refl })

pub call-put : (o : Outcome (List ℕ)) (t l out : List ℕ) (r : Result ℕ Refusal) → o ≡ answer t → TextPut t l r out → TextCall o l r out
unfolding written buffer_holds onward
call-put o t l out r e p = subst (λ (x : Outcome (List ℕ)). TextCall x l r out) (sym e) (record { says = p.says; holds = p.holds })

pub call-as : (o x : Outcome (List ℕ)) (l out : List ℕ) (r : Result ℕ Refusal) → o ≡ x → TextCall x l r out → TextCall o l r out
call-as o x l out r e p = subst (λ (x : Outcome (List ℕ)). TextCall x l r out) (sym e) p

-- ---- the next date's midnight, by a way to write a date and a time
module _ (write : CalendarDate → TimeOfDay → List ℕ) (d : CalendarDate) where
  pub next-refused : (k : ℕ) → next_of d.year (pos d.month) (pos d.day) ≡ refusal k → next_midnight_text_by write d ≡ refusal k
  unfolding next_midnight_text_by onward
  next-refused k e = rw e

  pub next-given : (t : CalendarDate) → next_of d.year (pos d.month) (pos d.day) ≡ answer t → next_midnight_text_by write d ≡ answer (write t midnight)
  unfolding next_midnight_text_by onward
  next-given t e = rw e

-- ---- in any form
module _ (textForm : TextForm) (rows : List Row) where
  -- the day's leap
  module _ (d : CalendarDate) (f : Float) where
    pub leap-refused : (k : ℕ) → leap_at_end_of_day rows d.year (pos d.month) (pos d.day) ≡ refusal k → day_text_by textForm rows d f ≡ refusal k
    unfolding day_text_by onward
    leap-refused k e = rw e

    pub leap-given : (x : Float) → leap_at_end_of_day rows d.year (pos d.month) (pos d.day) ≡ answer x
        → day_text_by textForm rows d f ≡ shown_text_by textForm.write d (shown_by textForm.count f x)
    unfolding day_text_by onward
    leap-given x e = rw e

  -- the calendar's fields
  pub fields-refused-by : (jd : JulianDate) (k : ℕ) → julian_to_calendar jd.jd1 jd.jd2 ≡ refusal k → iso_text_by textForm rows jd ≡ refusal k
  unfolding iso_text_by onward
  fields-refused-by jd k e = rw e

  pub fields-given-by : (jd : JulianDate) (c : CalendarFields) → julian_to_calendar jd.jd1 jd.jd2 ≡ answer c
      → iso_text_by textForm rows jd ≡ day_text_by textForm rows c.date c.fraction
  unfolding iso_text_by onward
  fields-given-by jd c e = rw e

-- ---- by document 01's
module _ (rows : List Row) (jd : JulianDate) where
  pub fields-given : (c : CalendarFields) → julian_to_calendar jd.jd1 jd.jd2 ≡ answer c → iso_text rows jd ≡ day_text rows c.date c.fraction
  fields-given c e = fields-given-by standard_form rows jd c e
