-- What demand 3 needs of a form of text: its count is near the exact time of day, and what it writes reads back and has the promised form. Written from demand
-- 3 and document 01, "UTC text". Assumes nothing.
use Rattle.std.specs.Prelude.{ℕ, ◌*◌, ◌^◌, ◌<◌, Float}
use Rattle.calendar.specs.declared.CalendarDate.{CalendarDate}
use Rattle.julian.specs.day_number.ExactDay.{fraction_of}
use Rattle.time_of_day.specs.declared.TimeOfDay.{TimeOfDay}
use Rattle.time_of_day.specs.Milliseconds.{whole_leap}
use Rattle.time_of_day.specs.ExactTime.{Leap, DayLength, TimeWithin}
use Rattle.utc.specs.text.ReadBack.{ReadsAs, Writable}
use Rattle.utc.specs.iso_texts.TextForm.{TextForm}
use Rattle.utc.specs.laws.Shows.{Promise}

pub record GoodForm (textForm : TextForm) (p : Promise) : Type 0 where
  pub near : (F : ℕ) → F < 2 ^ 52 → (leap : Float) → Leap leap → (W E : ℕ) → 0 < E → DayLength leap W E
      → TimeWithin (p.c leap) (p.e leap) (textForm.count (fraction_of F) (whole_leap leap) * E) F (2 ^ 52) W E
  pub reads : (d : CalendarDate) (u : TimeOfDay) → Writable d u → ReadsAs (textForm.write d u) d u
  pub form : (d : CalendarDate) (u : TimeOfDay) → Writable d u → p.Form (textForm.write d u)
