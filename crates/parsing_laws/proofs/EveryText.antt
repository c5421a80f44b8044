-- EVERY UTC TEXT THAT WE WRITE, of whatever two floats, and whose shown year is 1972 to 9999, is read as the fields that it shows, with their date: in any form
-- whose years of four digits are document 01's, for every table that is taken. Assumes nothing.
use Prim.Native.Nat.{ℕ, ◌+◌, ◌*◌, ◌≤◌, ◌<◌}
use native.Mathlib.Omega.{arith}
use mathlib.Core.Path.{◌≡◌, refl, sym, ap, ◌∙◌, subst}
use mathlib.Core.Bool.{Bool, true, false, true≢false, cond}
use mathlib.Core.List.{List, ◌∷◌, ◌++◌}
use lib.Dec.{T, ltb, lit<}
use lib.IntN.{ℤ, pos, negsuc}
use lib.Signed.{lt_z}
use lib.Ieee.{Float, binary64, fits, lt}
use borrow.Author.Tests.{lt-ltb, ltb-true, ltb-false}
use Rattle.refusals.specs.Outcome.{Outcome, answer, refusal, onward}
use Rattle.floats.specs.Whole.{nought}
use Rattle.constants.specs.Constants.{decimal}
use Rattle.calendar.specs.declared.CalendarDate.{CalendarDate}
use Rattle.calendar.specs.Calendar.{next, date_of}
use Rattle.calendar.specs.Refusals.{next_of}
use Rattle.calendar.proofs.Accepted.{date-accepted}
use Rattle.calendar.proofs.Gregorian.{gregorian_is_date_of_day}
use Rattle.calendar.proofs.NextDates.{next-is, next-accepted}
use Rattle.calendar.proofs.Years.{DateInRange, gregorian_in_range, valid_of, from-lower, gregorian_valid}
use Rattle.julian.specs.declared.JulianDate.{JulianDate}
use Rattle.julian.specs.declared.CalendarFields.{CalendarFields}
use Rattle.julian.specs.Calendar.{julian_to_calendar}
use Rattle.julian.specs.laws.CalendarAnswers.{FieldsInRange}
use Rattle.julian.proofs.laws.CalendarDays.{answered-in-range, not_above}
use Rattle.leap_table.specs.declared.rows.AnnouncedRows.{AnnouncedRows}
use Rattle.leap_table.specs.rows.Table.{Row}
use Rattle.leap_table.specs.rows.Announced.{table_of}
use Rattle.leap_table.specs.offsets.Leap.{leap_at_end_of_day}
use Rattle.leap_table.proofs.offsets.Days.{leap-came}
use Rattle.time_of_day.specs.declared.TimeOfDay.{TimeOfDay}
use Rattle.time_of_day.specs.declared.TimeShown.TheVariants.{At, NextMidnight}
use Rattle.time_of_day.specs.Milliseconds.{whole_leap}
use Rattle.time_of_day.specs.TimeShown.{time_of, day_end, shown_at, shown_by}
use Rattle.time_of_day.specs.ExactTime.{GoodTime}
use Rattle.time_of_day.proofs.Fields.{good-time}
use Rattle.utc.specs.text.Text.{four, five, six, seven, after_year, year_text, utc_text}
use Rattle.utc.specs.text.Expanded.{expanded_year, expanded_text}
use Rattle.utc.specs.text.ReadBack.{ReadsAs, Writable, read_year, read_month, read_day, read_hour, read_minute, read_second, read_milli}
use Rattle.utc.specs.iso_texts.TextForm.{TextForm}
use Rattle.utc.specs.iso_texts.IsoText.{midnight, shown_text_by, day_text_by, iso_text_by, iso_text, standard_form}
use Rattle.utc.specs.iso_texts.Expanded.{expanded_form, iso_text_expanded}
use Rattle.utc.specs.iso_texts.HalfEven.{half_even_form, iso_text_half_even}
use Rattle.utc.specs.laws.GoodForm.{GoodForm}
use Rattle.utc.specs.laws.Shows.{Promise, promise01}
use Rattle.utc.specs.laws.Promises.{expanded_promise, even_promise}
use Rattle.utc.specs.FromCalendar.{utc_from_calendar}
use Rattle.utc.proofs.laws.DayTexts.{leap_on, has-leap}
use Rattle.utc.proofs.laws.TextForms.{good01}
use Rattle.utc.proofs.laws.ExpandedTexts.{expanded-good}
use Rattle.utc.proofs.laws.HalfEvenTexts.{even-good}
use Rattle.utc.proofs.laws.ShownDates as Dates
use Rattle.utc.proofs.iso_texts.TextCalls.{next-given}
use Rattle.parsing.specs.declared.ParsedDateTime.{ParsedDateTime}
use Rattle.parsing.specs.Parsed.{fields_of, parsed_utc}
use Rattle.parsing_laws.specs.Shown.{fields_shown, with_date, YearShown, ReadsBack, FourDigits}
use Rattle.parsing_laws.proofs.ReadBack.{as_written}
use Rattle.parsing_laws.proofs.UtcReadBack.{Back, utc-reads-back}

-- ---- what a text is written from: a date of the calendar with its leap, and a count of milliseconds below the end of its day
pub record WrittenFrom (textForm : TextForm) (rows : List Row) (s : List ℕ) : Type 0 where
  pub date : CalendarDate
  pub millis : ℕ
  pub leap : Float
  pub text : s ≡ textForm.write date (time_of millis)
  pub range : DateInRange date
  pub valid : valid_of date ≡ answer tt
  pub leap_is : leap_at_end_of_day rows date.year (pos date.month) (pos date.day) ≡ answer leap
  pub in-day : millis < day_end (whole_leap leap)

pub good-fields : {textForm : TextForm} {rows : List Row} {s : List ℕ} (w : WrittenFrom textForm rows s) → GoodTime (time_of w.millis) (whole_leap w.leap)
good-fields w = good-time w.millis (whole_leap w.leap) w.in-day

-- midnight is in every day
from-midnight : (l : Float) → 0 < day_end l
unfolding day_end
from-midnight l = go (lt nought l) (lt l nought)
  where
    go : (a b : Bool) → 0 < cond a 86401000 (cond b 86399000 86400000)
    go true b = lit< tt
    go false true = lit< tt
    go false false = lit< tt

at_midnight : midnight ≡ time_of 0
unfolding time_of
at_midnight = refl

module _ (textForm : TextForm) (rows : List Row) (jd : JulianDate) (f1 : T (fits binary64 jd.jd1)) (f2 : T (fits binary64 jd.jd2)) (s : List ℕ) where
  module _ (c : CalendarFields) (given : julian_to_calendar jd.jd1 jd.jd2 ≡ answer c) (x : Float)
      (leap : leap_at_end_of_day rows c.date.year (pos c.date.month) (pos c.date.day) ≡ answer x) where
    abbrev r : FieldsInRange c
    r = answered-in-range jd.jd1 jd.jd2 f1 f2 c given

    in_range : DateInRange c.date
    in_range = subst DateInRange (sym r.date) (gregorian_in_range r.day)

    has_next : (n : CalendarDate) × (next_of c.date.year (pos c.date.month) (pos c.date.day) ≡ answer n)
    has_next = let (n, p, q) = leap-came rows c.date.year (pos c.date.month) (pos c.date.day) x leap in (n, p)

    valid : valid_of c.date ≡ answer tt
    valid = (next-is c.date.year (pos c.date.month) (pos c.date.day) has_next.0 has_next.1).0

    -- the day's own number is from the first that has a text
    from_first : lt_z r.day (negsuc 31737) ≡ false
    from_first = go (lt_z r.day (negsuc 31737)) refl
      where
        go : (b : Bool) → lt_z r.day (negsuc 31737) ≡ b → lt_z r.day (negsuc 31737) ≡ false
        go false e = e
        go true e =
            let k : refusal 1 ≡ answer tt = sym (gregorian_valid r.day ∙ ap (λ (b : Bool). cond b (refusal 1) (answer tt)) e) ∙ ap valid_of (sym r.date)
            ∙ valid in
            let z : ◌≡◌ {A = ℕ} 0 1 = cc in
            absurd (omega arith)

    is-date-of : c.date ≡ date_of r.day
    is-date-of = r.date ∙ gregorian_is_date_of_day r.day (from-lower r.day from_first) (not_above r.day r.in-days.top)

    next-range : DateInRange has_next.0
    next-range =
        subst DateInRange (sym ((next-is c.date.year (pos c.date.month) (pos c.date.day) has_next.0 has_next.1).1 ∙ ap next is-date-of))
        (Dates.next-in-range r.day (subst (λ (d : CalendarDate). lt_z d.year (negsuc 4798) ≡ false) is-date-of
        (date-accepted c.date.year (pos c.date.month) (pos c.date.day) valid).year) r.in-days)

    next-valid : valid_of has_next.0 ≡ answer tt
    next-valid = next-accepted c.date.year (pos c.date.month) (pos c.date.day) has_next.0 has_next.1

    -- a time of the day itself, or the midnight that ends it
    on-day : (k : ℕ) → k < day_end (whole_leap x) → shown_text_by textForm.write c.date (At (time_of k)) ≡ answer s → WrittenFrom textForm rows s
    unfolding shown_text_by
    on-day k h e = record { date = c.date; millis = k; leap = x; text = cc; range = in_range; valid = valid; leap_is = leap; in-day = h }

    next-day : shown_text_by textForm.write c.date NextMidnight ≡ answer s → WrittenFrom textForm rows s
    unfolding shown_text_by
    next-day e =
        let k : answer (textForm.write has_next.0 midnight) ≡ answer s = sym (next-given textForm.write c.date has_next.0 has_next.1) ∙ e in
        let g : s ≡ textForm.write has_next.0 midnight = cc in
        record {
          date = has_next.0;
          millis = 0;
          leap = leap_on rows has_next.0 next-valid next-range.year_high;
          text = g ∙ ap (textForm.write has_next.0) at_midnight;
          range = next-range;
          valid = next-valid;
          leap_is = has-leap rows has_next.0 next-valid next-range.year_high;
          in-day = from-midnight (whole_leap (leap_on rows has_next.0 next-valid next-range.year_high));
        }

    of_count : (k : ℕ) → shown_text_by textForm.write c.date (shown_at (whole_leap x) k) ≡ answer s → WrittenFrom textForm rows s
    unfolding shown_at
    of_count k = go (ltb k (day_end (whole_leap x))) refl
      where
        go : (b : Bool) → ltb k (day_end (whole_leap x)) ≡ b → shown_text_by textForm.write c.date (cond b (At (time_of k)) NextMidnight) ≡ answer s
            → WrittenFrom textForm rows s
        go true h e = on-day k (ltb-true _ _ h) e
        go false h e = next-day e

  pub written_from : iso_text_by textForm rows jd ≡ answer s → WrittenFrom textForm rows s
  unfolding iso_text_by day_text_by onward shown_by
  written_from = from_fields (julian_to_calendar jd.jd1 jd.jd2) refl
    where
      from-leap : (c : CalendarFields) → julian_to_calendar jd.jd1 jd.jd2 ≡ answer c → (o : Outcome Float)
          → leap_at_end_of_day rows c.date.year (pos c.date.month) (pos c.date.day) ≡ o
          → onward o (λ leap. shown_text_by textForm.write c.date (shown_by textForm.count c.fraction leap)) ≡ answer s → WrittenFrom textForm rows s
      from-leap c g (answer x) h e = of_count c g x h (textForm.count c.fraction (whole_leap x)) e
      from-leap c g (refusal k) h e = let z : ◌≡◌ {A = ℕ} 0 1 = cc in absurd (omega arith)

      from_fields : (o : Outcome CalendarFields) → julian_to_calendar jd.jd1 jd.jd2 ≡ o
          → onward o (λ c. day_text_by textForm rows c.date c.fraction) ≡ answer s → WrittenFrom textForm rows s
      from_fields (answer c) h e = from-leap c h (leap_at_end_of_day rows c.date.year (pos c.date.month) (pos c.date.day)) refl e
      from_fields (refusal k) h e = let z : ◌≡◌ {A = ℕ} 0 1 = cc in absurd (omega arith)

-- ---- THE LAW, in any good form
writable : {textForm : TextForm} {rows : List Row} {s : List ℕ} (w : WrittenFrom textForm rows s) → Writable w.date (time_of w.millis)
writable w =
    let g = good-fields w in
    record {
      year_low = w.range.year_low;
      year_high = w.range.year_high;
      month = w.range.month-high;
      day = w.range.day-high;
      hour = g.hour;
      minute = g.minute;
      second = g.second;
      milli = g.milli;
    }

-- a year from 1972 to 9999 is a number
as_number : (z : ℤ) → lt_z z (pos 1972) ≡ false → lt_z (pos 9999) z ≡ false → (y : ℕ) × (z ≡ pos y) × (1972 ≤ y) × (y ≤ 9999)
as_number (pos n) h k = (n, refl, ltb-false n 1972 h, ltb-false 9999 n k)
as_number (negsuc n) h k = absurd (true≢false h)

module _ (textForm : TextForm) (p : Promise) (good : GoodForm textForm p) (rows : List Row) (s : List ℕ) (shown : YearShown s)
    (w : WrittenFrom textForm rows s) where
  abbrev pub u : TimeOfDay
  u = time_of w.millis

  pub says : ReadsAs s w.date u
  says = subst (λ (l : List ℕ). ReadsAs l w.date u) (sym w.text) (good.reads w.date u (writable w))

  pub y-is : (y : ℕ) × (read_year s ≡ pos y) × (1972 ≤ y) × (y ≤ 9999)
  y-is = as_number (read_year s) shown.from shown.to

  abbrev pub y : ℕ
  y = y-is.0

  pub year : w.date.year ≡ pos y
  year = sym says.year ∙ y-is.1

  pub named : utc_from_calendar rows (read_year s) (read_month s) (read_day s) (read_hour s) (read_minute s) (decimal (1000 * read_second s + read_milli s) 3)
      ≡ utc_from_calendar rows (pos y) w.date.month w.date.day u.hour u.minute (decimal (1000 * u.second + u.milli) 3)
  named = λ i. utc_from_calendar rows (y-is.1 i) (says.month i) (says.day i) (says.hour i) (says.minute i)
      (decimal (1000 * says.second i + says.milli i) 3)

  same-fields : fields_shown s ≡ fields_of (as_written y w.date u)
  unfolding as_written
  same-fields = λ i. record {
    year = y-is.1 i;
    month = says.month i;
    day = says.day i;
    hour = says.hour i;
    minute = says.minute i;
    second =
        decimal (1000 * says.second i + says.milli i) 3;
  }

  module _ (plain : FourDigits textForm) (t : AnnouncedRows) (taken : table_of t ≡ answer rows) where
    back : Back rows w.date u y
    back = utc-reads-back t rows taken w.date u y w.leap year y-is.2 y-is.3 w.valid w.range.month-low w.range.month-high
        w.range.day-high w.leap_is (good-fields w)

    pub by-fields : ReadsBack rows s
    by-fields = record {
      date = back.date;
      accepted = named ∙ back.accepted;
      read = ap (parsed_utc rows) (w.text ∙ plain w.date u y year y-is.3) ∙ back.read
          ∙ sym (ap (λ (f : ParsedDateTime). answer (with_date f back.date)) same-fields);
    }

module _ (textForm : TextForm) (p : Promise) (good : GoodForm textForm p) (plain : FourDigits textForm) (t : AnnouncedRows) (rows : List Row)
    (taken : table_of t ≡ answer rows) where
  pub text-reads-back : (jd : JulianDate) → T (fits binary64 jd.jd1) → T (fits binary64 jd.jd2) → (s : List ℕ) → iso_text_by textForm rows jd ≡ answer s
      → YearShown s → ReadsBack rows s
  text-reads-back jd f1 f2 s e shown = by-fields textForm p good rows s shown (written_from textForm rows jd f1 f2 s e) plain t taken

-- ---- the three forms of text
pub as_01 : FourDigits standard_form
as_01 d u y e h = refl

pub expanded-as-01 : FourDigits expanded_form
unfolding expanded_text utc_text expanded_year year_text
expanded-as-01 d u y e h =
    ap (λ (z : ℤ). expanded_year z ++ after_year d u) e
    ∙ ap (λ (b : Bool). cond b (four y) (43 ∷ seven y) ++ after_year d u) (lt-ltb y 10000 (omega arith))
    ∙ sym (ap (λ (z : ℤ). year_text z ++ after_year d u) e
    ∙ ap (λ (b : Bool). cond b (four y) (cond (ltb y 100000) (five y) (cond (ltb y 1000000) (six y) (seven y))) ++ after_year d u)
    (lt-ltb y 10000 (omega arith)))

module _ (t : AnnouncedRows) (rows : List Row) (taken : table_of t ≡ answer rows) (jd : JulianDate) (f1 : T (fits binary64 jd.jd1))
    (f2 : T (fits binary64 jd.jd2)) (s : List ℕ) (shown : YearShown s) where
  -- document 01's
  pub iso_text_reads_back : iso_text rows jd ≡ answer s → ReadsBack rows s
  iso_text_reads_back e = text-reads-back standard_form promise01 good01 as_01 t rows taken jd f1 f2 s e shown

  -- request 4's
  pub half-even-text-reads-back : iso_text_half_even rows jd ≡ answer s → ReadsBack rows s
  half-even-text-reads-back e = text-reads-back half_even_form even_promise even-good as_01 t rows taken jd f1 f2 s e shown

  -- request 6's
  pub expanded-text-reads-back : iso_text_expanded rows jd ≡ answer s → ReadsBack rows s
  expanded-text-reads-back e = text-reads-back expanded_form expanded_promise expanded-good expanded-as-01 t rows taken jd f1 f2 s e shown

-- what `from_str` answers of it under that table
pub from-str-answers : (t : AnnouncedRows) (rows : List Row) → table_of t ≡ answer rows → (s : List ℕ) (b : ReadsBack rows s)
    → onward (table_of t) (λ rows. parsed_utc rows s) ≡ answer (with_date (fields_shown s) b.date)
unfolding onward
from-str-answers t rows taken s b = rw taken b.read
