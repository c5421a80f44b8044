-- THE SAME TEXT AGAIN: the date that a UTC text of ours is read as, where the shown year is 1972 to 9999, has that text, by each of the three forms of text and
-- for every table that is taken. Assumes nothing.
use mathlib.Core.Path.{◌≡◌, refl, sym, ap, ◌∙◌, subst}
use mathlib.Core.Bool.{Bool, true, false, cond}
use mathlib.Core.List.{List}
use Prim.Native.Nat.{ℕ, ◌+◌, ◌-◌, ◌*◌, ◌≤◌, ◌<◌}
use native.Mathlib.Nat.{mul_left_comm, mul-one, add-mul, one-mul, zero-mul, lt_of_mul-lt-mul_right}
use native.Mathlib.Omega.{arith}
use lib.Dec.{T, leb, ltb, lit<, lit≤}
use lib.IntN.{ℤ, pos, ◌+ℤ◌}
use lib.Signed.{lt_z}
use lib.Ieee.{Float, binary64, fits, round, of_int, of_bits, add, mul, div, lt, le, eq}
use lib.Ieee.Fits.{add-fits}
use borrow.Author.Tests.{lt-ltb, le-ltb, le-leb, ltb-true, ltb-false}
use Rattle.refusals.specs.Outcome.{answer, onward}
use Rattle.floats.specs.Whole.{nought, one, abs}
use Rattle.rounding.specs.Value.{Val, L, InUnit}
use Rattle.rounding.proofs.Value.{L-pos}
use Rattle.constants.specs.Constants.{decimal, seconds_per_day, mjd_zero_point}
use Rattle.calendar.specs.declared.CalendarDate.{CalendarDate}
use Rattle.calendar.specs.Calendar.{date}
use Rattle.calendar.specs.Gregorian.{gregorian_date}
use Rattle.calendar.specs.Refusals.{valid_date}
use Rattle.calendar.specs.DayCount.{march_count, civil_count, mjd_number, mjd_of}
use Rattle.calendar.proofs.Signs.{sub_at}
use Rattle.calendar.proofs.Mjd.{mjd-given, date-of-mjd, same_answer}
use Rattle.julian.specs.day_number.DayNumber.{day_of}
use Rattle.julian.proofs.day_number.Ends.{nought-fits}
use Rattle.julian.specs.declared.JulianDate.{JulianDate}
use Rattle.julian.specs.JulianDate.{julian, rounded_sum}
use Rattle.julian.specs.Calendar.{fields, at_time, from_calendar, julian_to_calendar}
use Rattle.julian.proofs.Midnights.{midnight-given}
use Rattle.julian.proofs.laws.RoundTrip.{midnight-fraction, round_trip_at_midnight}
use Rattle.julian.proofs.laws.CalendarDays.{fields-of}
use Rattle.utc_scales.proofs.round_trip.Fraction.{fraction-fits}
use Rattle.leap_table.specs.declared.rows.AnnouncedRows.{AnnouncedRows}
use Rattle.leap_table.specs.rows.Table.{Row}
use Rattle.leap_table.specs.rows.Announced.{table_of}
use Rattle.leap_table.specs.offsets.Leap.{leap_at_end_of_day}
use Rattle.time_of_day.specs.declared.TimeOfDay.{TimeOfDay}
use Rattle.time_of_day.specs.declared.TimeShown.TheVariants.{At, NextMidnight}
use Rattle.time_of_day.specs.Milliseconds.{whole_leap}
use Rattle.time_of_day.specs.TimeShown.{time_of, day_end, shown_at, shown_by}
use Rattle.time_of_day.specs.ExactTime.{minus_one_f, Leap, little, second, minus_second, DayLength}
use Rattle.time_of_day.proofs.Fields.{fields-ms}
use Rattle.utc.specs.text.ReadBack.{read_year}
use Rattle.utc.specs.iso_texts.TextForm.{TextForm}
use Rattle.utc.specs.laws.Shows.{Promise, promise01}
use Rattle.utc.specs.laws.Promises.{expanded_promise, even_promise}
use Rattle.utc.specs.laws.GoodForm.{GoodForm}
use Rattle.utc.specs.iso_texts.IsoText.{shown_text_by, iso_text_by, iso_text, standard_form}
use Rattle.utc.specs.iso_texts.Expanded.{expanded_form, iso_text_expanded}
use Rattle.utc.specs.iso_texts.HalfEven.{half_even_form, iso_text_half_even}
use Rattle.utc.specs.FromCalendar.{utc_from_calendar}
use Rattle.utc.proofs.laws.FromCalendars.{time-given}
use Rattle.utc.proofs.iso_texts.TextCalls.{leap-given, fields-given-by}
use Rattle.utc.proofs.laws.TextForms.{good01}
use Rattle.utc.proofs.laws.ExpandedTexts.{expanded-good}
use Rattle.utc.proofs.laws.HalfEvenTexts.{even-good}
use Rattle.parsing.specs.declared.ParsedUtc.{ParsedUtc}
use Rattle.parsing.specs.Parsed.{parsed_utc}
use Rattle.parsing_laws.specs.Shown.{fields_shown, with_date, YearShown, ReadsBack, FourDigits}
use Rattle.parsing_laws.proofs.UtcReadBack.{WholeStep, no_step, longer, shorter, whole-step, good-in-day}
use Rattle.parsing_laws.proofs.EveryText as Every
use Rattle.parsing_laws.proofs.EveryText.{WrittenFrom, good-fields, written_from, as_01, expanded-as-01, by-fields}
use Rattle.parsing_laws.proofs.ClockFraction.{TimeNear, fraction_at, time-near}
use Rattle.parsing_laws.proofs.DayAgain.{MillisWorth, found}
use Rattle.parsing_laws.proofs.NearCounts.{CountsNear, near01, near-expanded, near_even}

-- ---- the three lengths of a day from 1972 on
pub record Length (x : Float) : Type 0 where
  pub c : ℕ
  pub low : 86399 ≤ c
  pub high : c ≤ 86401
  pub seconds : Val (add binary64 seconds_per_day x) c 0 1
  pub length : DayLength x c 1
  pub leap : Leap x
  pub end : day_end (whole_leap x) ≡ 1000 * c
  pub at_zero : fraction_at 0 0 0 (add binary64 seconds_per_day x) ≡ nought

of_86400 : Length nought
unfolding seconds_per_day add mul div round of_int of_bits whole_leap day_end lt le eq abs
of_86400 = record {
  c = 86400;
  low = lit≤ tt;
  high = lit≤ tt;
  seconds = record { sign = false; size = 86400; has = (refl, refl); is = refl };
  length = record { p = 0; n = 0; leap_is = record { sign = false; size = 0; has = (refl, refl); is = refl }; is = refl };
  leap = little refl;
  end = refl;
  at_zero = refl;
}

of_86401 : Length one
unfolding seconds_per_day add mul div round of_int of_bits whole_leap day_end lt le eq abs
of_86401 = record {
  c = 86401;
  low = lit≤ tt;
  high = lit≤ tt;
  seconds = record { sign = false; size = 86401; has = (refl, refl); is = refl };
  length = record { p = 1; n = 0; leap_is = record { sign = false; size = 1; has = (refl, refl); is = refl }; is = refl };
  leap = second;
  end = refl;
  at_zero = refl;
}

of_86399 : Length minus_one_f
unfolding seconds_per_day add mul div round of_int of_bits whole_leap day_end lt le eq abs
of_86399 = record {
  c = 86399;
  low = lit≤ tt;
  high = lit≤ tt;
  seconds = record { sign = false; size = 86399; has = (refl, refl); is = refl };
  length = record { p = 0; n = 1; leap_is = record { sign = true; size = 1; has = (refl, refl); is = refl }; is = refl };
  leap = minus_second;
  end = refl;
  at_zero = refl;
}

length-of : (x : Float) → WholeStep x → Length x
length-of x (no_step e) = subst Length (sym e) of_86400
length-of x (longer e) = subst Length (sym e) of_86401
length-of x (shorter e) = subst Length (sym e) of_86399

-- ---- the Modified Julian Date of 1972 to 9999 is a number
march_between : (y m d : ℕ) → 6771 ≤ y → y ≤ 14799 → m ≤ 22 → d ≤ 31 → (2432076 ≤ march_count y m d) × (march_count y m d ≤ 6432076)
march_between y m d a b c e = (omega arith, omega arith)

civil_between : (y m d : ℕ) → 6772 ≤ y → y ≤ 14799 → m ≤ 12 → d ≤ 31 → (2432076 ≤ civil_count y m d) × (civil_count y m d ≤ 6432076)
unfolding civil_count
civil_between y m d a b c e = go (leb m 2)
  where
    go : (t : Bool) → (2432076 ≤ cond t (march_count (y - 1) (m + 10) d) (march_count y (m - 2) d))
        × (cond t (march_count (y - 1) (m + 10) d) (march_count y (m - 2) d) ≤ 6432076)
    go true = march_between (y - 1) (m + 10) d (omega arith) (omega arith) (omega arith) e
    go false = march_between y (m - 2) d (omega arith) b (omega arith) e

natural-mjd : (y m d : ℕ) → 1972 ≤ y → y ≤ 9999 → m ≤ 12 → d ≤ 31 → (N : ℕ) × (mjd_number (pos y) (pos m) (pos d) ≡ pos N) × (N ≤ 4000000)
unfolding mjd_number
natural-mjd y m d a b c e =
    let k = civil_between (y + 4800) m d (omega arith) (omega arith) c e in
    (civil_count (y + 4800) m d - 2432076, sub_at (civil_count (y + 4800) m d) 2432076 k.0, omega (arith, k.1))

-- ---- 0.0 as a fraction
nought-unit : InUnit nought
unfolding le lt eq
nought-unit = record { low = tt; high = tt }

nought-val : Val nought 0 0 L
nought-val = record { sign = false; size = 0; has = (refl, zero-mul L); is = refl }

-- ---- the text of midnight and a time
module _ (textForm : TextForm) (counts : CountsNear textForm) (rows : List Row) (s : List ℕ) (w : WrittenFrom textForm rows s)
    (step : WholeStep w.leap) where
  abbrev K : ℕ
  K = w.millis

  abbrev u : TimeOfDay
  u = time_of K

  abbrev day : Length w.leap
  day = length-of w.leap step

  abbrev c : ℕ
  c = day.c

  below : K < 1000 * c
  below = subst (λ (z : ℕ). K < z) day.end w.in-day

  -- a fraction that is worth the time counts to it
  same_count : (g : Float) (x : ℕ) → T (fits binary64 g) → InUnit g → Val g x 0 L → MillisWorth x K (1000 * c) → textForm.count g (whole_leap w.leap) ≡ K
  same_count g x f i v m =
      let k = counts g w.leap f i day.leap x L c 1 (lit< tt) v day.length in
      let n = textForm.count g (whole_leap w.leap) in
      exact n
      (lt_of_mul-lt-mul_right L (subst (λ (z : ℕ). n * L < z) (one_more K)
      (over (n * 1 * L) (1000 * (x * c)) (n * L) (x * (1000 * c)) (K * L) L (ap (λ (z : ℕ). z * L) (mul-one n)) (mul_left_comm x 1000 c) L-pos k.over
      m.over)))
      (lt_of_mul-lt-mul_right L (subst (λ (z : ℕ). K * L < z) (one_more n)
      (under (n * 1 * L) (1000 * (x * c)) (n * L) (x * (1000 * c)) (K * L) L (ap (λ (z : ℕ). z * L) (mul-one n)) (mul_left_comm x 1000 c) L-pos k.under
      m.under)))
    where
      one_more : (n : ℕ) → n * L + L ≡ (n + 1) * L
      one_more n = sym (add-mul n 1 L ∙ ap (λ (z : ℕ). n * L + z) (one-mul L))

      over : (a b n x m l : ℕ) → a ≡ n → x ≡ b → 0 < l → 1000 * a ≤ 1000 * b + 501 * (l * 1) → 1024 * x ≤ 1024 * m + l → n < m + l
      over a b n x m l e f h i j = omega arith

      under : (a b n x m l : ℕ) → a ≡ n → x ≡ b → 0 < l → 1000 * b ≤ 1000 * a + 501 * (l * 1) → 1024 * m ≤ 1024 * x + l → m < n + l
      under a b n x m l e f h i j = omega arith

      exact : (k : ℕ) → k < K + 1 → K < k + 1 → k ≡ K
      exact k a b = omega arith

  -- so the text of the day and such a fraction is the text itself
  same_text : (jd : JulianDate) (g : Float) (x : ℕ) → T (fits binary64 g) → InUnit g → Val g x 0 L → MillisWorth x K (1000 * c)
      → julian_to_calendar jd.jd1 jd.jd2 ≡ answer (fields w.date g) → iso_text_by textForm rows jd ≡ answer s
  unfolding shown_by shown_at shown_text_by
  same_text jd g x f i v m e =
      fields-given-by textForm rows jd (fields w.date g) e
      ∙ leap-given textForm rows w.date g w.leap w.leap_is
      ∙ ap (λ (k : ℕ). shown_text_by textForm.write w.date (shown_at (whole_leap w.leap) k)) (same_count g x f i v m)
      ∙ ap (λ (b : Bool). shown_text_by textForm.write w.date (cond b (At (time_of K)) NextMidnight)) (lt-ltb K (day_end (whole_leap w.leap)) w.in-day)
      ∙ ap answer (sym w.text)

  -- ---- the date of the fields
  module _ (y : ℕ) (year : w.date.year ≡ pos y) (from : 1972 ≤ y) (to : y ≤ 9999) where
    abbrev d : CalendarDate
    d = w.date

    abbrev n : ℕ
    n = 1000 * u.second + u.milli

    abbrev f : Float
    f = fraction_at u.hour u.minute n (add binary64 seconds_per_day w.leap)

    number : (N : ℕ) × (mjd_number (pos y) (pos d.month) (pos d.day) ≡ pos N) × (N ≤ 4000000)
    number = natural-mjd y d.month d.day from to w.range.month-high w.range.day-high

    N : ℕ
    N = number.0

    valid : valid_date (pos y) (pos d.month) (pos d.day) ≡ answer tt
    valid = subst (λ (z : ℤ). valid_date z (pos d.month) (pos d.day) ≡ answer tt) year w.valid

    mjd : mjd_of (pos y) (pos d.month) (pos d.day) ≡ answer (pos N)
    unfolding N
    mjd = mjd-given (pos y) (pos d.month) (pos d.day) valid ∙ ap answer number.1

    named : utc_from_calendar rows (pos y) d.month d.day u.hour u.minute (decimal n 3) ≡ answer
        (julian (add binary64 mjd_zero_point (of_int binary64 (pos N))) f)
    unfolding N
    named =
        time-given rows (pos y) d.month d.day u.hour u.minute (decimal n 3) valid w.leap
        (subst (λ (z : ℤ). leap_at_end_of_day rows z (pos d.month) (pos d.day) ≡ answer w.leap) year w.leap_is)
        (good-in-day u w.leap step (good-fields w))
        ∙ ap (λ (z : ℤ). answer (julian (add binary64 mjd_zero_point (of_int binary64 z)) f)) number.1

    n-small : n < 61000
    n-small = let g = good-fields w in omega (arith, g.second, g.milli)

    near : TimeNear f K c
    near =
        let g = good-fields w in
        subst (λ (k : ℕ). TimeNear f k c) (go (3600000 * u.hour) (60000 * u.minute) (1000 * u.second) u.milli (fields-ms K))
        (time-near u.hour u.minute n c (add binary64 seconds_per_day w.leap) g.hour g.minute n-small day.seconds day.low)
      where
        go : (a b e m : ℕ) → a + b + e + m ≡ K → a + b + (e + m) ≡ K
        go a b e m h = omega arith

    not_past : lt_z (pos 1000000000) (pos N +ℤ pos 2400001) ≡ false
    unfolding N
    not_past = le-ltb 1000000000 (N + 2400001) (omega (arith, number.2))

    same-date : gregorian_date (pos (2400001 + N)) ≡ d
    same-date =
        ap (λ (k : ℕ). gregorian_date (pos k)) (turn N) ∙ date-of-mjd (pos y) (pos d.month) (pos d.day) (pos N) mjd not_past
        ∙ ap (λ (z : ℤ). date z d.month d.day) (sym year)
      where
        turn : (n : ℕ) → 2400001 + n ≡ n + 2400001
        turn n = omega arith

    few : N ≤ 4000000
    unfolding N
    few = number.2

    abbrev J : Float
    J = add binary64 mjd_zero_point (of_int binary64 (pos N))

    -- midnight in jd1 and the time in jd2
    abbrev date_of : JulianDate
    date_of = julian J f

    -- from the first millisecond on
    later : 1 ≤ K → iso_text_by textForm rows (julian J f) ≡ answer s
    later h =
        let r = found N c K f (add-fits binary64 nought _) near day.low day.high few h below in
        same_text (julian J f) (day_of J f).fraction r.x (fraction-fits J f) r.in_unit r.val r.worth
        (fields-of J f (day_of J f) r.given ∙ ap (λ (t : CalendarDate). answer (fields t (day_of J f).fraction)) (ap gregorian_date r.day ∙ same-date))

    -- and at midnight, whose fraction is 0.0
    nothing : K ≡ 0 → f ≡ nought
    unfolding time_of
    nothing e = ap (λ (k : ℕ). fraction_at (time_of k).hour (time_of k).minute (1000 * (time_of k).second + (time_of k).milli)
        (add binary64 seconds_per_day w.leap)) e ∙ day.at_zero

    zero_point : from_calendar (pos y) d.month d.day 0 0 nought ≡ answer (julian J nought)
    unfolding from_calendar at_time rounded_sum onward
    zero_point = rw (midnight-given (pos y) (pos d.month) (pos d.day) (pos N) mjd, midnight-fraction)

    at_midnight : julian_to_calendar J nought ≡ answer (fields d nought)
    unfolding onward
    at_midnight =
        (let r : julian_to_calendar J nought ≡ answer (fields (date (pos y) d.month d.day) nought) =
        rw zero_point at (round_trip_at_midnight (pos y) d.month d.day (pos N) mjd (le-leb N 997599999 (omega (arith, few)))) in r)
        ∙ ap (λ (z : ℤ). answer (fields (date z d.month d.day) nought)) (sym year)

    first : K ≡ 0 → iso_text_by textForm rows (julian J f) ≡ answer s
    first e =
        same_text (julian J f) nought 0 nought-fits nought-unit nought-val
        (record { over = omega (arith, zero-mul L, ap (λ (k : ℕ). k * L) e); under = omega (arith, zero-mul L, ap (λ (k : ℕ). k * L) e) })
        (ap (λ (z : Float). julian_to_calendar J z) (nothing e) ∙ at_midnight)

    again : iso_text_by textForm rows (julian J f) ≡ answer s
    again = go (ltb 0 K) refl
      where
        none : (k : ℕ) → k ≤ 0 → k ≡ 0
        none k h = omega arith

        go : (b : Bool) → ltb 0 K ≡ b → iso_text_by textForm rows (julian J f) ≡ answer s
        go true e = later (ltb-true 0 K e)
        go false e = first (none K (ltb-false 0 K e))

-- ---- THE LAW, in any good form
module _ (textForm : TextForm) (p : Promise) (good : GoodForm textForm p) (plain : FourDigits textForm) (counts : CountsNear textForm) (t : AnnouncedRows)
    (rows : List Row) (taken : table_of t ≡ answer rows) where
  pub text-again : (jd : JulianDate) → T (fits binary64 jd.jd1) → T (fits binary64 jd.jd2) → (s : List ℕ) → iso_text_by textForm rows jd ≡ answer s
      → YearShown s
      → (r : ParsedUtc) → parsed_utc rows s ≡ answer r → iso_text_by textForm rows r.date.0 ≡ answer s
  text-again jd f1 f2 s e shown r read = ap (iso_text_by textForm rows) same ∙ again textForm counts rows s w step y year from to
    where
      w : WrittenFrom textForm rows s
      w = written_from textForm rows jd f1 f2 s e

      y-is : (y : ℕ) × (read_year s ≡ pos y) × (1972 ≤ y) × (y ≤ 9999)
      y-is = Every.y-is textForm p good rows s shown w

      y : ℕ
      y = y-is.0

      year : w.date.year ≡ pos y
      year = Every.year textForm p good rows s shown w

      from : 1972 ≤ y
      from = y-is.2

      to : y ≤ 9999
      to = y-is.3

      step : WholeStep w.leap
      step =
          whole-step t rows taken y w.date.month (pos w.date.day) w.leap from w.range.month-low
          (subst (λ (z : ℤ). leap_at_end_of_day rows z (pos w.date.month) (pos w.date.day) ≡ answer w.leap) year w.leap_is)

      b : ReadsBack rows s
      b = by-fields textForm p good rows s shown w plain t taken

      as_read : answer (with_date (fields_shown s) b.date) ≡ answer r
      as_read = sym b.read ∙ read

      dated : answer b.date ≡ answer (date_of textForm counts rows s w step y year from to)
      dated = sym b.accepted ∙ Every.named textForm p good rows s shown w ∙ named textForm counts rows s w step y year from to

      same : r.date.0 ≡ date_of textForm counts rows s w step y year from to
      same = sym (ap (λ (z : ParsedUtc). z.date.0) (same_answer as_read)) ∙ same_answer dated

-- ---- the three forms of text; what is read under the table that is lent
module _ (t : AnnouncedRows) (rows : List Row) (taken : table_of t ≡ answer rows) (jd : JulianDate) (f1 : T (fits binary64 jd.jd1))
    (f2 : T (fits binary64 jd.jd2)) (s : List ℕ) (shown : YearShown s)
    (r : ParsedUtc) (read : onward (table_of t) (λ rows. parsed_utc rows s) ≡ answer r) where
  by_rows : parsed_utc rows s ≡ answer r
  unfolding onward
  by_rows = rw taken at read

  -- document 01's
  pub iso_text_again : iso_text rows jd ≡ answer s → iso_text rows r.date.0 ≡ answer s
  iso_text_again e = text-again standard_form promise01 good01 as_01 near01 t rows taken jd f1 f2 s e shown r by_rows

  -- request 4's
  pub half-even-text-again : iso_text_half_even rows jd ≡ answer s → iso_text_half_even rows r.date.0 ≡ answer s
  half-even-text-again e = text-again half_even_form even_promise even-good as_01 near_even t rows taken jd f1 f2 s e shown r by_rows

  -- request 6's
  pub expanded-text-again : iso_text_expanded rows jd ≡ answer s → iso_text_expanded rows r.date.0 ≡ answer s
  expanded-text-again e = text-again expanded_form expanded_promise expanded-good expanded-as-01 near-expanded t rows taken jd f1 f2 s e shown r by_rows
