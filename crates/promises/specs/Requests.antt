-- The fourteen requests, sentence by sentence. `rows` are those of a table that is taken. Written from document 02. Assumes nothing.
use Rattle.std.specs.Prelude.{◌%◌, ◌*◌, ◌+◌, ◌/◌, ◌<◌, ◌^◌, ℕ, ◌≤◌, ◌&&◌, Bool, false, true, List, [], ◌∷◌, ◌++◌, ◌⊎◌, ◌≡◌, T, Float, nat_abs, negsuc, pos, ℤ}
use Rattle.std.specs.Prelude.{length, Result, Ok}
use Rattle.std.specs.Float.{binary64, nan}
use Rattle.std.specs.Float.Ieee.{div, fits, le, lt, of_bits, of_int}
use Rattle.std.specs.Int.Signed.{lt_z}
use Rattle.refusals.specs.declared.Refusal.{Refusal}
use Rattle.refusals.specs.Outcome.{answer, refusal, outcome}
use Rattle.numerals.specs.digits.Hexadecimal.{hex16}
use Rattle.floats.specs.Whole.{away, nought, one}
use Rattle.rounding.specs.Value.{InUnit, Val}
use Rattle.constants.specs.Constants.{decimal}
use Rattle.calendar.specs.Calendar.{date, date_of}
use Rattle.calendar.specs.Gregorian.{gregorian_date}
use Rattle.calendar.specs.Refusals.{valid_date}
use Rattle.calendar.specs.declared.CalendarDate.{CalendarDate}
use Rattle.calendar.specs.laws.RustDate.{rust_date}
use Rattle.julian.specs.Calendar.{julian_to_calendar}
use Rattle.julian.specs.Equality.{equal}
use Rattle.julian.specs.Finite.{finite_parts}
use Rattle.julian.specs.JulianDate.{julian}
use Rattle.julian.specs.Worth.{SmallParts}
use Rattle.julian.specs.day_number.ExactDay.{GridSumInRange}
use Rattle.julian.specs.day_number.Answer.{day_number_and_fraction}
use Rattle.julian.specs.declared.day_number.DayNumber.{DayNumber}
use Rattle.julian.specs.declared.CalendarFields.{CalendarFields}
use Rattle.julian.specs.declared.JulianDate.{JulianDate}
use Rattle.julian.specs.declared.same_stamps.Stamp.{Stamp}
use Rattle.julian.specs.laws.CalendarAnswers.{DayPlusFraction}
use Rattle.julian.specs.same_stamps.Same.{julian_of, same}
use Rattle.julian.specs.same_stamps.TwoSum.{NoOverflow}
use Rattle.time_of_day.specs.ExactTime.{GoodTime, Leap, leap1959, minus_one_f}
use Rattle.time_of_day.specs.HalfEven.{day_is_whole, even, even_count, in_whole}
use Rattle.time_of_day.specs.Milliseconds.{whole_leap}
use Rattle.time_of_day.specs.TimeShown.{count_by, day_end}
use Rattle.time_of_day.specs.declared.TimeOfDay.{TimeOfDay}
use Rattle.leap_table.specs.declared.judging.Triple.{Triple}
use Rattle.leap_table.specs.declared.offsets.Rule.{Rule}
use Rattle.leap_table.specs.declared.offsets.Rule.TheVariants.{Drifting, Whole}
use Rattle.leap_table.specs.declared.rows.AnnouncedRows.{AnnouncedRows}
use Rattle.leap_table.specs.judging.Lists.{dates_from, triple_at}
use Rattle.leap_table.specs.offsets.Leap.{leap_at_end_of_day}
use Rattle.leap_table.specs.offsets.Offset.{in_day, tai_utc_offset, whole_f}
use Rattle.leap_table.specs.offsets.Rule.{offset_by_rule, rule_of}
use Rattle.leap_table.specs.rows.Announced.{Decision, table_of}
use Rattle.leap_table.specs.rows.Table.{LastBegun, Row, fixed, month_number, rising, starts}
use Rattle.leap_table.specs.walk.Due.{WalkDecision}
use Rattle.leap_table.specs.walk.Lists.{walk_of_numbers}
use Rattle.leap_table.specs.walk.Rows.{compared, in_time, last_reached, with_row_left}
use Rattle.leap_days.specs.Tables.{LeapOn}
use Rattle.scales.specs.declared.gps_weeks.WeekTime.{WeekTime}
use Rattle.scales.specs.gps_week_laws.Decisions.{FromWeek, ToWeek}
use Rattle.scales.specs.gps_week_laws.NearDate.{OfCount}
use Rattle.scales.specs.gps_week_laws.OnCalendar.{OnCalendar}
use Rattle.scales.specs.gps_weeks.FullWeek.{NearestWeek, Tie, full_week}
use Rattle.scales.specs.gps_weeks.WeekDate.{day_in, part_of_day, week_date}
use Rattle.scales.specs.gps_weeks.WeekOf.{day_millis, week_of, week_time}
use Rattle.scales.specs.laws.Ranges.{Held}
use Rattle.utc_scales.specs.laws.Twenty.{Twenty, announced_answer, answer_of_any, reads_table}
use Rattle.utc_scales.specs.round_trip.Ranges.{HalfDaySplit}
use Rattle.utc_scales.specs.round_trip.RoundTrip.{ThereAndBack}
use Rattle.utc.specs.FromCalendar.{utc_from_calendar}
use Rattle.utc.specs.iso_texts.Expanded.{expanded_form, iso_text_expanded}
use Rattle.utc.specs.iso_texts.HalfEven.{half_even_form, iso_text_half_even}
use Rattle.utc.specs.iso_texts.IsoText.{iso_text, standard_form}
use Rattle.utc.specs.iso_texts.TextCall.{TextCall}
use Rattle.utc.specs.laws.Beside.{Beside}
use Rattle.utc.specs.laws.OneText.{OneText}
use Rattle.utc.specs.laws.Promises.{even_promise, expanded_promise}
use Rattle.utc.specs.text.Ascii.{ascii_bytes}
use Rattle.utc.specs.text.Expanded.{expanded_text, expanded_year}
use Rattle.utc.specs.text.Text.{after_year, utc_text, year_text}
use Rattle.parsing.specs.Grammar.{AllBlank, Reads}
use Rattle.parsing.specs.Parsed.{parsed, parsed_utc}
use Rattle.parsing.specs.declared.ParsedDateTime.{ParsedDateTime}
use Rattle.parsing.specs.scan.Written.{Written}
use Rattle.parsing_laws.specs.Shown.{ReadsBack, YearShown}
use Rattle.parsing_laws.specs.SixFields.{SixFields}
use Rattle.parsing_laws.specs.UtcVerdict.{UtcVerdict}
use Rattle.parsing_laws.specs.Verdict.{Verdict}
use Rattle.reasons.specs.Decision.{SentenceDecision}
use Rattle.reasons.specs.Sentence.{sentence}
use Rattle.reasons.specs.declared.Values.{Values}
use Rattle.reasons.specs.declared.sentences.Reason.{Reason}
use Rattle.reasons.specs.sentences.Render.{float_digits, render}
use Rattle.stamps.specs.Block.{block_of, stamp_at}
use Rattle.stamps.specs.Listing.{text_at}
use Rattle.stamps.specs.Parts.{line_of, lines_in, parts_joined}
use Rattle.stamps.specs.declared.Reporting.{Reporting}
use Rattle.stamps.specs.declared.Reporting.TheVariants.{Numbers}
use Rattle.stamps.specs.reason_laws.Reader.{OfMachine}
use Rattle.ticks.specs.laws.Reasons.{ExactlyWhen, PlacedRight}
use Rattle.standby.specs.Bills as B
use Rattle.standby.specs.Times.{instant, offset_on_date}
use Rattle.standby.specs.declared.UtcTime.{UtcTime}
use Rattle.standby_laws.specs.Decisions.{TimeDecision}
use Rattle.standby_laws.specs.Meaning.{BillMeaning}
use Rattle.standby_laws.specs.Sharing.{Cent, Shared}
use Rattle.standby_laws.specs.Verdict.{as_calendar, fault_of}
use Rattle.c_answers.specs.table.RecordBytes.{MachineRecord, record_bytes}
use Rattle.c_answers.specs.table.TableBytes.{table_bytes}
use Rattle.promises.specs.Demands.{Demand3}
use Rattle.promises.specs.Terms.{EachText, EndsEarly, FieldNamed, NoneNamed, PassedOn, RuleNames, SameRows, SentencesPrinted, WalkRight, Walks}
use Rattle.promises.specs.Terms.{WithoutRule, three_2048ths}

pub record Request1 (rows : List Row) : Type 0 where
  -- "a UTC text may also have one Z directly after its seconds"
  pub one_z : (s : List ℕ) (w : Written) (r : Reads true s w) → w.zulu ≡ false → r.pieces.after ≡ [] → parsed true (s ++ (90 ∷ [])) ≡ parsed true s
  -- "Blanks around a text are dropped if they are bytes 9 to 13 or 32"
  pub blanks : (utc : Bool) (s : List ℕ) (w : Written) → Reads utc s w → (b a : List ℕ) → AllBlank b → AllBlank a → parsed utc (b ++ (s ++ a)) ≡ parsed utc s
  -- "The second is digits only, with a fraction, if any, of 1 to 13 digits, so it is one whole number divided once by a power of ten"; "The answer is the six
  -- fields; a UTC text must name what `utc_from_calendar` accepts and gives its date too."
  pub six_fields : (utc : Bool) (s : List ℕ) (f : ParsedDateTime) → parsed utc s ≡ answer f → SixFields utc s f
  pub read_utc : (s : List ℕ) → UtcVerdict rows s (parsed_utc rows s)
  -- "The accepted set is stated as a grammar apart from the reader, with one reading each."
  pub one_reading : (utc : Bool) (s : List ℕ) (v w : Written) → Reads utc s v → Reads utc s w → v ≡ w
  -- "Every UTC text that we write and whose shown year is 1972 to 9999 reads back as its fields."
  pub reads_back : (d : JulianDate) → Held d → (s : List ℕ) → YearShown s → EachText rows (λ text. text d ≡ answer s → ReadsBack rows s)
  -- "a sign, exponent, word or point at an end there is 15"; "Turned away: 15 for a text outside the grammar with any number of fraction digits from 1 up,
  -- first"; "16 (a difference too) for more than 13, next; then 01's date and time numbers, where hour above 23, minute above 59 or second from 61 up are 4."
  pub read : (utc : Bool) (s : List ℕ) → Verdict utc s (parsed utc s)

pub record Request2 (t : AnnouncedRows) (rows : List Row) : Type 0 where
  -- "Give the offsets at 0h for a slice of signed 32-bit numbers, year, month, day triples"; "spare places of a lent list stay"; "the number of rows compared,
  -- equal to a definition's count and at most the dates plus 42. A row counts each time a date's month is held against the start of the next row not yet
  -- reached. Each offset is that of 01's single lookup."
  pub call : (ds : List Triple) (d : Triple) (before after : List Float) (c : ℕ) → Walks t ds before c after → WalkRight t rows ds d before after c
  pub at_most : (months : List ℕ) → compared (starts fixed) months ≤ length months + 42
  pub each_time : (months : List ℕ) → T (in_time 0 months)
      → compared (starts rows) months ≡ last_reached (starts rows) 0 months + with_row_left (starts rows) months
  -- "Turned away: 14 for a broken triple, then 11 for fewer offset places than dates; then, date by date, a bad one by its own number, then 17 for one earlier
  -- than the one before it."
  pub decided : (l : List ℤ) (d : Triple) (places : ℕ)
      → WalkDecision rows (length l % 3) (dates_from (triple_at l) 0 (length l / 3)) d 1 places (walk_of_numbers rows l places)

pub record Request3 : Type 0 where
  -- "The shifted number -1, which gives -02-30": day -68570
  pub own_case : gregorian_date (negsuc 68569) ≡ date (negsuc 4899) 2 30
  -- "No answer changes."
  pub same : (n : ℤ) → lt_z n (negsuc 68569) ≡ false → lt_z (pos 1000000000) n ≡ false → rust_date n ≡
      record { year = (gregorian_date n).year; month = pos (gregorian_date n).month; day = pos (gregorian_date n).day }

pub record Request4 (rows : List Row) : Type 0 where
  -- "decided on whole numbers for a fraction that is a multiple of 2^-52, on days of 86,400 or 86,401 s"; item 8: "counts such a day in whole numbers too"
  pub whole_numbers : (f : Float) (F : ℕ) → Val f F 0 0x10_0000_0000_0000 → F < 0x10_0000_0000_0000 → (l : Float) → day_is_whole l ≡ true
      → even_count f l ≡ even false (F * day_end l) 0x10_0000_0000_0000
  pub whole-days : (day_is_whole nought ≡ true) × (day_is_whole one ≡ true) × (day_is_whole minus_one_f ≡ true)
  -- "Midnight of 2000-01-01 plus 3/2048 day is 126,562.5 ms: the old text ends in 02:06.563, the new in 02:06.562."
  pub old_text : iso_text fixed (julian (decimal 24515445 1) three_2048ths) ≡ answer (ascii_bytes "2000-01-01T00:02:06.563")
  pub new_text : iso_text_half_even fixed (julian (decimal 24515445 1) three_2048ths) ≡ answer (ascii_bytes "2000-01-01T00:02:06.562")
  -- "A fraction off that grid, and all of 1959-12-31, is rounded by the exact value of the float that 01's call rounds."
  pub by_the_float : (f x : Float) → T (fits binary64 f) → InUnit f → Leap x → in_whole f (whole_leap x) ≡ false
      → even_count f (whole_leap x) ≡ count_by even f (whole_leap x)
  pub not_1959 : day_is_whole (whole_leap leap1959) ≡ false
  -- "For this sheet the shown time is within 0.5 ms of the exact one on the grid, on days of those two lengths."
  pub text : (sum : ℤ) → GridSumInRange sum → OneText half_even_form even_promise rows sum
  -- "01's text call keeps halves away."
  pub halves_away : (f l : Float) → standard_form.count f l ≡ count_by away f l

pub record Request5 (t : AnnouncedRows) (rows : List Row) : Type 0 where
  -- "The single lookup now also says which table row, counted from 0, gave the offset and whether it was absent (before 1960, no row), drifting (rows 0 to 13)
  -- or whole."
  pub told : (y m d : ℤ) (f x : Float) (r : Rule) → offset_by_rule rows y m d f ≡ answer (x, r) → rule_of rows (month_number y (nat_abs m)) ≡ r
  pub row : (n : ℕ) → RuleNames t rows n
  -- "UTC to TAI, UTC to UT1 and the text calls pass on that of the calendar's date at 0h."
  pub passed_on : PassedOn rows
  -- "All numbers and refusals match those of before, and the row named is the last whose month has begun."
  pub as_before : WithoutRule rows
  pub last_begun : (n i : ℕ) → (rule_of rows n ≡ Drifting i) ⊎ (rule_of rows n ≡ Whole i) → LastBegun (starts rows) n i

pub record Request6 (rows : List Row) : Type 0 where
  -- "Add a text call like 01's that writes such years as a sign and seven digits, so -1 is `-0000001` and 12000 is `+0012000`."
  pub like_01 : (d : JulianDate) → Beside utc_text expanded_text (iso_text rows d) (iso_text_expanded rows d)
  pub to_9999 : (d : CalendarDate) (u : TimeOfDay) (n : ℕ) → d.year ≡ pos n → n ≤ 9999 → expanded_text d u ≡ utc_text d u
  pub after-year : (d : CalendarDate) (u : TimeOfDay)
      → (expanded_text d u ≡ expanded_year d.year ++ after_year d u) × (utc_text d u ≡ year_text d.year ++ after_year d u)
  pub minus_1 : expanded_year (negsuc 0) ≡ ascii_bytes "-0000001"
  pub year_12000 : expanded_year (pos 12000) ≡ ascii_bytes "+0012000"
  -- "The lister uses it from then on."
  pub lister : (s : List ℕ) (n i : ℕ) → text_at rows s n i ≡ iso_text_expanded rows (stamp_at s n i)
  -- "Its longest text is 27 bytes, and 11 is judged by the new length. Different divisions of one date on demand 3's grid must still print alike."
  pub length_23_or_27 : (d : JulianDate) (s : List ℕ) → iso_text_expanded rows d ≡ answer s → (length s ≡ 23) ⊎ (length s ≡ 27)
  pub text : (sum : ℤ) → GridSumInRange sum → OneText expanded_form expanded_promise rows sum

pub record Request7 : Type 0 where
  -- "counted from 1980-01-06 0h GPS"; "whole weeks up to 100,000, milliseconds below 604,800,000. The date's jd1 is its day's midnight, jd2 the day's
  -- milliseconds / 86,400,000, rounded once."
  pub first-day : date_of (pos (day_in 0 0)) ≡ date (pos 1980) 1 6
  pub to_date : (week ms : ℕ) → FromWeek week ms (week_date week ms)
  pub on_its_day : (week ms : ℕ) (d : JulianDate) → week_date week ms ≡ answer d → OnCalendar week ms d
  pub rounded_once : (ms : ℕ) → ms ≤ 2 ^ 53 → div binary64 (of_int binary64 (pos ms)) (decimal 86400000 0) ≡ part_of_day ms
  -- "The way back takes document 01's day and fraction, multiplies the fraction by 86,400,000 as floats and rounds that product halves up, carrying into the
  -- next day."; half a millisecond after the first midnight
  pub way_back : (d : JulianDate) (t : WeekTime) → week_of d ≡ answer t → (n : DayNumber) × (k : ℕ) × (day_number_and_fraction d.jd1 d.jd2 ≡ answer n)
      × (n.day ≡ pos k) × OfCount (k * 86400000 + day_millis n.fraction) t
  pub halves_up : week_of (julian (of_bits binary64 0x4142_a5ea_4000_0000) (of_bits binary64 0x3e38_daea_1d7f_4cf7)) ≡ answer (week_time 0 1)
  -- "The result is the week with those ten bits that lies nearest the reference and is not below 0."
  pub nearest : (bits reference w : ℕ) → full_week bits reference ≡ answer w → NearestWeek bits reference w × (w ≤ 99511)
  pub nearest_given : (bits reference w : ℕ) → bits < 1024 → reference ≤ 99000 → NearestWeek bits reference w → full_week bits reference ≡ answer w
  -- "Week and millisecond turned into a date and back are the same pair."
  pub there_and_back : (week ms : ℕ) (d : JulianDate) → week_date week ms ≡ answer d → week_of d ≡ answer (week_time week ms)
  -- "A ten-bit week needs a reference week of at most 99,000."; "Turned away: 9 and then 6 for a date as in 01; 18 for a field over its limit or a rounded date
  -- before the first week or past the last; then 19 where two weeks not below 0 are equally near."
  pub to_week : (d : JulianDate) → ToWeek d (week_of d)
  pub over : (bits reference : ℕ) → (1024 ≤ bits) ⊎ (99000 < reference) → full_week bits reference ≡ refusal 18
  pub tied : (bits reference : ℕ) → bits < 1024 → reference ≤ 99000 → Tie bits reference → full_week bits reference ≡ refusal 19
  pub ties_only : (bits reference : ℕ) → full_week bits reference ≡ refusal 19 → Tie bits reference

pub record Request8 (t : AnnouncedRows) (rows : List Row) : Type 0 where
  -- "unread past the size"
  pub unread : (u : AnnouncedRows) → SameRows t u → table_of t ≡ table_of u
  -- "From C it is these 136 bytes, little-endian; any other length is 14, before 20."
  pub from_bytes : MachineRecord t → table_bytes (record_bytes t) ≡ table_of t
  pub other_length : (s : List ℕ) → (length s ≡ 136 → ⊥) → table_bytes s ≡ refusal 14
  -- "the rising order and item 5's row numbers cover all its rows"
  pub rising_rows : T (rising (starts rows))
  -- "With no lent rows every answer stays."
  pub no_rows : t.months_size ≡ 0 → t.seconds_size ≡ 0 → table_of t ≡ answer fixed
  pub same_answers : t.months_size ≡ 0 → t.seconds_size ≡ 0 → (k : Twenty) (d : JulianDate) → announced_answer t k d ≡ answer_of_any fixed k d
  -- "The walk of item 2 may then compare at most the dates plus 58 rows."
  pub at_most : (months : List ℕ) → compared (starts rows) months ≤ length months + 58
  -- "A step of -1 s makes the day's text end at 86,399,000 ms and its last minute end below 59 s.": the text of demand 3 shows a good time or the next midnight
  pub short_text : (u : TimeOfDay) → GoodTime u minus_one_f → 3600000 * u.hour + 60000 * u.minute + 1000 * u.second + u.milli < 86399000
  pub short_minute : (y : ℤ) (m d : ℕ) → EndsEarly rows y m d → (second : Float) → le nought second && lt second (decimal 59 0) ≡ false
      → utc_from_calendar rows y m d 23 59 second ≡ refusal 4
  pub up_to_59 : (y : ℤ) (m d : ℕ) → EndsEarly rows y m d → (second : Float) → le nought second && lt second (decimal 59 0) ≡ true
      → (x : JulianDate) × (utc_from_calendar rows y m d 23 59 second ≡ answer x)
  -- "The exact day length follows the table, and for each table that isn't turned away all of demand 3 holds, and item 1's law under one table."
  pub every_leap : (y m d : ℤ) (x : Float) → leap_at_end_of_day rows y m d ≡ answer x → LeapOn rows y m d x
  pub all_of_demand_3 : Demand3 rows
  pub law_of_item_1 : Request1 rows
  -- "Turned away, each test over all rows before the next and before every other refusal of the call: 20 for sizes unequal or above 16; 21 for a row not later
  -- than the one before; 22 for a step other than one second up or down."
  pub table : Decision t
  pub table-first : (k : Twenty) (d : JulianDate) (n : ℕ) → reads_table k ≡ true → table_of t ≡ refusal n → announced_answer t k d ≡ refusal n

pub record Request9 : Type 0 where
  -- "the same stamp means the same scale and both parts with the same bits, so 0.0 and -0.0 differ. A NaN with the same bits is the same stamp.": a stamp holds
  -- the patterns of its parts
  pub same_is : (a b : Stamp) → same a b ≡ true → a ≡ b
  pub is_same : (a b : Stamp) → a ≡ b → same a b ≡ true
  -- "Equal by this test and finite implies equal by 01's wherever 01's two-sum doesn't overflow."
  pub equal_too : (a b : Stamp) → same a b ≡ true → finite_parts (julian_of a) ≡ true → NoOverflow (julian_of a).jd1 (julian_of a).jd2
      → equal (julian_of a) (julian_of b) ≡ true

-- of a call over passes (ps, ms) and ticks ts, in bytes, that answers r and leaves `after` where `before` was
pub record Request10 (ps ms ts before after : List ℕ) (r : Result ℕ Refusal) : Type 0 where
  -- "give each a TAI millisecond on the straight line between its neighbours, rounded down. A tick at a pass gives that pass's millisecond exactly. A later
  -- tick never gets an earlier time, and each result is less than 1 ms below the exact line."
  pub placed : r ≡ Ok (length ts) → PlacedRight ps ms ts before after
  -- "From a recorded list of 2 to 2,000 passes, with numbers below 2^40"; "Turned away whole, in this order: 11 for fewer result places than ticks; 23 for
  -- unequal, too few or too many passes or too large a number in them; 24 for passes not strictly rising in both; 25 for a tick outside them."
  pub decided : ExactlyWhen ps ms ts (length before) r
  pub refused_whole : (n : ℕ) → outcome r ≡ refusal n → after ≡ before

pub record Request11 (rows : List Row) : Type 0 where
  -- "Crews bill each started 900 s between two UTC times given to the millisecond, from 1972 on, leap seconds counted."
  pub started : (e : ℕ) → e ≤ 900000 * B.quarters e
  pub no_more : (e q : ℕ) → e ≤ 900000 * q → B.quarters e ≤ q
  pub leap-seconds : (u : UtcTime) → lt_z u.year (pos 1972) ≡ false → valid_date u.year (pos u.month) (pos u.day) ≡ answer tt → (f : Float)
      → in_day f ≡ true → tai_utc_offset rows u.year (pos u.month) (pos u.day) f ≡ answer (whole_f (offset_on_date rows u))
  -- "both shares are rounded down, and a cent left over goes to the larger remainder, a tie to the first. The shares add up to quarters × rate, and each is
  -- within one cent of its exact part. Equal times cost 0."
  pub cent : (q total a b : ℕ) → 0 < a + b → Cent total a b (B.shares q total a b)
  pub shares : (q total a b : ℕ) → 0 < a + b → Shared q total a b (B.shares q total a b)
  pub equal_times : (s rate a b : ℕ) → rate ≤ 1000000 → a ≤ 1000000 → b ≤ 1000000 → 0 < a + b → B.bill_between s s rate a b ≡ answer (B.bill 0 0 0)
  -- "A date or time fault has `utc_from_calendar`'s number, a millisecond over 999 is 4, the start looked at before the end; years before 1972 are number 1."
  pub faults : (u : UtcTime) → lt_z u.year (pos 1972) ≡ false → u.millis ≤ 999 → u.second < 256 → fault_of (instant rows u) ≡ fault_of (as_calendar rows u)
  pub time : (u : UtcTime) → TimeDecision rows u
  -- "The rate is up to 1,000,000 cents, at most 1,000,000 quarters."; "metres of line, up to 1,000,000 each"; "Turned away after those: 26 for an end before
  -- the start; 27 for a number over its limit; 28 for both lengths 0."
  pub bill : (start end : UtcTime) (rate a b : ℕ) → BillMeaning rows start end rate a b (B.standby_bill rows start end rate a b)

pub record Request12 (rows : List Row) : Type 0 where
  -- "The longest line is 33 bytes."
  pub line_33 : (s : List ℕ) (line : ℕ) → length (line_of Numbers rows (block_of s) s line) ≤ 33
  pub line_of_33 : (s : List ℕ) × (line : ℕ) × (block_of s ≡ answer 1001) × (length (line_of Numbers rows (block_of s) s line) ≡ 33)
  -- "The lister now writes through a 64-byte scratch in place of 4,096 bytes."; "Output for every block, refused ones included, is byte for byte what the
  -- larger scratch gave."
  pub alike : (how : Reporting) (s : List ℕ) (k : ℕ) → lines_in (block_of s) ≤ k → parts_joined how rows s 64 k ≡ parts_joined how rows s 4096 k

pub record Request13 (rows : List Row) : Type 0 where
  -- "the sentence call takes its number (one not 1 to 28 is 18) and the values 01's test reads"
  pub decided : (n : ℕ) (v : Values) → SentenceDecision n v
  -- "1 to 3 the wrong one, 4 the first wrong one, 6 the rounded sum, 7 the fraction, 8 the nanos, 9 the first bad part, 10 the offset, 12 the second size, 13
  -- the size, 14 the whole length"
  pub names : FieldNamed rows
  -- "other numbers, and values that pass, name none"
  pub no_name : NoneNamed rows
  -- "Two sentences are the same only if refusal number, field and value are the same, any NaN counting as any other."
  pub same_only_if : (r s : Reason) → 1 ≤ r.number → r.number ≤ 28 → OfMachine r.named → 1 ≤ s.number → s.number ≤ 28 → OfMachine s.named
      → render r ≡ render s → r ≡ s
  -- "A sentence longer than its buffer is 11."
  pub too_long : (k : ℕ) (v : Values) (s before after : List ℕ) (r : Result ℕ Refusal) → sentence k v ≡ answer s → length before < length s
      → TextCall (sentence k v) before r after → outcome r ≡ refusal 11
  -- "A second listing program prints them in place of `refused` and the number, on stamp lines and after `block`, not in the header"
  pub printed : SentencesPrinted rows
  -- "floats are shown as 16 hexadecimal digits of their bits, any NaN as 7ff8000000000000"
  pub nan_shown : float_digits nan ≡ ascii_bytes "7ff8000000000000"
  pub hex_shown : hex16 0x0123_4567_89ab_cdef ≡ ascii_bytes "0123456789abcdef"

pub record Request14 (rows : List Row) : Type 0 where
  -- "For a TAI date whose jd1 is a multiple of 0.5 from 2441319.5 to 5000000.5 and whose jd2 is at most 1 in size, show that UTC and back lies within 1 ns of
  -- it, leap days included, for the fixed table."; by every table within 173 ps
  pub one_nanosecond : {d : JulianDate} → HalfDaySplit d → ThereAndBack fixed 1000 d
  pub there_and_back : {d : JulianDate} → HalfDaySplit d → ThereAndBack rows 173 d
  -- "for any two parts under 2^52 in size that the calendar accepts, on the grid or off it, day number plus fraction is within 2^-51 day of the exact sum plus
  -- one half (-4900-02-30 counts as day -68570)"
  pub day : (d : JulianDate) → SmallParts d → (f : CalendarFields) → julian_to_calendar d.jd1 d.jd2 ≡ answer f → DayPlusFraction d f
