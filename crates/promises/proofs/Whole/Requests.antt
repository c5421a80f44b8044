-- THE FOURTEEN REQUESTS, for every table that is taken. Assumes nothing.
use mathlib.Core.Path.{◌≡◌, refl, sym, ◌∙◌}
use mathlib.Core.List.{List}
use Prim.Native.Nat.{ℕ, ◌+◌, ◌*◌, ◌≤◌}
use native.Mathlib.Omega.{arith}
use lib.ListN.{length}
use lib.IntN.{pos, negsuc}
use mathlib.Core.Bool.{false}
use lib.Ieee.{Float, lt, of_bits}
use Rattle.std.specs.Prelude.{Result}
use Rattle.refusals.specs.declared.Refusal.{Refusal}
use Rattle.refusals.specs.Outcome.{answer}
use Rattle.floats.specs.Whole.{abs, away}
use Rattle.calendar.specs.Gregorian.{gregorian_date}
use Rattle.calendar.specs.Calendar.{date}
use Rattle.calendar.proofs.laws.NoAnswerChanges.{no_answer_changes}
use Rattle.julian.proofs.laws.CalendarDays.{day-plus-fraction}
use Rattle.julian.proofs.same_stamps.Same as Stamps
use Rattle.julian.proofs.same_stamps.Equal.{same-implies-equal}
use Rattle.time_of_day.specs.ExactTime.{leap1959}
use Rattle.time_of_day.specs.HalfEven.{day_is_whole}
use Rattle.time_of_day.specs.Milliseconds.{whole_leap}
use Rattle.time_of_day.specs.TimeShown.{count_by}
use Rattle.time_of_day.proofs.EvenExact.{in_whole_numbers, whole-0, whole-1, whole-minus-1, not_1959}
use Rattle.time_of_day.proofs.EvenFloat.{by-float}
use Rattle.time_of_day.proofs.EvenSteps.{count-by-float}
use Rattle.time_of_day.proofs.Fractions.{in_units, within-one}
use Rattle.julian.specs.declared.JulianDate.{JulianDate}
use Rattle.leap_table.specs.declared.rows.AnnouncedRows.{AnnouncedRows}
use Rattle.leap_table.specs.rows.Table.{Row}
use Rattle.leap_table.specs.rows.Announced.{table_of}
use Rattle.leap_table.proofs.rows.TableLaws.{table-decided, table-rises, spare-unread}
use Rattle.leap_table.proofs.rows.TablesTaken.{table_none}
use Rattle.leap_table.proofs.walk.Counts.{most-by-fixed, most-by-any, compared-closed}
use Rattle.leap_table.proofs.walk.Due.{numbers-decided}
use Rattle.leap_days.proofs.TableLeaps.{table-leap-on}
use Rattle.julian.specs.declared.day_number.DayNumber.{DayNumber}
use Rattle.julian.specs.day_number.Answer.{day_number_and_fraction}
use Rattle.scales.specs.declared.gps_weeks.WeekTime.{WeekTime}
use Rattle.scales.specs.gps_weeks.WeekOf.{day_millis, week_of}
use Rattle.scales.specs.gps_week_laws.NearDate.{OfCount}
use Rattle.scales.specs.laws.Ranges.{Held}
use Rattle.scales.proofs.gps_weeks.FullWeeks.{nearest-if, nearest-only-if, tie_exactly, over-exactly}
use Rattle.scales.proofs.gps_weeks.Parts.{part-is}
use Rattle.scales.proofs.gps_week_laws.Cases.{first-day-is-1980-01-06, up_from_a_half}
use Rattle.scales.proofs.gps_week_laws.CalendarDates.{on-calendar}
use Rattle.scales.proofs.gps_week_laws.NearDates.{of_day}
use Rattle.scales.proofs.gps_week_laws.Refusals.{from-week-decided, to-week-decided}
use Rattle.scales.proofs.gps_week_laws.RoundTrip as Weeks
use Rattle.utc_scales.proofs.laws.AnnouncedCalls as Announced
use Rattle.utc_scales.proofs.round_trip.RoundTrip as Back
use Rattle.utc.specs.iso_texts.IsoText.{standard_form}
use Rattle.utc.specs.iso_texts.Expanded.{iso_text_expanded}
use Rattle.utc.proofs.text.ExpandedLaws.{expanded-same, expanded-rest, expanded-1-before, expanded-12000}
use Rattle.utc.proofs.laws.ShortDays.{short-day-refused, short-day-taken}
use Rattle.utc.proofs.laws.HalfEvenTexts.{even-for-every-buffer}
use Rattle.utc.proofs.laws.ExpandedTexts.{expanded-for-every-buffer, beside, expanded-text-length}
use Rattle.parsing_laws.specs.Shown.{YearShown, ReadsBack}
use Rattle.parsing_laws.proofs.Grammar as Grammar
use Rattle.parsing_laws.proofs.Around.{same-around, same-with-zulu}
use Rattle.parsing_laws.proofs.SixFields as Fields
use Rattle.parsing_laws.proofs.Ladder.{verdict}
use Rattle.parsing_laws.proofs.UtcLadder.{utc-verdict}
use Rattle.parsing_laws.proofs.EveryText.{iso_text_reads_back, half-even-text-reads-back, expanded-text-reads-back}
use Rattle.reasons.proofs.Cases.{sentence-decided, nan_digits, hex_order}
use Rattle.stamps.specs.Block.{block_of, stamp_at}
use Rattle.stamps.specs.Listing.{text_at, line_room}
use Rattle.stamps.specs.Parts.{lines_in, parts_joined}
use Rattle.stamps.specs.declared.Reporting.{Reporting}
use Rattle.stamps.specs.declared.Reporting.TheVariants.{Numbers, Sentences}
use Rattle.stamps.proofs.reason_laws.ReadBack.{same-sentence}
use Rattle.stamps.proofs.listing_laws.Whole.{parts-alike}
use Rattle.stamps.proofs.listing_laws.Longest.{number-line-most, longest-line}
use Rattle.ticks.specs.Ticks.{TicksCall, placed_ticks}
use Rattle.ticks.proofs.laws.Call.{call-means}
use Rattle.standby_laws.proofs.Quarters.{quarters-hold, quarters-least}
use Rattle.standby_laws.proofs.Exact.{offset-is-tai-utc}
use Rattle.standby_laws.proofs.Sharing as Sharing
use Rattle.standby_laws.proofs.Decided as Bills
use Rattle.standby_laws.proofs.Faults.{faults-are-calendars}
use Rattle.standby_laws.proofs.Means.{bill-means}
use Rattle.c_answers.proofs.table.ReadBack.{table-back}
use Rattle.c_answers.proofs.table.Laws as Bytes
use Rattle.promises.specs.Terms.{EachText}
use Rattle.promises.specs.Requests as R
use Rattle.promises.proofs.Whole.Demands.{demand_3}
use Rattle.promises.proofs.Whole.Terms.{walk-right, look_up_tells, rule-names, passed_on, without_rule, last_begun, short-day-ends, field_named, none_named}
use Rattle.promises.proofs.Whole.Terms.{too_long, sentences_printed}
use Rattle.promises.proofs.Whole.HalfTexts.{old_half, new_half}

-- -4900-02-30
pub before-the-calendar : gregorian_date (negsuc 68569) ≡ date (negsuc 4899) 2 30
unfolding gregorian_date
before-the-calendar = refl

pub halves_away : (f l : Float) → standard_form.count f l ≡ count_by away f l
halves_away f l = refl

-- the leap of 1959-12-31 counts, and is no whole second
pub float-on-1959 : day_is_whole (whole_leap leap1959) ≡ false
unfolding whole_leap lt abs of_bits
float-on-1959 = not_1959

pub request_3 : R.Request3
request_3 = record { own_case = before-the-calendar; same = no_answer_changes }

pub counted_back : (d : JulianDate) (t : WeekTime) → week_of d ≡ answer t → (n : DayNumber) × (k : ℕ) × (day_number_and_fraction d.jd1 d.jd2 ≡ answer n)
    × (n.day ≡ pos k) × OfCount (k * 86400000 + day_millis n.fraction) t
counted_back d t e = let o = of_day d t e in (o.number, o.n, o.given, o.is, o.count)

pub request_7 : R.Request7
request_7 = record {
  first-day = first-day-is-1980-01-06;
  to_date = from-week-decided;
  on_its_day = on-calendar;
  rounded_once = part-is;
  way_back = counted_back;
  halves_up = up_from_a_half;
  nearest = nearest-if;
  nearest_given = nearest-only-if;
  there_and_back = Weeks.round_trip;
  to_week = to-week-decided;
  over = λ bits reference. (over-exactly bits reference).1;
  tied = λ bits reference. (tie_exactly bits reference).1;
  ties_only = λ bits reference. (tie_exactly bits reference).0;
}

pub request_9 : R.Request9
request_9 = record { same_is = Stamps.same_is; is_same = Stamps.is_same; equal_too = same-implies-equal }

pub request_10 : (ps ms ts before after : List ℕ) (r : Result ℕ Refusal) → TicksCall (placed_ticks ps ms ts (length before)) before r after
    → R.Request10 ps ms ts before after r
request_10 ps ms ts before after r c = record {
  placed = (call-means ps ms ts before after r c).placed;
  decided = (call-means ps ms ts before after r c).decided;
  refused_whole = (call-means ps ms ts before after r c).refused;
}

-- ---- a line fits in 64 bytes
room-64 : (how : Reporting) → (line_room how ≤ 64) × (line_room how ≤ 4096)
unfolding line_room
room-64 Numbers = (omega arith, omega arith)
room-64 (Sentences n) = (omega arith, omega arith)

pub through_64 : (how : Reporting) (rows : List Row) (s : List ℕ) (k : ℕ) → lines_in (block_of s) ≤ k
    → parts_joined how rows s 64 k ≡ parts_joined how rows s 4096 k
through_64 how rows s k h = parts-alike how rows s 64 4096 (room-64 how).0 (room-64 how).1 k k h h

pub listers_text : (rows : List Row) (s : List ℕ) (n i : ℕ) → text_at rows s n i ≡ iso_text_expanded rows (stamp_at s n i)
unfolding text_at
listers_text rows s n i = refl

module _ (t : AnnouncedRows) (rows : List Row) (e : table_of t ≡ answer rows) where
  pub texts-read-back : (d : JulianDate) → Held d → (s : List ℕ) → YearShown s → EachText rows (λ text. text d ≡ answer s → ReadsBack rows s)
  texts-read-back d held s shown = (
    iso_text_reads_back t rows e d held.0 held.1 s shown,
    half-even-text-reads-back t rows e d held.0 held.1 s shown,
    expanded-text-reads-back t rows e d held.0 held.1 s shown,
  )

  pub request_1 : R.Request1 rows
  request_1 = record {
    one_z = same-with-zulu;
    blanks = same-around;
    six_fields = Fields.six_fields;
    read_utc = utc-verdict rows;
    one_reading = Grammar.one_reading;
    reads_back = texts-read-back;
    read = verdict;
  }

  pub request_2 : R.Request2 t rows
  request_2 = record {
    call = walk-right t rows e;
    at_most = most-by-fixed;
    each_time = compared-closed _ (table-rises t rows e);
    decided = numbers-decided rows;
  }

  pub request_4 : R.Request4 rows
  request_4 = record {
    whole_numbers = in_whole_numbers;
    whole-days = (whole-0, whole-1, whole-minus-1);
    old_text = old_half;
    new_text = new_half;
    by_the_float = λ f x g i s h. sym (count-by-float f _ h) ∙ by-float f _ (in_units f g i) (within-one x s);
    not_1959 = float-on-1959;
    text = even-for-every-buffer t rows e;
    halves_away = halves_away;
  }

  pub request_5 : R.Request5 t rows
  request_5 = record {
    told = look_up_tells rows;
    row = rule-names t rows e;
    passed_on = passed_on rows;
    as_before = without_rule rows;
    last_begun = last_begun rows;
  }

  pub request_6 : R.Request6 rows
  request_6 = record {
    like_01 = beside rows;
    to_9999 = expanded-same;
    after-year = expanded-rest;
    minus_1 = expanded-1-before;
    year_12000 = expanded-12000;
    lister = listers_text rows;
    length_23_or_27 = expanded-text-length rows;
    text = expanded-for-every-buffer t rows e;
  }

  pub request_8 : R.Request8 t rows
  request_8 = record {
    unread = λ u s. spare-unread t u s.months-size s.seconds-size s.rows;
    from_bytes = table-back t;
    other_length = Bytes.other_length;
    rising_rows = table-rises t rows e;
    no_rows = table_none t;
    same_answers = Announced.announced_none t;
    at_most = most-by-any t rows e;
    short_text = short-day-ends;
    short_minute = λ y m d h. short-day-refused rows y m d h.0 h.1;
    up_to_59 = λ y m d h second b. (_, short-day-taken rows y m d h.0 h.1 second b);
    every_leap = table-leap-on t rows e;
    all_of_demand_3 = demand_3 t rows e;
    law_of_item_1 = request_1;
    table = table-decided t;
    table-first = Announced.table-first t;
  }

  pub request_11 : R.Request11 rows
  request_11 = record {
    started = quarters-hold;
    no_more = quarters-least;
    leap-seconds = offset-is-tai-utc t rows e;
    cent = Sharing.cent;
    shares = Sharing.shared;
    equal_times = Bills.equal_times;
    faults = faults-are-calendars t rows e;
    time = Bills.time-decided rows;
    bill = bill-means rows;
  }

  pub request_12 : R.Request12 rows
  request_12 = record { line_33 = number-line-most rows; line_of_33 = longest-line rows; alike = λ how. through_64 how rows }

  pub request_13 : R.Request13 rows
  request_13 = record {
    decided = sentence-decided;
    names = field_named rows;
    no_name = none_named rows;
    same_only_if = same-sentence;
    too_long = too_long;
    printed = sentences_printed rows;
    nan_shown = nan_digits;
    hex_shown = hex_order;
  }

  pub request_14 : R.Request14 rows
  request_14 = record { one_nanosecond = Back.there_and_back; there_and_back = Back.table-there-and-back t rows e; day = day-plus-fraction }
