-- THE FOURTEEN REQUESTS, for every table that is taken. Assumes nothing.
use mathlib.Core.Path.{◌≡◌, refl}
use mathlib.Core.Bool.{Bool}
use mathlib.Core.List.{List}
use Prim.Native.Nat.{ℕ}
use lib.IntN.{ℤ, negsuc}
use lib.ListN.{length}
use lib.Ieee.{Float}
use Rattle.std.specs.Prelude.{Result}
use Rattle.refusals.specs.declared.Refusal.{Refusal}
use Rattle.refusals.specs.Outcome.{answer}
use Rattle.calendar.specs.declared.CalendarDate.{CalendarDate}
use Rattle.calendar.specs.Calendar.{date}
use Rattle.calendar.specs.Gregorian.{gregorian_date}
use Rattle.calendar.proofs.laws.NoAnswerChanges.{no_answer_changes}
use Rattle.julian.specs.declared.JulianDate.{JulianDate}
use Rattle.julian.specs.declared.same_stamps.Stamp.{Stamp}
use Rattle.julian.proofs.laws.CalendarDays.{day-plus-fraction}
use Rattle.julian.proofs.same_stamps.Same.{is_same, same_is}
use Rattle.julian.proofs.same_stamps.Equal.{same-implies-equal}
use Rattle.time_of_day.specs.declared.TimeOfDay.{TimeOfDay}
use Rattle.time_of_day.proofs.EvenWays.{by_the_float, by-whole-numbers}
use Rattle.leap_table.specs.declared.judging.Triple.{Triple}
use Rattle.leap_table.specs.declared.rows.AnnouncedRows.{AnnouncedRows}
use Rattle.leap_table.specs.rows.Table.{Row}
use Rattle.leap_table.specs.rows.Announced.{table_of}
use Rattle.leap_table.proofs.rows.TableLaws.{spare-unread, table-decided, table-rises}
use Rattle.leap_table.proofs.offsets.Told.{names-last-begun, rule_told}
use Rattle.leap_table.proofs.walk.Right.{walk-right}
use Rattle.leap_table.proofs.walk.Counts.{most-by-any}
use Rattle.leap_table.proofs.walk.Due.{numbers-decided}
use Rattle.leap_days.proofs.EveryTable.{every_table}
use Rattle.scales.proofs.gps_week_laws.Weeks.{date-to-week, nearest_given, week-to-date, weeks_refused}
use Rattle.scales.proofs.gps_week_laws.RoundTrip.{round_trip}
use Rattle.utc_scales.specs.laws.Twenty.{Twenty}
use Rattle.utc_scales.proofs.laws.Asked.{no_rows_same, scales-pass-on}
use Rattle.utc_scales.proofs.laws.AnnouncedCalls as Announced
use Rattle.utc_scales.proofs.ut1_laws.Sofa.{nanosecond_back}
use Rattle.utc.specs.iso_texts.TextForm.{TextForm}
use Rattle.utc.proofs.laws.Calls.{expanded-like-01, halves_away, short_day, texts-pass-on}
use Rattle.utc.proofs.laws.HalfEvenTexts.{even-for-every-buffer}
use Rattle.utc.proofs.laws.ExpandedTexts.{expanded-for-every-buffer, expanded-text-length}
use Rattle.parsing.specs.scan.Written.{Written}
use Rattle.parsing_laws.proofs.Around.{same-around, same-with-zulu}
use Rattle.parsing_laws.proofs.Grammar as Grammar
use Rattle.parsing_laws.proofs.Read.{fields_read, text-reads-back}
use Rattle.parsing_laws.proofs.Ladder.{verdict}
use Rattle.reasons.specs.declared.Values.{Values}
use Rattle.reasons.proofs.Cases.{hex_order, nan_digits, sentence-decided}
use Rattle.stamps.specs.declared.Reporting.{Reporting}
use Rattle.stamps.proofs.listing_laws.Asked.{lists-expanded, longest-is-33, through_64}
use Rattle.stamps.proofs.reason_laws.Named.{field_named, sentences_printed, too_long_is_11}
use Rattle.stamps.proofs.reason_laws.Names.{other_number}
use Rattle.stamps.proofs.reason_laws.ReadBack.{same-sentence}
use Rattle.ticks.specs.Ticks.{TicksCall, placed_ticks}
use Rattle.ticks.proofs.laws.Call.{call-means}
use Rattle.standby.specs.declared.UtcTime.{UtcTime}
use Rattle.standby_laws.proofs.Asked.{shares-right, started-quarters, time-faults}
use Rattle.standby_laws.proofs.Means.{bill-means}
use Rattle.c_answers.proofs.table.ReadBack.{table-back}
use Rattle.c_answers.proofs.table.Laws.{other_length}
use Rattle.worked_cases.proofs.HalfTexts.{half-millisecond}
use Rattle.promises.specs.Promises as R
use Rattle.promises.proofs.Demands.{demand_3}

-- -4900-02-30
pub before-the-calendar : gregorian_date (negsuc 68569) ≡ date (negsuc 4899) 2 30
unfolding gregorian_date
before-the-calendar = refl

pub request_3 : (n : ℤ) → R.Request3 n
request_3 n = record { own_case = before-the-calendar; same = no_answer_changes n }

pub request_7 : (week ms bits reference w : ℕ) (d : JulianDate) → R.Request7 week ms bits reference w d
request_7 week ms bits reference w d = record {
  to_date = week-to-date week ms d;
  way_back = date-to-week d;
  nearest = nearest_given bits reference w;
  same_pair = round_trip week ms d;
  turned_away = weeks_refused d bits reference;
}

pub request_9 : (a b : Stamp) → R.Request9 a b
request_9 a b = record { same_stamp = (same_is a b, is_same a b); equal_too = same-implies-equal a b }

pub request_10 : (ps ms ts before after : List ℕ) (r : Result ℕ Refusal) → TicksCall (placed_ticks ps ms ts (length before)) before r after
    → R.Request10 ps ms ts before after r
request_10 ps ms ts before after r c = record {
  placed = (call-means ps ms ts before after r c).placed;
  turned_away = ((call-means ps ms ts before after r c).decided, (call-means ps ms ts before after r c).refused);
}

module _ (t : AnnouncedRows) (rows : List Row) (e : table_of t ≡ answer rows) where
  pub request_1 : (utc : Bool) (s : List ℕ) (w : Written) → R.Request1 rows utc s w
  request_1 utc s w = record {
    one_z = same-with-zulu s w;
    blanks = same-around utc s w;
    six_fields = fields_read rows utc s;
    one_reading = λ v. Grammar.one_reading utc s v w;
    reads_back = text-reads-back t rows e s;
    turned_away = verdict utc s;
  }

  pub request_2 : (ds : List Triple) (d : Triple) (before after : List Float) (c : ℕ) → R.Request2 t rows ds d before after c
  request_2 ds d before after c = record { walk = walk-right t rows e ds d before after c; turned_away = λ l. numbers-decided rows l d }

  pub request_4 : (f l : Float) → R.Request4 rows f l
  request_4 f l = record {
    whole_numbers = by-whole-numbers f l;
    half = half-millisecond;
    off_grid = by_the_float f l;
    within = even-for-every-buffer t rows e;
    halves_away = halves_away;
  }

  pub request_5 : (n i : ℕ) (y m d : ℤ) (f x : Float) (j : JulianDate) (form : TextForm) → R.Request5 rows n i y m d f x j form
  request_5 n i y m d f x j form = record {
    told = rule_told t rows e n i y m d f x;
    passed_on = (scales-pass-on rows j f, texts-pass-on form rows j);
    last_begun = names-last-begun rows n i;
  }

  pub request_6 : (j : JulianDate) (d : CalendarDate) (u : TimeOfDay) (s : List ℕ) (n i : ℕ) → R.Request6 rows j d u s n i
  request_6 j d u s n i = record {
    like_01 = expanded-like-01 rows j d u;
    lister = lists-expanded rows s n i;
    alike = (expanded-text-length rows j, expanded-for-every-buffer t rows e);
  }

  pub request_8 : (s : List ℕ) (k : Twenty) (j : JulianDate) (y : ℤ) (m d : ℕ) (second : Float) → R.Request8 t rows s k j y m d second
  request_8 s k j y m d second = record {
    unread = λ u r. spare-unread t u r.months-size r.seconds-size r.rows;
    from_c = (table-back t, other_length s);
    rising_rows = table-rises t rows e;
    no_rows = no_rows_same t k j;
    walk = most-by-any t rows e;
    short_day = short_day rows y m d second;
    follows = (every_table t rows e, demand_3 t rows e, λ utc w. request_1 utc s w);
    turned_away = (table-decided t, Announced.table-first t k j);
  }

  pub request_11 : (from q total rate a b : ℕ) (u end : UtcTime) → R.Request11 rows from q total rate a b u end
  request_11 from q total rate a b u end = record {
    started = started-quarters t rows e u from;
    shares = shares-right from q total rate a b;
    faults = time-faults t rows e u;
    bill = bill-means rows u end rate a b;
  }

  pub request_12 : (s : List ℕ) (k : ℕ) → R.Request12 rows s k
  request_12 s k = record { longest = longest-is-33 rows s k; alike = through_64 rows s k }

  pub request_13 : (k : ℕ) (v : Values) (y m d : ℤ) (h n i line : ℕ) (a b : Float) (s : List ℕ) (how other : Reporting)
      → R.Request13 rows k v y m d h n i line a b s how other
  request_13 k v y m d h n i line a b s how other = record {
    decided = sentence-decided k v;
    names = field_named rows y m d h n a b s;
    no_other = other_number k v;
    same_only_if = same-sentence;
    too_long = too_long_is_11 k v;
    printed = sentences_printed rows how other k n i line s;
    digits = (nan_digits, hex_order);
  }

  pub request_14 : (j : JulianDate) → R.Request14 rows j
  request_14 j = record { back = nanosecond_back t rows e j; day = day-plus-fraction j }
