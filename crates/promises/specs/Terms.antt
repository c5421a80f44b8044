-- Words that the promises use: premises and groups of statements under a name. `rows` are those of a table that is taken. Assumes nothing.
use Rattle.std.specs.Prelude.{◌<◌, ℕ, ◌≤◌, false, true, List, [], ◌∷◌, ◌++◌, map, ◌⊎◌, ◌≡◌, T, Float, pos, ℤ, drop, get_or, length, Ok}
use Rattle.std.specs.Float.{binary64}
use Rattle.std.specs.Float.Ieee.{fits, le, of_bits}
use Rattle.std.specs.Float.Ieee.Scale.{finite}
use Rattle.refusals.specs.Outcome.{Outcome, answer, onward, refusal}
use Rattle.numerals.specs.little_endian.LittleEndian.{u32_at}
use Rattle.floats.specs.Whole.{abs, nought, one}
use Rattle.calendar.specs.Refusals.{valid_date}
use Rattle.julian.specs.DayFraction.{day_fraction}
use Rattle.julian.specs.Finite.{finite_arg, finite_jd}
use Rattle.julian.specs.JulianDate.{julian, rounded_sum}
use Rattle.julian.specs.day_number.Answer.{day_number_and_fraction}
use Rattle.julian.specs.Calendar.{julian_to_calendar}
use Rattle.julian.specs.declared.CalendarFields.{CalendarFields}
use Rattle.julian.specs.declared.JulianDate.{JulianDate}
use Rattle.julian.specs.declared.day_number.DayNumber.{DayNumber}
use Rattle.leap_table.specs.declared.judging.Triple.{Triple}
use Rattle.leap_table.specs.declared.offsets.Rule.TheVariants.{Absent, Drifting, Whole}
use Rattle.leap_table.specs.declared.rows.AnnouncedRows.{AnnouncedRows}
use Rattle.time_of_day.specs.ExactTime.{minus_one_f}
use Rattle.leap_table.specs.offsets.Leap.{leap_at_end_of_day}
use Rattle.leap_table.specs.offsets.Offset.{by_row, offset_at, tai_utc_offset}
use Rattle.leap_table.specs.declared.offsets.Rule.{Rule}
use Rattle.leap_table.specs.offsets.Rule.{forget, offset_by_rule, rule_of}
use Rattle.leap_table.specs.rows.Announced.{announced_size, rows_of, table_of}
use Rattle.leap_table.specs.rows.Table.{Row, none, starts}
use Rattle.leap_table.specs.walk.Call.{WalkCall, as_floats}
use Rattle.leap_table.specs.walk.Due.{triple_numbers}
use Rattle.leap_table.specs.walk.Rows.{compared}
use Rattle.leap_table.specs.walk.Walk.{month_in, triple_offset}
use Rattle.leap_table.specs.walk.Lists.{walk_of_numbers}
use Rattle.utc_scales.specs.ByRule.{utc_to_tai_by_rule}
use Rattle.utc_scales.specs.UtcTai.{utc_to_tai}
use Rattle.utc_scales.specs.days.DateRule.{rule_of_date}
use Rattle.utc_scales.specs.days.LargerPart.{kept_parts}
use Rattle.utc_scales.specs.to_ut1.ByRule.{utc_to_ut1_by_rule}
use Rattle.utc_scales.specs.to_ut1.UtcUt1.{utc_to_ut1}
use Rattle.utc.specs.UnixTime.{utc_new}
use Rattle.utc.specs.iso_texts.TextForm.{TextForm}
use Rattle.utc.specs.iso_texts.ByRule.{text_by_rule}
use Rattle.utc.specs.iso_texts.Expanded.{iso_text_expanded}
use Rattle.utc.specs.iso_texts.HalfEven.{iso_text_half_even}
use Rattle.utc.specs.iso_texts.IsoText.{iso_text, iso_text_by}
use Rattle.reasons.specs.Offending.{offending, time_field}
use Rattle.reasons.specs.Sentence.{reason_of}
use Rattle.reasons.specs.sentences.Render.{render}
use Rattle.reasons.specs.declared.Values.{Values}
use Rattle.reasons.specs.declared.Values.TheVariants.{Block, Count, Date, Number, Parts, Time}
use Rattle.reasons.specs.declared.sentences.Named.{Named}
use Rattle.reasons.specs.declared.sentences.Named.TheVariants.{Day, FirstPart, Fraction, Hour, Minute, Month, Nanos, NoField, Offset, Second}
use Rattle.reasons.specs.declared.sentences.Named.TheVariants.{SecondPart, SecondSize, Size, Sum, WholeLength, Year}
use Rattle.stamps.specs.declared.Reporting.{Reporting}
use Rattle.stamps.specs.declared.Reporting.TheVariants.{Sentences}
use Rattle.stamps.specs.Block.{block_of, stamp_at}
use Rattle.stamps.specs.Listing.{block_word, numeral, stamp_line, text_at}
use Rattle.stamps.specs.Parts.{line_of}
use Rattle.stamps.specs.reason_laws.Groups.{reads}

-- P holds of each of the three text calls: document 01's, to even, and with expanded years
abbrev pub EachText : List Row → ((JulianDate → Outcome (List ℕ)) → Type 0) → Type 0
EachText rows P = P (iso_text rows) × P (iso_text_half_even rows) × P (iso_text_expanded rows)

-- DUT1 is at most 1 s in size
abbrev pub SmallDut1 : Float → Type 0
SmallDut1 x = T (fits binary64 x) × T (le (abs x) one)

-- an answered walk over dates as numbers: c rows compared, the lent list before and after
abbrev pub Walks : AnnouncedRows → List Triple → List Float → ℕ → List Float → Type 0
Walks t ds before c after = WalkCall as_floats (onward (table_of t) (λ l. walk_of_numbers l (triple_numbers ds) (length before))) before (Ok c) after

-- at place i the offset that the look-up gives for date i at 0h, what lies behind as it was, and the rows compared by the definition
pub record WalkRight (t : AnnouncedRows) (rows : List Row) (ds : List Triple) (d : Triple) (before after : List Float) (c : ℕ) : Type 0 where
  pub offset : (i : ℕ) → i < length ds
      → tai_utc_offset (rows_of t) (get_or ds i d).year (get_or ds i d).month (get_or ds i d).day nought ≡ answer (get_or after i (triple_offset (rows_of t) d))
  pub spare : drop (length ds) after ≡ drop (length ds) before
  pub counted : c ≡ compared (starts rows) (map month_in ds)

-- the day of a date ends a second early
abbrev pub EndsEarly : List Row → ℤ → ℕ → ℕ → Type 0
EndsEarly rows y m d = (valid_date y (pos m) (pos d) ≡ answer tt) × (leap_at_end_of_day rows y (pos m) (pos d) ≡ answer minus_one_f)

-- 3 / 2048
abbrev pub three_2048ths : Float
three_2048ths = of_bits binary64 0x3f58_0000_0000_0000

-- t and u have the same sizes and the same rows, whatever stands past them
pub record SameRows (t u : AnnouncedRows) : Type 0 where
  pub months-size : t.months_size ≡ u.months_size
  pub seconds-size : t.seconds_size ≡ u.seconds_size
  pub rows : (i : ℕ) → i < announced_size t
      → (get_or t.months i (pos 0) ≡ get_or u.months i (pos 0)) × (get_or t.seconds i (pos 0) ≡ get_or u.seconds i (pos 0))

-- which row a rule names in month n (January 1960 is month 23520), and that the offset is that row's
pub record RuleNames (t : AnnouncedRows) (rows : List Row) (n : ℕ) : Type 0 where
  pub before_1960 : n < 23520 → rule_of rows n ≡ Absent
  pub absent : rule_of (rows_of t) n ≡ Absent → n < 23520
  pub drifting : (i : ℕ) → rule_of (rows_of t) n ≡ Drifting i → i < 14
  pub whole : (i : ℕ) → rule_of (rows_of t) n ≡ Whole i → 14 ≤ i
  pub none_given : rule_of rows n ≡ Absent → (mjd f : Float) → offset_at rows n mjd f ≡ nought
  pub drifting_given : (i : ℕ) → rule_of rows n ≡ Drifting i → (mjd f : Float) → offset_at rows n mjd f ≡ by_row (get_or rows i none) mjd f
  pub whole_given : (i : ℕ) → rule_of rows n ≡ Whole i → (mjd f : Float) → offset_at rows n mjd f ≡ by_row (get_or rows i none) mjd f

-- the rule passed on is that of the calendar's date: of the larger and the smaller part, of jd1 and jd2, and of the date before a text's carry
pub record PassedOn (rows : List Row) : Type 0 where
  pub by_tai : (d x : JulianDate) (r : Rule) → utc_to_tai_by_rule rows d ≡ answer (x, r) → rule_of_date rows (kept_parts d).larger (kept_parts d).smaller
      ≡ answer r
  pub by_ut1 : (d x : JulianDate) (s : Float) (r : Rule) → utc_to_ut1_by_rule rows d s ≡ answer (x, r) → rule_of_date rows d.jd1 d.jd2 ≡ answer r
  pub by_texts : (form : TextForm) (d : JulianDate) (s : List ℕ) (r : Rule) → text_by_rule form rows d ≡ answer (s, r)
      → rule_of_date rows d.jd1 d.jd2 ≡ answer r

-- without its rule each call is the one of before
pub record WithoutRule (rows : List Row) : Type 0 where
  pub offset : (y m d : ℤ) (f : Float) → forget (offset_by_rule rows y m d f) ≡ tai_utc_offset rows y m d f
  pub tai : (d : JulianDate) → forget (utc_to_tai_by_rule rows d) ≡ utc_to_tai rows d
  pub ut1 : (d : JulianDate) (s : Float) → forget (utc_to_ut1_by_rule rows d s) ≡ utc_to_ut1 rows d s
  pub text : (form : TextForm) (d : JulianDate) → forget (text_by_rule form rows d) ≡ iso_text_by form rows d

-- number k names the field f of the values v
abbrev pub Names : ℕ → Values → Named → Type 0
Names k v f = reason_of k v ≡ answer (record { number = k; named = f })

-- the values that the test of a block reads
abbrev pub values_of_block : List ℕ → Values
values_of_block s = Block (length s) (u32_at s 0) (u32_at s 4)

-- the field that each number names, where document 01's test gives that number
pub record FieldNamed (rows : List Row) : Type 0 where
  pub year : (y m d : ℤ) → valid_date y m d ≡ refusal 1 → Names 1 (Date y m d) (Year y)
  pub month : (y m d : ℤ) → valid_date y m d ≡ refusal 2 → Names 2 (Date y m d) (Month m)
  pub day : (y m d : ℤ) → valid_date y m d ≡ refusal 3 → Names 3 (Date y m d) (Day d)
  pub hour : (h m : ℕ) (s l : Float) → 23 < h → Names 4 (Time h m s l) (Hour h)
  pub minute : (h m : ℕ) (s l : Float) → h ≤ 23 → 59 < m → Names 4 (Time h m s l) (Minute m)
  pub second : (h m : ℕ) (s l : Float) → day_fraction h m s l ≡ refusal 4 → h ≤ 23 → m ≤ 59 → Names 4 (Time h m s l) (Second s)
  pub rounded-sum : (a b : Float) → day_number_and_fraction a b ≡ refusal 6 → Names 6 (Parts a b) (Sum (rounded_sum (julian a b)))
  pub fraction : (y m d : ℤ) (x : Float) → tai_utc_offset rows y m d x ≡ refusal 7 → Names 7 (Number x) (Fraction x)
  pub nanos : (z : ℤ) (n : ℕ) → utc_new rows z n ≡ refusal 8 → Names 8 (Count n) (Nanos n)
  pub bad_part : (d : JulianDate) → finite_jd d ≡ refusal 9 → ((finite d.jd1 ≡ false) × Names 9 (Parts d.jd1 d.jd2) (FirstPart d.jd1))
      ⊎ ((finite d.jd1 ≡ true) × Names 9 (Parts d.jd1 d.jd2) (SecondPart d.jd2))
  pub offset : (x : Float) → finite_arg x ≡ refusal 10 → Names 10 (Number x) (Offset x)
  pub second_size : (s : List ℕ) → block_of s ≡ refusal 12 → Names 12 (values_of_block s) (SecondSize (u32_at s 4))
  pub size : (s : List ℕ) → block_of s ≡ refusal 13 → Names 13 (values_of_block s) (Size (u32_at s 0))
  pub whole_length : (s : List ℕ) → block_of s ≡ refusal 14 → Names 14 (values_of_block s) (WholeLength (length s))

-- numbers without values and values that pass name no field
pub record NoneNamed (rows : List Row) : Type 0 where
  pub other_number : (k : ℕ) (v : Values) → reads k v ≡ false → offending k v ≡ NoField
  pub date : (y m d : ℤ) (k : ℕ) → valid_date y m d ≡ answer tt → offending k (Date y m d) ≡ NoField
  pub time : (h m : ℕ) (s l x : Float) → day_fraction h m s l ≡ answer x → time_field h m s l ≡ NoField
  pub rounded-sum : (a b : Float) (n : DayNumber) → day_number_and_fraction a b ≡ answer n → offending 6 (Parts a b) ≡ NoField
  pub fraction : (y m d : ℤ) (x z : Float) → tai_utc_offset rows y m d x ≡ answer z → offending 7 (Number x) ≡ NoField
  pub nanos : (z : ℤ) (n : ℕ) (d : JulianDate) → utc_new rows z n ≡ answer d → offending 8 (Count n) ≡ NoField
  pub parts : (d : JulianDate) → finite_jd d ≡ answer d → offending 9 (Parts d.jd1 d.jd2) ≡ NoField
  pub offset : (x : Float) → finite_arg x ≡ answer x → offending 10 (Number x) ≡ NoField
  pub block : (s : List ℕ) (k n : ℕ) → block_of s ≡ answer n → offending k (values_of_block s) ≡ NoField

-- the sentence of number k with the field f
abbrev pub told : ℕ → Named → List ℕ
told k f = render (record { number = k; named = f })

-- what the second listing prints: for a refused stamp its index and the sentence, for a refused block `block` and the sentence, else what the first does
pub record SentencesPrinted (rows : List Row) : Type 0 where
  pub stamp_by_6 : (m : ℕ) (s : List ℕ) (n i : ℕ) → text_at rows s n i ≡ refusal 6
      → stamp_line (Sentences m) rows s n i ≡ ((numeral i ++ (32 ∷ [])) ++ told 6 (Sum (rounded_sum (stamp_at s n i)))) ++ (10 ∷ [])
  pub stamp_by_1 : (m : ℕ) (s : List ℕ) (n i : ℕ) → text_at rows s n i ≡ refusal 1
      → (c : CalendarFields) × (julian_to_calendar (stamp_at s n i).jd1 (stamp_at s n i).jd2 ≡ answer c)
      × (stamp_line (Sentences m) rows s n i ≡ ((numeral i ++ (32 ∷ [])) ++ told 1 (Year c.date.year)) ++ (10 ∷ []))
  pub block_by_12 : (m : ℕ) (s : List ℕ) (line : ℕ) → block_of s ≡ refusal 12
      → line_of (Sentences m) rows (block_of s) s line ≡ (block_word ++ told 12 (SecondSize (u32_at s 4))) ++ (10 ∷ [])
  pub block_by_13 : (m : ℕ) (s : List ℕ) (line : ℕ) → block_of s ≡ refusal 13
      → line_of (Sentences m) rows (block_of s) s line ≡ (block_word ++ told 13 (Size (u32_at s 0))) ++ (10 ∷ [])
  pub block_by_14 : (s : List ℕ) (line : ℕ) → block_of s ≡ refusal 14
      → line_of (Sentences (length s)) rows (block_of s) s line ≡ (block_word ++ told 14 (WholeLength (length s))) ++ (10 ∷ [])
  pub with-text : (how other : Reporting) (s : List ℕ) (n i : ℕ) (t : List ℕ) → text_at rows s n i ≡ answer t
      → stamp_line how rows s n i ≡ stamp_line other rows s n i
  pub header : (how other : Reporting) (s : List ℕ) (n : ℕ) → block_of s ≡ answer n → line_of how rows (block_of s) s 0 ≡ line_of other rows (block_of s) s 0
