-- The customer's sentences: a record for each demand and each request, a field for each sentence, for all values that it takes and every lent table t whose
-- rows are taken. Written from the mission and document 02; docs/PROMISES.md has them in full. Assumes nothing.
use Rattle.std.specs.Prelude.{◌*◌, ◌+◌, ◌<◌, ◌≤◌, ℕ, Bool, List, ◌≡◌, T, Float, negsuc, ℤ, length, Result, Ok}
use Rattle.refusals.specs.declared.Refusal.{Refusal}
use Rattle.calendar.specs.{Calendar.date, Gregorian.gregorian_date, declared.CalendarDate.CalendarDate, laws.IsoCalendar.IsoCalendar}
use Rattle.calendar.specs.{laws.IsoCalendar.RustsDate}
use Rattle.julian.specs.{declared.JulianDate.JulianDate as JD, declared.same_stamps.Stamp.Stamp}
use Rattle.julian.specs.laws.Calls.{CalendarBySix, CalendarRefuses, ExactDate, NearExactDate, SameDateBack, SameIsAlike, SameIsEqual}
use Rattle.time_of_day.specs.{EvenWays.ByTheFloat, EvenWays.ByWholeNumbers, declared.TimeOfDay.TimeOfDay}
use Rattle.leap_table.specs.rows.{Announced.Decision, Announced.SpareUnread, Table.Row, Table.rising, Table.starts}
use Rattle.leap_table.specs.{declared.judging.Triple.Triple, declared.rows.AnnouncedRows.AnnouncedRows as Table}
use Rattle.leap_table.specs.{offsets.Told.NamesLastBegun, offsets.Told.RuleTold, walk.Right.WalkAtMost, walk.Right.WalkDecided, walk.Right.WalkRight}
use Rattle.leap_days.specs.Tables.{EveryTable}
use Rattle.scales.specs.gps_week_laws.Weeks.{DateToWeek, NearestGiven, SamePairBack, WeekToDate, WeeksRefused}
use Rattle.scales.specs.laws.Ranges.{Practical}
use Rattle.utc_scales.specs.laws.Asked.{ConversionAnswers, ConversionFinite, ConversionRefuses, NoRowsSame, ScalesPassOn, TableFirst}
use Rattle.utc_scales.specs.round_trip.{Ranges.HalfDaySplit, Recorders.Agree, Recorders.OneInstant}
use Rattle.utc_scales.specs.{laws.Twenty.Twenty, ut1_laws.Sofa.IersTable, ut1_laws.Sofa.NanosecondBack, ut1_laws.Sofa.SofaRelations}
use Rattle.utc.specs.iso_texts.TextForm.{TextForm}
use Rattle.utc.specs.laws.Calls.{CallsDecided, ExpandedLike01, HalvesAway, Of23Or27, OneExpandedText, OneHalfEvenText, OneTextEach, RefusedTextStays}
use Rattle.utc.specs.laws.Calls.{ShortDay, TextsPassOn, TextsRefuse}
use Rattle.parsing.specs.{Parsed.parsed, scan.Written.Written}
use Rattle.parsing_laws.specs.{Read.FieldsRead, Read.OneReading, Read.SameInBlanks, Read.SameWithZ, Read.TextReadsBack, Verdict.Verdict}
use Rattle.reasons.specs.{Decision.SentenceDecision, Decision.SixteenDigits, declared.Values.Values}
use Rattle.stamps.specs.declared.Reporting.{Reporting}
use Rattle.stamps.specs.listing_laws.Asked.{AlikeThrough64, ListsExpanded, LongestIs33, NotFiniteCounted}
use Rattle.stamps.specs.reason_laws.Named.{FieldNamed, NoOtherNamed, SameOnlyIf, SentencesPrinted, TooLongIs11}
use Rattle.runs.specs.laws.Done.{RunConverted}
use Rattle.line_up.specs.laws.Line.{LineRight}
use Rattle.line_listing.specs.{laws.Right.ListingRight, listing.Listing.NamedRun}
use Rattle.since_launch.specs.laws.SinceLaunch.{AtMostOneApart, CountedTo, NearAnywhere, NearestOnGrid, NotFiniteIsNine, OneInstantCounted}
use Rattle.since_launch.specs.laws.SinceLaunch.{OwnMilliseconds, exact_millis, millis_off, millis_units}
use Rattle.ticks.specs.laws.Slopes.{NearExact, NearOverBoth, SlopeAtMost, TimeBetween}
use Rattle.ticks.specs.laws.{Readings.IsPlaced, Readings.ReadingsMeaning, Reasons.PlacedWhole, Reasons.RefusedWhole}
use Rattle.ticks.specs.{Ticks.passes_of, judging.Refusing.number_at}
use Rattle.standby.specs.{Bills.standby_bill, declared.UtcTime.UtcTime}
use Rattle.standby_laws.specs.{Asked.SharesRight, Asked.StartedQuarters, Asked.TimeFaults, Meaning.BillMeaning}
use Rattle.c_answers.specs.table.RecordBytes.{TableInBytes}
use Rattle.worked_cases.specs.{Cases.answers, Cases.expectations, Cases.starred, HalfTexts.HalfMillisecond}

abbrev pub Bytes : Type 0
Bytes = List ℕ

abbrev pub Rows : Type 0
Rows = List Row

-- 1. refused by number, and always an end
pub record Demand1 (t : Table) (rows : Rows) (k : Twenty) (j : JD) (x : Float) (y m d : ℤ) (n : ℕ) (before after : Bytes) : Type 0 where
  -- "If a date's part or an offset is not finite, .."
  pub refuses : ConversionRefuses t k j × CalendarRefuses j.jd1 j.jd2 × TextsRefuse rows j
  -- "each call ends with an answer or with document 01's refusal"
  pub ends : ConversionAnswers t k j × CalendarBySix j.jd1 j.jd2 × CallsDecided t j x y m d n before after
  -- "a refused text call changes no byte .."
  pub stays : RefusedTextStays before after
  -- "no conversion hands out a NaN or an infinity"
  pub finite : ConversionFinite t k j

-- 2. right; that each answer equals the Rust's is the contracts'
pub record Demand2 (t : Table) (rows : Rows) (n y m d : ℤ) (j : JD) (x dut1 : Float) : Type 0 where
  -- "definitions from ISO 8601", "the IERS table", "and SOFA"
  pub calendar : IsoCalendar n y m d
  pub tai_utc : IersTable t rows m d x
  pub scales : SofaRelations rows j dut1
  -- "turned into a Julian date and back is the same date .."
  pub there_and_back : SameDateBack y m d n

-- 3. one answer for all divisions of a date
pub record Demand3 (rows : Rows) : Type 0 where
  -- "the calendar answer is that sum's exact day .."
  pub calendar : ExactDate
  -- "All such divisions of one date are alike .."
  pub text : OneTextEach rows

-- document 01's sixteen starred cases
pub record StarredCases : Type 0 where
  pub answered : (length starred ≡ 16) × (answers starred ≡ expectations starred)

pub record Request1 (rows : Rows) (utc : Bool) (s : Bytes) (w : Written) : Type 0 where
  -- "a UTC text may also have one Z .."
  pub one_z : SameWithZ s w
  -- "Blanks around a text are dropped .."
  pub blanks : SameInBlanks utc s w
  -- "The answer is the six fields; .."
  pub six_fields : FieldsRead rows utc s
  -- "with one reading each"
  pub one_reading : OneReading utc s w
  -- "Every UTC text that we write .. reads back as its fields"
  pub reads_back : TextReadsBack rows s
  -- "Turned away: 15 .."
  pub turned_away : Verdict utc s (parsed utc s)

pub record Request2 (t : Table) (rows : Rows) (ds : List Triple) (d : Triple) (before after : List Float) (c : ℕ) : Type 0 where
  -- "Each offset is that of 01's single lookup", and the count
  pub walk : WalkRight t rows ds d before after c
  -- "Turned away: 14 .."
  pub turned_away : WalkDecided rows d

pub record Request3 (n : ℤ) : Type 0 where
  -- "The shifted number -1, which gives -02-30": day -68570
  pub own_case : gregorian_date (negsuc 68569) ≡ date (negsuc 4899) 2 30
  -- "No answer changes."
  pub same : RustsDate n

pub record Request4 (rows : Rows) (f l : Float) : Type 0 where
  -- "decided on whole numbers .."
  pub whole_numbers : ByWholeNumbers f l
  -- "the old text ends in 02:06.563, the new in 02:06.562"
  pub half : HalfMillisecond
  -- "A fraction off that grid, and all of 1959-12-31, .."
  pub off_grid : ByTheFloat f l
  -- "within 0.5 ms of the exact one on the grid"
  pub within : OneHalfEvenText rows
  -- "01's text call keeps halves away."
  pub halves_away : HalvesAway

pub record Request5 (rows : Rows) (n i : ℕ) (y m d : ℤ) (f x : Float) (j : JD) (form : TextForm) : Type 0 where
  -- "which table row, counted from 0, gave the offset .."
  pub told : RuleTold rows n i y m d f x
  -- "UTC to TAI, UTC to UT1 and the text calls pass on .."
  pub passed_on : ScalesPassOn rows j f × TextsPassOn form rows j
  -- "the row named is the last whose month has begun"
  pub last_begun : NamesLastBegun rows n i

pub record Request6 (rows : Rows) (j : JD) (d : CalendarDate) (u : TimeOfDay) (s : Bytes) (n i : ℕ) : Type 0 where
  -- "a text call like 01's .."
  pub like_01 : ExpandedLike01 rows j d u
  -- "The lister uses it from then on."
  pub lister : ListsExpanded rows s n i
  -- "Its longest text is 27 bytes .."
  pub alike : Of23Or27 rows j × OneExpandedText rows

pub record Request7 (week ms bits reference w : ℕ) (d : JD) : Type 0 where
  -- "counted from 1980-01-06 0h GPS"
  pub to_date : WeekToDate week ms d
  -- "The way back takes document 01's day and fraction .."
  pub way_back : DateToWeek d
  -- "the week with those ten bits .."
  pub nearest : NearestGiven bits reference w
  -- "turned into a date and back are the same pair"
  pub same_pair : SamePairBack week ms d
  -- "Turned away: 9 .."
  pub turned_away : WeeksRefused d bits reference

pub record Request8 (t : Table) (rows : Rows) (s : Bytes) (k : Twenty) (j : JD) (y : ℤ) (m d : ℕ) (second : Float) : Type 0 where
  -- "unread past the size"
  pub unread : SpareUnread t
  -- "From C it is these 136 bytes .."
  pub from_c : TableInBytes t s
  -- "the rising order .. cover all its rows"
  pub rising_rows : T (rising (starts rows))
  -- "With no lent rows every answer stays."
  pub no_rows : NoRowsSame t k j
  -- "at most the dates plus 58 rows"
  pub walk : WalkAtMost rows
  -- "A step of -1 s .."
  pub short_day : ShortDay rows y m d second
  -- "The exact day length follows the table, and .."
  pub follows : EveryTable t rows × Demand3 rows × ((utc : Bool) (w : Written) → Request1 rows utc s w)
  -- "Turned away, each test over all rows before the next .."
  pub turned_away : Decision t × TableFirst t k j

pub record Request9 (a b : Stamp) : Type 0 where
  -- "the same scale and both parts with the same bits"
  pub same_stamp : SameIsAlike a b
  -- "Equal by this test and finite implies equal by 01's .."
  pub equal_too : SameIsEqual a b

-- of a call over passes (ps, ms) and ticks ts, in bytes, that answers r and leaves `after` where `before` was
pub record Request10 (ps ms ts before after : Bytes) (r : Result ℕ Refusal) : Type 0 where
  -- "a TAI millisecond on the straight line .."
  pub placed : PlacedWhole ps ms ts before r after
  -- "Turned away whole, in this order .."
  pub turned_away : RefusedWhole ps ms ts before r after

pub record Request11 (rows : Rows) (e q total rate a b : ℕ) (u end : UtcTime) : Type 0 where
  -- "each started 900 s between two UTC times .."
  pub started : StartedQuarters rows e u
  -- "both shares are rounded down .."
  pub shares : SharesRight e q total rate a b
  -- "A date or time fault has `utc_from_calendar`'s number .."
  pub faults : TimeFaults rows u
  -- "Turned away after those: 26 .."
  pub bill : BillMeaning rows u end rate a b (standby_bill rows u end rate a b)

pub record Request12 (rows : Rows) (s : Bytes) (k : ℕ) : Type 0 where
  -- "The longest line is 33 bytes."
  pub longest : LongestIs33 rows s k
  -- "byte for byte what the larger scratch gave"
  pub alike : AlikeThrough64 rows s k

pub record Request13 (rows : Rows) (k : ℕ) (v : Values) (y m d : ℤ) (h n i line : ℕ) (a b : Float) (s : Bytes) (how other : Reporting) : Type 0 where
  -- "its number (one not 1 to 28 is 18) .."
  pub decided : SentenceDecision k v
  -- "1 to 3 the wrong one, 4 the first wrong one, .."
  pub names : FieldNamed rows y m d h n a b s
  -- "other numbers .. name none"
  pub no_other : NoOtherNamed k v
  -- "the same only if refusal number, field and value .."
  pub same_only_if : SameOnlyIf
  -- "A sentence longer than its buffer is 11."
  pub too_long : TooLongIs11 k v
  -- "A second listing program prints them"
  pub printed : SentencesPrinted rows how other k n i line s
  -- "16 hexadecimal digits of their bits, .."
  pub digits : SixteenDigits

pub record Request14 (rows : Rows) (j : JD) : Type 0 where
  -- "UTC and back lies within 1 ns of it .."; by every table 173 ps
  pub back : NanosecondBack rows j
  -- "day number plus fraction is within 2^-51 day .."
  pub day : NearExactDate j

-- beyond the requests: three recorders, and who lines them up
pub record Recorders (rows : Rows) : Type 0 where
  -- one instant, stamped by GPS, TAI and UTC to e ps
  pub one_instant : (e : ℕ) (g t u : JD) → Practical g → HalfDaySplit u → OneInstant rows e g t u → Agree rows e g t u
  -- a stamp of a block that is not finite
  pub block : (s : Bytes) (n i : ℕ) → NotFiniteCounted rows s n i
  -- a run from one scale to another
  pub run : (from to : ℕ) (js ks out1 out2 numbers : Bytes) → RunConverted rows from to js ks out1 out2 numbers
  -- the line of three runs
  pub line : (js ks ns : Bytes) (first second : ℕ) (out : Bytes) (tails ranks : ℕ) → LineRight js ks ns first second out tails ranks
  -- their listing
  pub listing : (sentences : Bool) (gps tai utc : NamedRun) (out : Bytes) (work1 work2 : ℕ) → ListingRight sentences rows gps tai utc out work1 work2

-- whole milliseconds from the launch to a stamp of the same uniform scale
pub record SinceLaunch (from to : JD) (week ms week' ms' : ℕ) : Type 0 where
  -- on the grid the nearest
  pub nearest : NearestOnGrid from to
  -- and of any dates with parts under 2^52
  pub near : NearAnywhere from to
  -- two dates made of GPS weeks and milliseconds
  pub own : OwnMilliseconds from to week ms week' ms'
  -- a part that is not finite
  pub not_finite : NotFiniteIsNine
  -- two stamps of one instant
  pub one_apart : (other : JD) → AtMostOneApart from to other

-- the places of a run of readings between marker passes, for every call
pub record Places (ps ls ms ns before : Bytes) (r : Result ℕ Refusal) (ns' after : Bytes) : Type 0 where
  -- a number for each reading, its place on the line between the passes
  pub call : ReadingsMeaning ps ls ms ns before r ns' after
  -- over both steps, by passes nowhere steeper than rise / run
  pub over_both : NearOverBoth ps ls ms r ns' after
  -- from stamp to place: a stamp worth (P' - N') / L days, from a launch of (P - N) / L
  pub stamp : (n rise run i j : ℕ) → r ≡ Ok n → SlopeAtMost (passes_of ps ls) rise run → IsPlaced ms ns' i → (from to : JD) (P N P' N' : ℕ)
      → CountedTo from to P N P' N' (number_at ms i) → N' + P ≤ P' + N → TimeBetween (passes_of ps ls) (exact_millis P N P' N') millis_units j
      → NearExact (passes_of ps ls) rise run (exact_millis P N P' N') millis_units millis_off j (number_at after i)
  -- two readings of one instant: one place at one millisecond, and else at most a millisecond's travel and 1 mm apart
  pub one_dent : (n rise run i k e : ℕ) (from x y : JD) → r ≡ Ok n → SlopeAtMost (passes_of ps ls) rise run → IsPlaced ms ns' i
      → IsPlaced ms ns' k → OneInstantCounted from x y e (number_at ms i) (number_at ms k)
      → (number_at ms i ≡ number_at ms k → number_at after i ≡ number_at after k) × (number_at after k * run < (number_at after i + 1) * run + rise)
      × (number_at after i * run < (number_at after k + 1) * run + rise)
