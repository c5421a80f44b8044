-- The summary of three recorders' runs that were lined up, a list of bytes. Written from the request for it: of each named run the first and the last ordered
-- stamp and the time between them, and how many are left out and the first of them; of the table how many rows it has, where the last begins, how many are lent
-- and until when it is known; and a line for each thing to look at. Assumes nothing.
use Rattle.std.specs.Prelude.{ℕ, ◌+◌, ◌-◌, ◌/◌, ◌%◌, cond, List, [], ◌∷◌, ◌++◌, length, pos, ◌==◌}
use Rattle.refusals.specs.Outcome.{Outcome, answer, refusal, onward}
use Rattle.calendar.specs.declared.CalendarDate.{CalendarDate}
use Rattle.calendar.specs.Gregorian.{gregorian_date}
use Rattle.julian.specs.declared.JulianDate.{JulianDate}
use Rattle.leap_table.specs.rows.Table.{Row}
use Rattle.leap_table.specs.rows.Announced.{natural}
use Rattle.leap_table.specs.offsets.WholeSeconds.{whole_seconds}
use Rattle.utc_scales.specs.UtcTai.{tai_to_utc}
use Rattle.utc.specs.text.Ascii.{ascii_bytes}
use Rattle.utc.specs.iso_texts.Expanded.{iso_text_expanded}
use Rattle.since_launch.specs.Millis.{millis_from_to}
use Rattle.line_listing.specs.declared.head.RunEnd.{RunEnd}
use Rattle.line_listing.specs.declared.summary.Seen.{Seen}
use Rattle.line_listing.specs.declared.summary.Ends.{Ends}
use Rattle.line_listing.specs.lines.StampLine.{Stamps}
use Rattle.line_listing.specs.head.Counts.{first_end, second_end}
use Rattle.line_listing.specs.head.Head.{counted}
use Rattle.line_listing.specs.summary.Seen.{seen_in, ends_of}
use Rattle.line_listing.specs.summary.Known.{lent_rows, last_month_of, known_until}
use Rattle.line_listing.specs.summary.Look.{look_of}

-- ---- a stamp: the UTC text of its TAI, with expanded years
unfoldable pub text_or : Outcome (List ℕ) → List ℕ
text_or (answer t) = t
text_or (refusal k) = ascii_bytes "no text"

unfoldable pub date_told : List Row → JulianDate → List ℕ
date_told rows tai = text_or (onward (tai_to_utc rows tai) (iso_text_expanded rows))

-- ---- a time in milliseconds, told in seconds with three decimals
unfoldable pub thousandths : ℕ → List ℕ
thousandths n = 46 ∷ (48 + n / 100 % 10) ∷ (48 + n / 10 % 10) ∷ (48 + n % 10) ∷ 32 ∷ 115 ∷ []

unfoldable pub span_by : Outcome ℕ → List ℕ
span_by (answer m) = counted (ascii_bytes " span ") (m / 1000) ++ thousandths (m % 1000)
span_by (refusal k) = ascii_bytes " span unknown"

-- ---- a run
unfoldable pub ends_told : List Row → Ends → List ℕ
ends_told rows e =
    (((ascii_bytes "first " ++ date_told rows e.first) ++ ascii_bytes " last ") ++ date_told rows e.last) ++ span_by (millis_from_to e.first e.last)

unfoldable pub ordered_told : List Row → Ends → List ℕ
ordered_told rows e = cond e.any (ends_told rows e) (ascii_bytes "no stamp is ordered")

unfoldable pub ends_line : List Row → List ℕ → Ends → List ℕ
ends_line rows name e = (name ++ ordered_told rows e) ++ (10 ∷ [])

unfoldable pub out_line : List ℕ → Seen → List ℕ
out_line name out =
    cond (out.many == 0) []
    (((name ++ counted (ascii_bytes "left out ") out.many) ++ counted (ascii_bytes " first ") out.first) ++ (10 ∷ []))

-- the lines of a run of n stamps from `from` on; a run that is not named has none
unfoldable pub run_told : List Row → List ℕ → RunEnd → List ℕ → List ℕ → List ℕ → ℕ → ℕ → List ℕ
run_told rows name run js ks ns from n = cond run.named (ends_line rows name (ends_of js ks ns from n) ++ out_line name (seen_in 17 ns from n)) []

-- ---- the table: months and days have two digits, and a year those that it has
unfoldable pub dash_two : ℕ → List ℕ
dash_two n = 45 ∷ (48 + n / 10 % 10) ∷ (48 + n % 10) ∷ []

unfoldable pub rows_told : ℕ → ℕ → List ℕ
rows_told count month = (counted (ascii_bytes "table ") count ++ counted (ascii_bytes " rows last ") (month / 12)) ++ dash_two (month % 12 + 1)

-- the seconds of a row that begins in this month
unfoldable pub row_seconds : List Row → ℕ → ℕ
row_seconds rows month = whole_seconds rows (pos (month / 12)) (month % 12 + 1)

unfoldable pub seconds_told : ℕ → ℕ → List ℕ
seconds_told seconds lent = counted (ascii_bytes " ") seconds ++ counted (ascii_bytes " lent ") lent

unfoldable pub day_told : CalendarDate → List ℕ
day_told d = ((counted (ascii_bytes " known until ") (natural d.year) ++ dash_two d.month) ++ dash_two d.day) ++ (10 ∷ [])

unfoldable pub table_told : List Row → ℕ → List ℕ
table_told rows known =
    (rows_told (length rows) (last_month_of rows) ++ seconds_told (row_seconds rows (last_month_of rows)) (lent_rows rows))
    ++ day_told (gregorian_date (pos (known_until rows known + 2400001)))

-- ---- what to look at
unfoldable pub if_set : ℕ → List ℕ → List ℕ
if_set bit words = cond (bit % 2 == 1) words []

unfoldable pub looks_told : ℕ → List ℕ
looks_told look =
    ((if_set look (ascii_bytes "look: stamps are left out\n")
    ++ if_set (look / 2) (ascii_bytes "look: a named run has no stamp\n"))
    ++ if_set (look / 4) (ascii_bytes "look: stamps lie after the day until which the table is known\n"))
    ++ if_set (look / 8) (ascii_bytes "look: two runs begin and end apart as two scales do: are names exchanged?\n")

-- ---- all lines
unfoldable pub runs_told : List Row → RunEnd → RunEnd → RunEnd → Stamps → List ℕ
runs_told rows gps tai utc all =
    (run_told rows (ascii_bytes "gps ") gps all.jd1s all.jd2s all.numbers 0 (first_end all)
    ++ run_told rows (ascii_bytes "tai ") tai all.jd1s all.jd2s all.numbers (first_end all) (second_end all - first_end all))
    ++ run_told rows (ascii_bytes "utc ") utc all.jd1s all.jd2s all.numbers (second_end all) (length all.numbers - second_end all)

unfoldable pub summary_text : List Row → ℕ → RunEnd → RunEnd → RunEnd → Stamps → List ℕ
summary_text rows known gps tai utc all =
    (runs_told rows gps tai utc all ++ table_told rows known) ++ looks_told (look_of rows known gps tai utc all)
