-- Worked by computation: the day until which a table is known, what is apart as two scales are, and lines of the summary. Assumes nothing.
use Rattle.std.proofs.Common.{◌≡◌, ℕ, ◌+◌, true, false, List, [], ◌∷◌, ◌++◌, ℤ, pos, ◌+ℤ◌, nat_abs, sym, refl, ap, ◌∙◌}
use Rattle.refusals.specs.Outcome.{answer, refusal, onward}
use Rattle.numerals.specs.digits.Decimal.{digits_in, digits_of}
use Rattle.calendar.specs.declared.CalendarDate.{CalendarDate}
use Rattle.calendar.specs.Calendar.{lengths, days_in_month, date, date_of}
use Rattle.calendar.specs.Refusals.{valid_date}
use Rattle.calendar.specs.DayCount.{civil_count, mjd_number, mjd_of}
use Rattle.calendar.specs.Gregorian.{gregorian_date}
use Rattle.calendar.proofs.Mjd.{mjd-meaning}
use Rattle.time_of_day.specs.TimeShown.{from_zero}
use Rattle.julian.specs.stamp_lists.Stamps.{stamp_of}
use Rattle.leap_table.specs.rows.Table.{Row, row, fixed, reached, month_number}
use Rattle.leap_table.specs.offsets.WholeSeconds.{whole_seconds}
use Rattle.utc.specs.text.Ascii.{ascii_bytes}
use Rattle.since_launch.specs.Millis.{millis_from_to}
use Rattle.line_listing.specs.declared.head.RunEnd.{RunEnd}
use Rattle.line_listing.specs.declared.summary.Ends.{Ends}
use Rattle.line_listing.specs.lines.StampLine.{stamps}
use Rattle.line_listing.specs.head.Counts.{first_end, second_end}
use Rattle.line_listing.specs.head.Head.{counted}
use Rattle.line_listing.specs.summary.Seen.{one_more, seen_in, ends_of}
use Rattle.line_listing.specs.summary.Known.{fixed_known_until, last_month_of, day_by, first_day_of, known_by_rows, known_until}
use Rattle.line_listing.specs.summary.Look.{both_near, once_or_twice, as_scales, apart_by, look_of}
use Rattle.line_listing.specs.summary.Summary as S

-- ---- the day until which the table is known: that of the fixed rows, and 9000-06-30 with a row of January 9000
pub known-by-fixed : known_until fixed 0 ≡ fixed_known_until
unfolding known_until known_by_rows fixed
known-by-fixed = refl

pub known-by-lent : known_until (fixed ++ (row 9000 1 380000000 0 0 ∷ [])) 0 ≡ 2608422
unfolding known_until known_by_rows first_day_of day_by last_month_of fixed mjd_of mjd_number civil_count valid_date onward days_in_month lengths from_zero
known-by-lent = refl

-- the expiry that a list tells, with rows and without
pub known-by-list : (rows : List Row) → (known_until rows 61400 ≡ 61400) × (known_until rows 4294967295 ≡ 997599999)
unfolding known_until
known-by-list rows = (refl, refl)

-- ---- stamps that have a number: places 1 to 4 of five, the second and the fourth left out
pub left-out-seen : seen_in 17 (17 ∷ 0 ∷ 17 ∷ 9 ∷ 17 ∷ []) 1 4 ≡ record { many = 2; first = 1; last = 3 }
unfolding seen_in one_more
left-out-seen = refl

pub ordered-seen : (seen_in 0 (17 ∷ 0 ∷ 0 ∷ 9 ∷ 0 ∷ []) 0 5 ≡ record { many = 3; first = 1; last = 4 })
    × (seen_in 0 (17 ∷ 9 ∷ []) 0 2 ≡ record { many = 0; first = 0; last = 0 })
unfolding seen_in one_more
ordered-seen = (refl, refl)

-- ---- 18 s and 36 s apart, within half a second at both ends; 500 ms are within, 501 are not, and no difference is none
pub near-18 : (as_scales 17500 18500 36 ≡ true) × (as_scales 18000 18501 36 ≡ false) × (as_scales 17499 18000 36 ≡ false) × (as_scales 36100 35900 36 ≡ true)
    × (as_scales 0 0 36 ≡ false) × (as_scales 18000 36000 36 ≡ false)
unfolding as_scales once_or_twice both_near
near-18 = (refl, refl, refl, refl, refl, refl)

-- 19 s, 37 s, and with 34 s of TAI-UTC 34 s and 15 s, which with 36 s are none
pub near-others : (as_scales 19000 19000 36 ≡ true) × (as_scales 37000 37000 36 ≡ true) × (as_scales 34000 34000 34 ≡ true) × (as_scales 15000 15000 34 ≡ true)
    × (as_scales 34000 34000 36 ≡ true) × (as_scales 15000 15000 36 ≡ false)
unfolding as_scales once_or_twice both_near
near-others = (refl, refl, refl, refl, refl, refl)

-- a time that is refused is none
pub no_time : (apart_by 36 (refusal 18) (answer 18000) ≡ false) × (apart_by 36 (answer 18000) (refusal 18) ≡ false)
    × (apart_by 36 (answer 18000) (answer 18000) ≡ true)
unfolding apart_by as_scales once_or_twice both_near
no_time = (refl, refl, refl)

-- ---- lines
pub span_line : (S.span_by (answer 3500) ≡ ascii_bytes " span 3.500 s") × (S.span_by (answer 86400007) ≡ ascii_bytes " span 86400.007 s")
    × (S.span_by (refusal 18) ≡ ascii_bytes " span unknown")
unfolding S.span_by S.thousandths counted digits_of digits_in
span_line = (refl, refl, refl)

pub out_line_lem : (S.out_line (ascii_bytes "gps ") (record { many = 3; first = 17; last = 20 }) ≡ ascii_bytes "gps left out 3 first 17\n")
    × (S.out_line (ascii_bytes "gps ") (record { many = 0; first = 0; last = 0 }) ≡ [])
unfolding S.out_line counted digits_of digits_in
out_line_lem = (refl, refl)

pub none-line : (rows : List Row) (e : Ends) → e.any ≡ false → S.ends_line rows (ascii_bytes "utc ") e ≡ ascii_bytes "utc no stamp is ordered\n"
unfolding S.ends_line S.ordered_told
none-line rows e h = rw h refl

-- a run that begins and ends with stamps whose texts are s and t
pub ends-line : (rows : List Row) (e : Ends) (s t : List ℕ) → S.date_told rows e.first ≡ s → S.date_told rows e.last ≡ t
    → S.span_by (millis_from_to e.first e.last) ≡ ascii_bytes " span 3.500 s" → e.any ≡ true
    → S.ends_line rows (ascii_bytes "gps ") e
    ≡ (ascii_bytes "gps " ++ ((((ascii_bytes "first " ++ s) ++ ascii_bytes " last ") ++ t) ++ ascii_bytes " span 3.500 s")) ++ ascii_bytes "\n"
unfolding S.ends_line S.ordered_told S.ends_told
ends-line rows e s t f g h a = rw (a, f, g, h) refl

pub look_lines : S.looks_told 15 ≡ ascii_bytes "look: stamps are left out\nlook: a named run has no stamp\n"
    ++ (ascii_bytes "look: stamps lie after the day until which the table is known\n"
    ++ ascii_bytes "look: two runs begin and end apart as two scales do: are names exchanged?\n")
unfolding S.looks_told S.if_set
look_lines = refl

-- and of each bit alone
pub each-look : (S.looks_told 1 ≡ ascii_bytes "look: stamps are left out\n") × (S.looks_told 2 ≡ ascii_bytes "look: a named run has no stamp\n")
    × (S.looks_told 4 ≡ ascii_bytes "look: stamps lie after the day until which the table is known\n")
    × (S.looks_told 8 ≡ ascii_bytes "look: two runs begin and end apart as two scales do: are names exchanged?\n")
unfolding S.looks_told S.if_set
each-look = (refl, refl, refl, refl)

pub no_look : S.looks_told 0 ≡ []
unfolding S.looks_told S.if_set
no_look = refl

-- ---- the table's line
has_date : (y m d n : ℤ) → (v : valid_date y m d ≡ answer tt) → mjd_of y m d ≡ answer n → date_of (n +ℤ pos 2400001) ≡ date y (nat_abs m) (nat_abs d)
has_date y m d n v e = let g = mjd-meaning y m d v in let k : answer n ≡ answer g.n = sym e ∙ g.given in let j : n ≡ g.n =
    cc in ap (λ (x : ℤ). date_of (x +ℤ pos 2400001)) j ∙ g.has_date

june_28 : gregorian_date (pos (61219 + 2400001)) ≡ date (pos 2026) 6 28
unfolding gregorian_date mjd_of mjd_number civil_count valid_date onward days_in_month lengths
june_28 = has_date (pos 2026) (pos 6) (pos 28) (pos 61219) refl refl

day-line : S.day_told (date (pos 2026) 6 28) ≡ ascii_bytes " known until 2026-06-28\n"
unfolding S.day_told S.dash_two counted digits_of digits_in
day-line = refl

-- of two rows, the later of January 2017
abbrev two : List Row
two = row 2015 7 360000000 0 0 ∷ (row 2017 1 370000000 0 0 ∷ [])

pub table-line : S.table_told two 61219 ≡ ascii_bytes "table 2 rows last 2017-01 37 lent 0 known until 2026-06-28\n"
unfolding S.table_told S.row_seconds S.rows_told S.seconds_told S.dash_two known_until last_month_of whole_seconds reached month_number counted digits_of
    digits_in
table-line =
    ap (λ (d : CalendarDate). ascii_bytes "table 2 rows last 2017-01 37 lent 0" ++ S.day_told d) june_28
    ∙ ap (λ (t : List ℕ). ascii_bytes "table 2 rows last 2017-01 37 lent 0" ++ t) day-line

-- ---- THE SUMMARY of three runs, of any dates with these texts: the ordered stamps are 1 and 3 of the GPS run, which begins and ends with another, the first
-- and the second of the TAI run, and the last alone of the UTC run; one stamp is left out of the GPS run and two of the UTC run
abbrev numbers : List ℕ
numbers = 9 ∷ 0 ∷ 17 ∷ 0 ∷ 0 ∷ 0 ∷ 17 ∷ 17 ∷ 0 ∷ []

abbrev named : RunEnd
named = record { named = true; block = 0; refused = 0 }

module _ (js ks : List ℕ)
    (text-1 : S.date_told two (stamp_of js ks 1) ≡ ascii_bytes "2016-12-31T23:59:59.000")
    (text-3 : S.date_told two (stamp_of js ks 3) ≡ ascii_bytes "2017-01-01T00:00:03.500")
    (span-1-3 : millis_from_to (stamp_of js ks 1) (stamp_of js ks 3) ≡ answer 5500)
    (text-4 : S.date_told two (stamp_of js ks 4) ≡ ascii_bytes "2016-12-31T23:59:60.250")
    (text-5 : S.date_told two (stamp_of js ks 5) ≡ ascii_bytes "2017-01-01T00:00:00.000")
    (span-4-5 : millis_from_to (stamp_of js ks 4) (stamp_of js ks 5) ≡ answer 750)
    (text-8 : S.date_told two (stamp_of js ks 8) ≡ ascii_bytes "2017-01-02T06:00:00.007")
    (span-8 : millis_from_to (stamp_of js ks 8) (stamp_of js ks 8) ≡ answer 0)
    (looked : look_of two 61219 named named named (stamps js ks numbers 4 2) ≡ 1) where
  pub summary_lines : S.summary_text two 61219 named named named (stamps js ks numbers 4 2)
      ≡ ascii_bytes "gps first 2016-12-31T23:59:59.000 last 2017-01-01T00:00:03.500 span 5.500 s\ngps left out 1 first 2\n"
      ++ (ascii_bytes "tai first 2016-12-31T23:59:60.250 last 2017-01-01T00:00:00.000 span 0.750 s\n"
      ++ (ascii_bytes "utc first 2017-01-02T06:00:00.007 last 2017-01-02T06:00:00.007 span 0.000 s\nutc left out 2 first 0\n"
      ++ (ascii_bytes "table 2 rows last 2017-01 37 lent 0 known until 2026-06-28\n" ++ ascii_bytes "look: stamps are left out\n")))
  unfolding S.summary_text S.runs_told S.run_told S.ends_line S.ordered_told S.ends_told S.out_line S.span_by S.thousandths S.looks_told S.if_set ends_of
      seen_in one_more
      first_end second_end counted digits_of digits_in
  summary_lines = rw (looked, table-line, text-1, text-3, span-1-3, text-4, text-5, span-4-5, text-8, span-8) refl
