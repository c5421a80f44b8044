-- THE LENGTH OF THE SUMMARY: by the rows of a table that is taken, and of numbers that an array can have, it has at most 832 bytes: 164 for the lines of a run,
-- 147 for that of the table and 193 for what to look at. Assumes nothing.
use Rattle.std.proofs.Common.{◌≡◌, ℕ, zero, suc, ◌+◌, ◌-◌, ◌*◌, ◌/◌, ◌%◌, ◌<◌, ◌≤◌, Bool, true, false, cond, ◌&&◌, ◌||◌, eqb, ltb, leb, List, [], ◌∷◌, ◌++◌}
use Rattle.std.proofs.Common.{length, get_or, ℤ, pos, negsuc, refl, ap, ◌∙◌, arith, length-append, ltb-false, ltb-true}
use lib.Signed.{lt_z}
use Rattle.refusals.specs.Outcome.{Outcome, answer, refusal, onward}
use Rattle.numerals.specs.digits.Decimal.{digits_of}
use Rattle.numerals.proofs.digits.Decimal.{digits-few}
use Rattle.calendar.specs.declared.CalendarDate.{CalendarDate}
use Rattle.calendar.specs.Gregorian.{gregorian_date}
use Rattle.calendar.proofs.Years.{gregorian_in_range}
use Rattle.julian.specs.declared.JulianDate.{JulianDate}
use Rattle.julian.specs.Finite.{finite_parts}
use Rattle.leap_table.specs.declared.rows.AnnouncedRows.{AnnouncedRows}
use Rattle.leap_table.specs.rows.Table.{Row, starts, month_number, most_rows, most_seconds}
use Rattle.leap_table.specs.rows.Announced.{natural, announced_size, table_of}
use Rattle.leap_table.specs.offsets.Forward.{never}
use Rattle.leap_table.specs.offsets.Offset.{seconds_in}
use Rattle.leap_table.specs.offsets.WholeSeconds.{whole_seconds}
use Rattle.leap_table.proofs.rows.Tables.{least-right, table-length, at_most_16}
use Rattle.leap_table.proofs.rows.TablesTaken.{when_taken}
use Rattle.leap_table.proofs.offsets.TableSeconds.{seconds-in-range}
use Rattle.leap_table.proofs.offsets.WholeSeconds.{late}
use Rattle.utc_scales.specs.UtcTai.{tai_to_utc}
use Rattle.utc.specs.text.Ascii.{ascii_bytes}
use Rattle.utc.specs.iso_texts.Expanded.{iso_text_expanded}
use Rattle.stamps.proofs.Texts.{brief}
use Rattle.since_launch.specs.Millis.{units_of, place_in, in_range, count_of, millis_from_to}
use Rattle.line_listing.specs.declared.head.RunEnd.{RunEnd}
use Rattle.line_listing.specs.declared.summary.Seen.{Seen}
use Rattle.line_listing.specs.declared.summary.Ends.{Ends}
use Rattle.line_listing.specs.lines.StampLine.{Stamps}
use Rattle.line_listing.specs.head.Counts.{first_end, second_end}
use Rattle.line_listing.specs.head.Head.{counted}
use Rattle.line_listing.specs.summary.Seen.{one_more, seen_in, ends_of}
use Rattle.line_listing.specs.summary.Known.{lent_rows, last_month_of, known_until}
use Rattle.line_listing.specs.summary.Look.{look_of}
use Rattle.line_listing.specs.summary.Summary as S

-- ---- words and a number of up to 20 digits
counted-most : (words : List ℕ) (n : ℕ) → n < 100000000000000000000 → length (counted words n) ≤ length words + 20
unfolding counted
counted-most words n h = omega (arith, length-append words (digits_of n), digits-few 19 n h)

-- ---- a time
span_answered : (m : ℕ) → m < 1099511627776 → length (S.span_by (answer m)) ≤ 32
unfolding S.span_by S.thousandths
span_answered m h =
    omega (
      arith,
      length-append (counted (ascii_bytes " span ") (m / 1000)) (S.thousandths (m % 1000)),
      counted-most (ascii_bytes " span ") (m / 1000) (omega arith),
    )

span_refused : (k : ℕ) → length (S.span_by (refusal k)) ≤ 32
unfolding S.span_by
span_refused k = omega arith

abbrev Short : Outcome ℕ → Type 0
Short o = length (S.span_by o) ≤ 32

span_in_range : (m : ℕ) → Short (in_range m)
unfolding in_range
span_in_range m = go (ltb m 1099511627776) refl
  where
    go : (b : Bool) → ltb m 1099511627776 ≡ b → Short (cond b (answer m) (refusal 18))
    go true e = span_answered m (ltb-true m 1099511627776 e)
    go false e = span_refused 18

span_counted : (p q : ℕ) → Short (count_of p q)
unfolding count_of
span_counted p q = go (leb (84375 * p) (84375 * q + 2199023255552))
  where
    go : (b : Bool) → Short (cond b (in_range ((84375 * q + 2199023255552 - 84375 * p) / 4398046511104)) (refusal 18))
    go true = span_in_range ((84375 * q + 2199023255552 - 84375 * p) / 4398046511104)
    go false = span_refused 18

short-onward : {A : Type 0} (o : Outcome A) (f : A → Outcome ℕ) → ((a : A) → Short (f a)) → Short (onward o f)
unfolding onward
short-onward (answer a) f h = h a
short-onward (refusal k) f h = span_refused k

span_most : (a b : JulianDate) → Short (millis_from_to a b)
unfolding millis_from_to
span_most a b = go (finite_parts a && finite_parts b)
  where
    go : (t : Bool) → Short (cond t (onward (place_in a) (λ p. onward (place_in b) (λ q. count_of (units_of p) (units_of q)))) (refusal 9))
    go true = short-onward (place_in a) _ (λ p. short-onward (place_in b) _ (λ q. span_counted (units_of p) (units_of q)))
    go false = span_refused 9

-- ---- a date
text-most : (o : Outcome (List ℕ)) → ((t : List ℕ) → o ≡ answer t → length t ≤ 27) → length (S.text_or o) ≤ 27
unfolding S.text_or
text-most (answer t) h = h t refl
text-most (refusal k) h = omega arith

date-most : (rows : List Row) (d : JulianDate) → length (S.date_told rows d) ≤ 27
unfolding S.date_told S.text_or onward
date-most rows d = go (tai_to_utc rows d)
  where
    go : (o : Outcome JulianDate) → length (S.text_or (onward o (iso_text_expanded rows))) ≤ 27
    go (answer u) = text-most (iso_text_expanded rows u) (brief rows u)
    go (refusal k) = omega arith

-- ---- a run: how many have a number, and where the first is
seen_few : (k : ℕ) (ns : List ℕ) (from n : ℕ) → ((seen_in k ns from n).many ≤ n) × ((seen_in k ns from n).first ≤ n)
unfolding seen_in one_more
seen_few k ns from zero = (omega arith, omega arith)
seen_few k ns from (suc n) = go (eqb (get_or ns (from + n) 0) k) (seen_in k ns from n) (seen_few k ns from n)
  where
    pick : (b : Bool) (x : ℕ) → x ≤ n → cond b n x ≤ suc n
    pick true x h = omega arith
    pick false x h = omega arith

    go : (b : Bool) (s : Seen) → (s.many ≤ n) × (s.first ≤ n) → ((cond b (one_more s n) s).many ≤ suc n) × ((cond b (one_more s n) s).first ≤ suc n)
    go true s h = (omega (arith, h.0), pick (eqb s.many 0) s.first h.1)
    go false s h = (omega (arith, h.0), omega (arith, h.1))

ends-most : (rows : List Row) (e : Ends) → length (S.ends_told rows e) ≤ 98
unfolding S.ends_told
ends-most rows e =
    let f = S.date_told rows e.first in
    let l = S.date_told rows e.last in
    let s = S.span_by (millis_from_to e.first e.last) in
    omega (
      arith,
      date-most rows e.first,
      date-most rows e.last,
      span_most e.first e.last,
      length-append (((ascii_bytes "first " ++ f) ++ ascii_bytes " last ") ++ l) s,
      length-append ((ascii_bytes "first " ++ f) ++ ascii_bytes " last ") l,
      length-append (ascii_bytes "first " ++ f) (ascii_bytes " last "),
      length-append (ascii_bytes "first ") f,
    )

ordered-most : (rows : List Row) (e : Ends) → length (S.ordered_told rows e) ≤ 98
unfolding S.ordered_told
ordered-most rows e = go e.any
  where
    go : (b : Bool) → length (cond b (S.ends_told rows e) (ascii_bytes "no stamp is ordered")) ≤ 98
    go true = ends-most rows e
    go false = omega arith

module _ (name : List ℕ) (four : length name ≡ 4) where
  ends-line-most : (rows : List Row) (e : Ends) → length (S.ends_line rows name e) ≤ 103
  unfolding S.ends_line
  ends-line-most rows e =
      let o = S.ordered_told rows e in
      omega (arith, four, ordered-most rows e, length-append (name ++ o) (10 ∷ []), length-append name o)

  out-line-most : (out : Seen) → out.many < 100000000000000000000 → out.first < 100000000000000000000 → length (S.out_line name out) ≤ 61
  unfolding S.out_line
  out-line-most out h g = go (eqb out.many 0)
    where
      go : (b : Bool)
          → length (cond b [] (((name ++ counted (ascii_bytes "left out ") out.many) ++ counted (ascii_bytes " first ") out.first) ++ (10 ∷ []))) ≤ 61
      go true = omega arith
      go false =
          let m = counted (ascii_bytes "left out ") out.many in
          let f = counted (ascii_bytes " first ") out.first in
          omega (
            arith,
            four,
            counted-most (ascii_bytes "left out ") out.many h,
            counted-most (ascii_bytes " first ") out.first g,
            length-append ((name ++ m) ++ f) (10 ∷ []),
            length-append (name ++ m) f,
            length-append name m,
          )

  run-most : (rows : List Row) (run : RunEnd) (js ks ns : List ℕ) (from n : ℕ) → n < 18446744073709551616
      → length (S.run_told rows name run js ks ns from n) ≤ 164
  unfolding S.run_told
  run-most rows run js ks ns from n h = go run.named
    where
      go : (b : Bool) → length (cond b (S.ends_line rows name (ends_of js ks ns from n) ++ S.out_line name (seen_in 17 ns from n)) []) ≤ 164
      go true =
          let s = seen_few 17 ns from n in
          omega (
            arith,
            ends-line-most rows (ends_of js ks ns from n),
            out-line-most (seen_in 17 ns from n) (omega (arith, s.0)) (omega (arith, s.1)),
            length-append (S.ends_line rows name (ends_of js ks ns from n)) (S.out_line name (seen_in 17 ns from n)),
          )
      go false = omega arith

-- ---- the table
month-most : (rows : List Row) → last_month_of rows ≤ 2147483647
unfolding last_month_of
month-most rows = least-right (get_or (starts rows) (length rows - 1) never) 2147483647

rows-told-most : (count month : ℕ) → count < 100000000000000000000 → month ≤ 2147483647 → length (S.rows_told count month) ≤ 60
unfolding S.rows_told S.dash_two
rows-told-most count month h g =
    let c = counted (ascii_bytes "table ") count in
    let y = counted (ascii_bytes " rows last ") (month / 12) in
    omega (
      arith,
      counted-most (ascii_bytes "table ") count h,
      counted-most (ascii_bytes " rows last ") (month / 12) (omega arith),
      length-append (c ++ y) (S.dash_two (month % 12 + 1)),
      length-append c y,
    )

seconds-told-most : (seconds lent : ℕ) → seconds < 100000000000000000000 → lent < 100000000000000000000 → length (S.seconds_told seconds lent) ≤ 47
unfolding S.seconds_told
seconds-told-most seconds lent h g =
    omega (
      arith,
      counted-most (ascii_bytes " ") seconds h,
      counted-most (ascii_bytes " lent ") lent g,
      length-append (counted (ascii_bytes " ") seconds) (counted (ascii_bytes " lent ") lent),
    )

year-most : (y : ℤ) → lt_z (pos 2733194) y ≡ false → natural y ≤ 2733194
year-most (pos n) h = ltb-false 2733194 n h
year-most (negsuc n) h = omega arith

day-told-most : (d : CalendarDate) → natural d.year ≤ 2733194 → length (S.day_told d) ≤ 40
unfolding S.day_told S.dash_two
day-told-most d h =
    let y = counted (ascii_bytes " known until ") (natural d.year) in
    omega (
      arith,
      counted-most (ascii_bytes " known until ") (natural d.year) (omega arith),
      length-append ((y ++ S.dash_two d.month) ++ S.dash_two d.day) (10 ∷ []),
      length-append (y ++ S.dash_two d.month) (S.dash_two d.day),
      length-append y (S.dash_two d.month),
    )

-- ---- what to look at
if_set_most : (bit : ℕ) (words : List ℕ) → length (S.if_set bit words) ≤ length words
unfolding S.if_set
if_set_most bit words = go (eqb (bit % 2) 1)
  where
    go : (b : Bool) → length (cond b words []) ≤ length words
    go true = omega arith
    go false = omega arith

looks_most : (look : ℕ) → length (S.looks_told look) ≤ 193
unfolding S.looks_told
looks_most look =
    let a = S.if_set look (ascii_bytes "look: stamps are left out\n") in
    let b = S.if_set (look / 2) (ascii_bytes "look: a named run has no stamp\n") in
    let c = S.if_set (look / 4) (ascii_bytes "look: stamps lie after the day until which the table is known\n") in
    let d = S.if_set (look / 8) (ascii_bytes "look: two runs begin and end apart as two scales do: are names exchanged?\n") in
    omega (
      arith,
      if_set_most look (ascii_bytes "look: stamps are left out\n"),
      if_set_most (look / 2) (ascii_bytes "look: a named run has no stamp\n"),
      if_set_most (look / 4) (ascii_bytes "look: stamps lie after the day until which the table is known\n"),
      if_set_most (look / 8) (ascii_bytes "look: two runs begin and end apart as two scales do: are names exchanged?\n"),
      length-append ((a ++ b) ++ c) d,
      length-append (a ++ b) c,
      length-append a b,
    )

-- ---- where the runs end
first-inside : (all : Stamps) → first_end all ≤ length all.numbers
unfolding first_end
first-inside all = least-right all.first (length all.numbers)

second-inside : (all : Stamps) → second_end all - first_end all ≤ length all.numbers
unfolding second_end
second-inside all = omega (arith, least-right all.second (length all.numbers - first_end all))

-- ---- all lines
module _ (table : AnnouncedRows) (rows : List Row) (taken : table_of table ≡ answer rows) where
  rows_few : length rows ≤ most_rows
  rows_few =
      omega (arith, ap length (when_taken table rows taken).all ∙ table-length table (announced_size table), at_most_16 table)

  whole-most : (y : ℤ) (m : ℕ) → whole_seconds rows y m ≤ most_seconds
  unfolding whole_seconds
  whole-most y m = go (lt_z y (pos 1972)) (ltb m 1) (ltb 12 m) refl refl
    where
      go : (a b c : Bool) → lt_z y (pos 1972) ≡ a → ltb m 1 ≡ b → cond (a || (b || c)) 0 (seconds_in rows (month_number y m)) ≤ most_seconds
      go true b c e f = omega arith
      go false true c e f = omega arith
      go false false true e f = omega arith
      go false false false e f = (seconds-in-range table rows taken (month_number y m) (late y m e (ltb-false m 1 f))).1

  table-most : (known : ℕ) → length (S.table_told rows known) ≤ 147
  unfolding S.table_told S.row_seconds
  table-most known =
      let month = last_month_of rows in
      let day = gregorian_date (pos (known_until rows known + 2400001)) in
      let a = S.rows_told (length rows) month in
      let b = S.seconds_told (S.row_seconds rows month) (lent_rows rows) in
      omega (
        arith,
        rows-told-most (length rows) month (omega (arith, rows_few)) (month-most rows),
        seconds-told-most (S.row_seconds rows month) (lent_rows rows) (omega (arith, whole-most (pos (month / 12)) (month % 12 + 1)))
            (omega (arith, rows_few)),
        day-told-most day (year-most day.year (gregorian_in_range (pos (known_until rows known + 2400001))).year_high),
        length-append (a ++ b) (S.day_told day),
        length-append a b,
      )

  -- AT MOST 832 BYTES, whatever the runs are called and their stamps are
  pub summary_most : (known : ℕ) (gps tai utc : RunEnd) (all : Stamps) → length all.numbers < 18446744073709551616
      → length (S.summary_text rows known gps tai utc all) ≤ 832
  unfolding S.summary_text S.runs_told
  summary_most known gps tai utc all h =
      let m = length all.numbers - second_end all in
      let n = second_end all - first_end all in
      let a = S.run_told rows (ascii_bytes "gps ") gps all.jd1s all.jd2s all.numbers 0 (first_end all) in
      let b = S.run_told rows (ascii_bytes "tai ") tai all.jd1s all.jd2s all.numbers (first_end all) n in
      let c = S.run_told rows (ascii_bytes "utc ") utc all.jd1s all.jd2s all.numbers (second_end all) m in
      let t = S.table_told rows known in
      let l = S.looks_told (look_of rows known gps tai utc all) in
      omega (
        arith,
        run-most (ascii_bytes "gps ") refl rows gps all.jd1s all.jd2s all.numbers 0 (first_end all) (omega (arith, first-inside all)),
        run-most (ascii_bytes "tai ") refl rows tai all.jd1s all.jd2s all.numbers (first_end all) n (omega (arith, second-inside all)),
        run-most (ascii_bytes "utc ") refl rows utc all.jd1s all.jd2s all.numbers (second_end all) m (omega arith),
        table-most known,
        looks_most (look_of rows known gps tai utc all),
        length-append (((a ++ b) ++ c) ++ t) l,
        length-append ((a ++ b) ++ c) t,
        length-append (a ++ b) c,
        length-append a b,
      )
