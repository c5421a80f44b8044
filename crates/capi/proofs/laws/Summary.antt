-- THE SUMMARY OF THREE LINED UP RUNS, for C, and what to look at: when each is answered, by which number each other call is refused, and what the buffer holds;
-- the records are GPS, TAI and UTC, and the day until which the table is known is the caller's. Assumes nothing.
use Prim.Native.Nat.{ℕ, zero, suc, ◌+◌, ◌*◌, ◌/◌, ◌%◌}
use native.Mathlib.Omega.{arith}
use mathlib.Core.Path.{◌≡◌, refl, sym, ap, ◌∙◌}
use mathlib.Core.Bool.{Bool, true, false, cond, ◌&&◌}
use mathlib.Core.List.{List, [], ◌∷◌, ◌++◌}
use lib.Dec.{eqb, leb}
use lib.IntN.{ℤ, pos, nat_abs, ◌+ℤ◌}
use lib.ListN.{length, drop, replicate}
use borrow.Author.Tests.{eq-eqb, eqb-true, eqb-false, leb-true, leb-false}
use Rattle.refusals.specs.Outcome.{Outcome, answer, refusal, onward}
use Rattle.numerals.specs.digits.Decimal.{digits_in, digits_of}
use Rattle.numerals.specs.little_endian.LittleEndian.{four_at, u32_at, u64_at, eight_bytes}
use Rattle.calendar.specs.declared.CalendarDate.{CalendarDate}
use Rattle.calendar.specs.Calendar.{lengths, days_in_month, date, date_of}
use Rattle.calendar.specs.Refusals.{valid_date}
use Rattle.calendar.specs.DayCount.{civil_count, mjd_number, mjd_of}
use Rattle.calendar.specs.Gregorian.{gregorian_date}
use Rattle.calendar.proofs.Mjd.{mjd-meaning}
use Rattle.leap_table.specs.rows.Table.{Row, row, reached, month_number}
use Rattle.leap_table.specs.offsets.WholeSeconds.{whole_seconds}
use Rattle.leap_table.specs.rows.Announced.{unless_refused}
use Rattle.utc.specs.text.Ascii.{ascii_bytes}
use Rattle.utc.specs.text.Answer.{text_written, buffer_after}
use Rattle.utc.specs.iso_texts.TextCall.{written, buffer_holds}
use Rattle.c_answers.specs.Delivery.{code, Delivered}
use Rattle.line_listing.specs.head.Counts.{first_end, second_end}
use Rattle.line_listing.specs.head.Head.{counted}
use Rattle.line_listing.specs.lines.StampLine.{stamps}
use Rattle.line_listing.specs.summary.Seen.{one_more, seen_in, ends_of}
use Rattle.line_listing.specs.summary.Known.{last_month_of, known_until}
use Rattle.line_listing.specs.summary.Look.{left_out, is_empty, no_stamp, last_after, any_after, run_later, runs_apart, any_apart, after_known, scales_apart}
use Rattle.line_listing.specs.summary.Look.{bits}
use Rattle.line_listing.specs.summary.Look.{look_of}
use Rattle.line_listing.specs.summary.Summary as S
use Rattle.capi.specs.SummaryDelivery.{run_record, eight_for_each, runs_refusal, summary_of, look_at}
use Rattle.capi.specs.laws.Summary.{RunsDecision, other_records, other_lists, lists_fit, look_in, text_in, LookDecision, look_table, look_refused}
use Rattle.capi.specs.laws.Summary.{look_told, SummaryDecision, text_table, text_refused, no_room, text-told}

-- ---- eight bytes for each of n
pub eight-each : (size n : ℕ) → eight_for_each size n ≡ true → size ≡ 8 * n
unfolding eight_for_each
eight-each size n e = by (eqb (size % 8) 0) (eqb (size / 8) n) refl refl e
  where
    by : (a b : Bool) → eqb (size % 8) 0 ≡ a → eqb (size / 8) n ≡ b → a && b ≡ true → size ≡ 8 * n
    by true true p q r = omega (arith, eqb-true (size % 8) 0 p, eqb-true (size / 8) n q)
    by true false p q r = let z : ◌≡◌ {A = ℕ} 0 1 = ap (λ (x : Bool). cond x 1 0) r in let w : ⊥ = omega arith in absurd w
    by false b p q r = let z : ◌≡◌ {A = ℕ} 0 1 = ap (λ (x : Bool). cond x 1 0) r in let w : ⊥ = omega arith in absurd w

pub each-eight : (size n : ℕ) → size ≡ 8 * n → eight_for_each size n ≡ true
unfolding eight_for_each
each-eight size n e =
    let a : size % 8 ≡ 0 = omega arith in let b : size / 8 ≡ n = omega arith in λ i. eq-eqb (size % 8) 0 a i && eq-eqb (size / 8) n b i

not_both : (b : Bool) → b ≡ true → b ≡ false → ⊥
not_both b p q = let z : ◌≡◌ {A = ℕ} 1 0 = ap (λ (x : Bool). cond x 1 0) (sym p ∙ q) in omega arith

-- ---- WHEN RECORDS AND LISTS FIT, and the order of the two refusals
pub runs-decided : (runs js ks ns : List ℕ) → RunsDecision runs js ks ns (runs_refusal runs (length js) (length ks) (length ns))
unfolding runs_refusal
runs-decided runs js ks ns = by (eqb (length runs) 96) (eight_for_each (length js) n) (eight_for_each (length ks) n) (eqb sum n) refl refl refl refl
  where
    n : ℕ
    n = length ns

    sum : ℕ
    sum = u64_at runs 0 + u64_at runs 32 + u64_at runs 64

    by : (a b c d : Bool) → eqb (length runs) 96 ≡ a → eight_for_each (length js) n ≡ b → eight_for_each (length ks) n ≡ c → eqb sum n ≡ d
        → RunsDecision runs js ks ns (cond a (cond (b && (c && d)) 0 12) 14)
    by false b c d p q r t = other_records (eqb-false _ _ p) refl
    by true false c d p q r t = other_lists (eqb-true _ _ p) (λ f. not_both _ (each-eight (length js) n f.first) q) refl
    by true true false d p q r t = other_lists (eqb-true _ _ p) (λ f. not_both _ (each-eight (length ks) n f.second) r) refl
    by true true true false p q r t = other_lists (eqb-true _ _ p) (λ f. eqb-false _ _ t f.together) refl
    by true true true true p q r t =
        lists_fit (eqb-true _ _ p) (record { first = eight-each (length js) n q; second = eight-each (length ks) n r; together = eqb-true _ _ t }) refl

-- ---- WHAT TO LOOK AT is told exactly where the table is taken and records and lists fit
pub look_decided : (table : Outcome (List Row)) (known : ℕ) (runs js ks ns : List ℕ)
    → LookDecision table known runs js ks ns (onward table (look_at known runs js ks ns))
unfolding onward look_at
look_decided (refusal k) known runs js ks ns = look_table k refl refl
look_decided (answer rows) known runs js ks ns = by (runs_refusal runs (length js) (length ks) (length ns)) (runs-decided runs js ks ns)
  where
    by : (k : ℕ) → RunsDecision runs js ks ns k → LookDecision (answer rows) known runs js ks ns (unless_refused k (look_in rows known runs js ks ns))
    by zero d = look_told rows refl d refl
    by (suc k) d = look_refused rows refl k d refl

-- ---- THE SUMMARY, and 11 behind all of these
pub summary_decided : (table : Outcome (List Row)) (known : ℕ) (runs js ks ns before : List ℕ) (r : ℤ) (after : List ℕ)
    → Delivered (onward table (summary_of known runs js ks ns)) before r after → SummaryDecision table known runs js ks ns before r after
unfolding onward summary_of written buffer_holds text_written buffer_after code
summary_decided (refusal k) known runs js ks ns before r after d = text_table k refl d.returned d.holds
summary_decided (answer rows) known runs js ks ns before r after d =
    by (runs_refusal runs (length js) (length ks) (length ns)) (runs-decided runs js ks ns) d.returned d.holds
  where
    text : List ℕ
    text = text_in rows known runs js ks ns

    fits : RunsDecision runs js ks ns 0 → (b : Bool) → leb (length text) (length before) ≡ b
        → r ≡ code (cond b (answer (length text)) (refusal 11)) → after ≡ cond b (text ++ drop (length text) before) before
        → SummaryDecision (answer rows) known runs js ks ns before r after
    fits f true e p q = text-told rows refl f (leb-true _ _ e) p q
    fits f false e p q = no_room rows refl f (leb-false _ _ e) p q

    by : (k : ℕ) → RunsDecision runs js ks ns k → r ≡ code (written (unless_refused k text) (length before)) → after ≡ buffer_holds
        (unless_refused k text) before
        → SummaryDecision (answer rows) known runs js ks ns before r after
    by zero f p q = fits f (leb (length text) (length before)) refl p q
    by (suc k) f p q = text_refused rows refl k f p q

-- ---- WORKED CALLS
-- a record by its four numbers: stamps, blocks, the number of the refused block, and 1 where the run is named
abbrev one-run : ℕ → ℕ → ℕ → ℕ → List ℕ
one-run n blocks refused named = eight_bytes n ++ (eight_bytes blocks ++ (eight_bytes refused ++ eight_bytes named))

-- one stamp in GPS, one of a run that is not named, two in UTC
abbrev three-runs : List ℕ
three-runs = one-run 1 5 0 1 ++ (one-run 1 6 12 0 ++ one-run 2 7 14 1)

-- THE ORDER of the two refusals, with the nearest lengths that fit beside each that does not
pub runs-in-order : (runs_refusal (replicate 95 0) 1 1 1 ≡ 14) × (runs_refusal (replicate 97 0) 0 0 0 ≡ 14) × (runs_refusal (replicate 96 0) 0 0 0 ≡ 0)
    × (runs_refusal three-runs 32 32 4 ≡ 0) × (runs_refusal three-runs 33 32 4 ≡ 12) × (runs_refusal three-runs 24 32 4 ≡ 12)
    × (runs_refusal three-runs 32 39 4 ≡ 12) × (runs_refusal three-runs 32 40 4 ≡ 12) × (runs_refusal three-runs 40 40 5 ≡ 12)
    × (runs_refusal three-runs 24 24 3 ≡ 12)
unfolding runs_refusal eight_for_each u64_at four_at
runs-in-order = (refl, refl, refl, refl, refl, refl, refl, refl, refl, refl)

-- THE RECORDS are GPS, TAI and UTC: each with its own blocks, refusal and name
pub records-in-order : (run_record three-runs 0 ≡ record { named = true; block = 5; refused = 0 })
    × (run_record three-runs 32 ≡ record { named = false; block = 6; refused = 12 }) × (run_record three-runs 64
    ≡ record { named = true; block = 7; refused = 14 })
unfolding run_record u64_at u32_at four_at
records-in-order = (refl, refl, refl)

-- and the stamps of each are its own: of four, of which the first, the second and the last are left out, GPS has one, UTC one, and the unnamed run no line. The
-- table's line tells the day that was asked with
abbrev two-rows : List Row
two-rows = row 2015 7 360000000 0 0 ∷ (row 2017 1 370000000 0 0 ∷ [])

runs-told : (rows : List Row) → S.runs_told rows (run_record three-runs 0) (run_record three-runs 32) (run_record three-runs 64)
    (stamps (replicate 32 0) (replicate 32 0) (17 ∷ 17 ∷ 9 ∷ 17 ∷ []) (u64_at three-runs 0) (u64_at three-runs 32))
    ≡ ascii_bytes "gps no stamp is ordered\ngps left out 1 first 0\nutc no stamp is ordered\nutc left out 1 first 1\n"
unfolding S.runs_told S.run_told S.ends_line S.ordered_told S.out_line seen_in one_more ends_of first_end second_end run_record u64_at u32_at four_at counted
    digits_of
    digits_in
runs-told rows = refl

-- the days 61219 and 61220
has_date : (y m d n : ℤ) → (v : valid_date y m d ≡ answer tt) → mjd_of y m d ≡ answer n → date_of (n +ℤ pos 2400001) ≡ date y (nat_abs m) (nat_abs d)
has_date y m d n v e = let g = mjd-meaning y m d v in let k : answer n ≡ answer g.n = sym e ∙ g.given in let j : n ≡ g.n =
    cc in ap (λ (x : ℤ). date_of (x +ℤ pos 2400001)) j ∙ g.has_date

june_28 : gregorian_date (pos (61219 + 2400001)) ≡ date (pos 2026) 6 28
unfolding gregorian_date mjd_of mjd_number civil_count valid_date onward days_in_month lengths
june_28 = has_date (pos 2026) (pos 6) (pos 28) (pos 61219) refl refl

june_29 : gregorian_date (pos (61220 + 2400001)) ≡ date (pos 2026) 6 29
unfolding gregorian_date mjd_of mjd_number civil_count valid_date onward days_in_month lengths
june_29 = has_date (pos 2026) (pos 6) (pos 29) (pos 61220) refl refl

day-told : (known : ℕ) (d : CalendarDate) → known_until two-rows known ≡ known → gregorian_date (pos (known + 2400001)) ≡ d
    → S.table_told two-rows known ≡ ascii_bytes "table 2 rows last 2017-01 37 lent 0" ++ S.day_told d
unfolding S.table_told S.row_seconds S.rows_told S.seconds_told S.dash_two last_month_of whole_seconds reached month_number counted digits_of digits_in
day-told known d e f =
    ap (λ (n : ℕ). ascii_bytes "table 2 rows last 2017-01 37 lent 0" ++ S.day_told (gregorian_date (pos (n + 2400001)))) e
    ∙ ap (λ (x : CalendarDate). ascii_bytes "table 2 rows last 2017-01 37 lent 0" ++ S.day_told x) f

looks-told : (rows : List Row) (known : ℕ) → S.looks_told (look_in rows known three-runs (replicate 32 0) (replicate 32 0) (17 ∷ 17 ∷ 9 ∷ 17 ∷ []))
    ≡ ascii_bytes "look: stamps are left out\n"
unfolding S.looks_told S.if_set look_of bits left_out no_stamp is_empty after_known any_after last_after scales_apart any_apart runs_apart run_later seen_in
    one_more ends_of
    first_end second_end run_record u64_at u32_at four_at
looks-told rows known = refl

text-on : (known : ℕ) (d : CalendarDate) → known_until two-rows known ≡ known → gregorian_date (pos (known + 2400001)) ≡ d
    → summary_of known three-runs (replicate 32 0) (replicate 32 0) (17 ∷ 17 ∷ 9 ∷ 17 ∷ []) two-rows
    ≡ answer ((ascii_bytes "gps no stamp is ordered\ngps left out 1 first 0\nutc no stamp is ordered\nutc left out 1 first 1\n"
    ++ (ascii_bytes "table 2 rows last 2017-01 37 lent 0" ++ S.day_told d)) ++ ascii_bytes "look: stamps are left out\n")
unfolding summary_of S.summary_text runs_refusal eight_for_each u64_at four_at
text-on known d e f = λ i. answer ((runs-told two-rows i ++ day-told known d e f i) ++ looks-told two-rows known i)

-- THE SUMMARY of these four stamps, whole; and with a day more, which is the caller's
pub summary_told : (summary_of 61219 three-runs (replicate 32 0) (replicate 32 0) (17 ∷ 17 ∷ 9 ∷ 17 ∷ []) two-rows ≡ answer (ascii_bytes
    "gps no stamp is ordered\ngps left out 1 first 0\nutc no stamp is ordered\nutc left out 1 first 1\n" ++ ascii_bytes
    "table 2 rows last 2017-01 37 lent 0 known until 2026-06-28\nlook: stamps are left out\n"))
    × (summary_of 61220 three-runs (replicate 32 0) (replicate 32 0) (17 ∷ 17 ∷ 9 ∷ 17 ∷ []) two-rows ≡ answer (ascii_bytes
    "gps no stamp is ordered\ngps left out 1 first 0\nutc no stamp is ordered\nutc left out 1 first 1\n" ++ ascii_bytes
    "table 2 rows last 2017-01 37 lent 0 known until 2026-06-29\nlook: stamps are left out\n"))
unfolding S.day_told S.dash_two counted digits_of digits_in known_until
summary_told = (text-on 61219 (date (pos 2026) 6 28) refl june_28, text-on 61220 (date (pos 2026) 6 29) refl june_29)
