-- TAI-UTC on a day from 1972-01-01 on, by every table that is taken: whole seconds, 10 to 53, and the same, one more or one less on the next day. Assumes
-- nothing.
use mathlib.Core.Path.{◌≡◌, refl, sym, ap, ◌∙◌, subst, subst₂}
use mathlib.Core.Bool.{Bool, true, false, cond}
use mathlib.Core.Logic.{◌⊎◌, inl, inr}
use mathlib.Core.List.{List}
use Prim.Native.Nat.{ℕ, suc, ◌+◌, ◌-◌, ◌≤◌, ◌<◌}
use native.Mathlib.Omega.{arith}
use lib.Dec.{ltb}
use lib.IntN.{ℤ, pos, negsuc, suc_ℤ}
use lib.Signed.{lt_z}
use lib.Ieee.{binary64, of_int}
use borrow.Author.Tests.{le-ltb, ltb-false}
use Rattle.refusals.specs.Outcome.{answer, onward}
use Rattle.floats.specs.Whole.{nought, half}
use Rattle.calendar.specs.declared.CalendarDate.{CalendarDate}
use Rattle.calendar.specs.Calendar.{date, date_at, date_of, next, leap_size, lengths, days_in_month, month_length}
use Rattle.calendar.specs.Refusals.{valid_date, next_of, last_date}
use Rattle.calendar.specs.DayCount.{mjd_of, mjd_number, civil_count}
use Rattle.calendar.specs.Gregorian.{gregorian_date}
use Rattle.calendar.proofs.Days.{after}
use Rattle.calendar.proofs.Years.{years_later, valid_of, date-of-in-calendar, gregorian_valid, gregorian_in_range, before_last}
use Rattle.calendar.proofs.Gregorian.{gregorian_is_date_of_day}
use Rattle.calendar.proofs.Mjd.{date-of-mjd}
use Rattle.calendar.proofs.NextDates.{by, first-false}
use Rattle.leap_table.specs.declared.rows.AnnouncedRows.{AnnouncedRows}
use Rattle.leap_table.specs.rows.Table.{Row, fixed, starts, month_number, most_seconds}
use Rattle.leap_table.specs.rows.Announced.{table_of}
use Rattle.leap_table.specs.offsets.Offset.{seconds_in, whole_f}
use Rattle.leap_table.specs.offsets.Leap.{offsets, offsets_of_day, day_offsets}
use Rattle.leap_table.proofs.rows.Reached.{member}
use Rattle.leap_table.proofs.rows.NoRows.{none-announced, fixed-taken}
use Rattle.leap_table.proofs.offsets.TableSeconds.{seconds-in-range, table-seconds, seconds-stay, seconds-step}
use Rattle.leap_table.proofs.offsets.Days.{day-offsets-are}
use Rattle.leap_days.proofs.Months.{next-month-number}
use Rattle.refusals.proofs.Onward.{went}
use Rattle.utc_scales.specs.days.Dates.{offsets_of}
use Rattle.utc_scales.specs.round_trip.UtcDays.{month_on, seconds_on, leap_after, short_after, Ending, ends_plain, ends_longer, ends_shorter, WholeSeconds}

-- ---- the date of a day number, and the next
pub date-of : (n : ℕ) → n ≤ 1000000000 → gregorian_date (pos n) ≡ date_of (pos n)
date-of n k = gregorian_is_date_of_day (pos n) refl (le-ltb 1000000000 n k)

at_count : (n : ℕ) → date_of (pos n) ≡ date_at (n + 178141)
unfolding date_of
at_count n = refl

pub next-date : (n : ℕ) → date_of (pos (suc n)) ≡ next (date_of (pos n))
next-date n = at_count (suc n) ∙ ap date_at (one_more n) ∙ after (n + 178141) ∙ ap next (sym (at_count n))
  where
    one_more : (x : ℕ) → suc x + 178141 ≡ suc (x + 178141)
    one_more x = omega arith

-- ---- 1972 and later
first-mjd : mjd_of (pos 1972) (pos 1) (pos 1) ≡ answer (pos 41317)
unfolding mjd_of mjd_number civil_count valid_date days_in_month lengths leap_size onward
first-mjd = refl

first-date : date_of (pos 2441318) ≡ date (pos 1972) 1 1
first-date = sym (date-of 2441318 (omega arith)) ∙ date-of-mjd (pos 1972) (pos 1) (pos 1) (pos 41317) first-mjd refl

since : (q : ℕ) (z : ℤ) → lt_z z (pos q) ≡ false → lt_z (suc_ℤ z) (pos q) ≡ false
since q (pos n) e = le-ltb (suc n) q (omega (arith, ltb-false n q e))
since q (negsuc n) e = let z : true ≡ false = e in cc

pub year-1972 : (n : ℕ) → 2441318 ≤ n → lt_z (date_of (pos n)).year (pos 1972) ≡ false
year-1972 n g =
    subst (λ (t : CalendarDate). lt_z t.year (pos 1972) ≡ false) (sym (at_count n))
    (years_later (λ z. lt_z z (pos 1972) ≡ false) (since 1972) 2619459 (n + 178141) (omega arith)
    (subst (λ (t : CalendarDate). lt_z t.year (pos 1972) ≡ false) (sym first-date ∙ at_count 2441318) refl))

-- ---- the month of a day, and of the next: the same, or one more
unfoldable year_of : ℕ → ℤ
year_of n = (date_of (pos n)).year

natural : (z : ℤ) → lt_z z (pos 1972) ≡ false → (y : ℕ) × (z ≡ pos y) × (1972 ≤ y)
natural (pos y) e = (y, refl, ltb-false y 1972 e)
natural (negsuc y) e = let z : true ≡ false = e in let w : ◌≡◌ {A = ℕ} 0 1 = cc in absurd (omega arith)

month-from : (z : ℤ) (m : ℕ) → lt_z z (pos 1972) ≡ false → 1 ≤ m → 23664 ≤ month_number z m
unfolding month_number
month-from (pos y) m e l = omega (arith, ltb-false y 1972 e)
month-from (negsuc y) m e l = let z : true ≡ false = e in let w : ◌≡◌ {A = ℕ} 0 1 = cc in absurd (omega arith)

pub month-1972 : (n : ℕ) → 2441318 ≤ n → 23664 ≤ month_on n
unfolding month_on
month-1972 n g = month-from (date_of (pos n)).year (date_of (pos n)).month (year-1972 n g) (date-of-in-calendar (pos n)).m_low

-- the date of a day from 1972 to 10^9, which is valid and has a next
module _ (n : ℕ) (g : 2441318 ≤ n) (k : n < 1000000000) where
  abbrev t : CalendarDate
  t = date_of (pos n)

  pub valid : valid_of t ≡ answer tt
  valid = subst (λ (x : CalendarDate). valid_of x ≡ answer tt) (date-of n (omega arith)) (gregorian_valid (pos n))

  not_last : last_date t.year t.month t.day ≡ false
  not_last =
      first-false _ _ (before_last t.year
      (subst (λ (x : CalendarDate). lt_z (pos 2733194) x.year ≡ false) (date-of n (omega arith)) (gregorian_in_range (pos n)).year_high))

  pub next-answered : next_of t.year (pos t.month) (pos t.day) ≡ answer (date_of (pos (suc n)))
  next-answered = by t.year (pos t.month) (pos t.day) valid false not_last ∙ ap answer (sym (next-date n))

  next-number : (z : ℤ) → lt_z z (pos 1972) ≡ false → (m d : ℕ) (x : CalendarDate) → next_of z (pos m) (pos d) ≡ answer x
      → (b : Bool) × (month_number x.year x.month ≡ cond b (month_number z m) (suc (month_number z m)))
  unfolding month_number
  next-number (pos y) e m d x q = (ltb d (month_length (pos y) m), next-month-number y (pos m) (pos d) x q)
  next-number (negsuc y) e m d x q = let z : true ≡ false = e in let w : ◌≡◌ {A = ℕ} 0 1 = cc in absurd (omega arith)

  pub month-next : (b : Bool) × (month_on (suc n) ≡ cond b (month_on n) (suc (month_on n)))
  unfolding month_on
  month-next = next-number t.year (year-1972 n g) t.month t.day (date_of (pos (suc n))) next-answered

-- ---- what the theorems ask of a table: from 1972 on each day begins with whole seconds and ends as `Ending` says, and its offsets are those
pub record WholeTable (rows : List Row) : Type 0 where
  pub whole : (n : ℕ) → 2441318 ≤ n → n < 1000000000 → WholeSeconds rows n
  pub day-offsets : (n : ℕ) → 2441318 ≤ n → n < 1000000000
      → offsets_of rows (gregorian_date (pos n)) ≡ answer (offsets (whole_f (seconds_on rows n)) (whole_f (seconds_on rows n))
      (whole_f (seconds_on rows (suc n))))

module _ (t : AnnouncedRows) (rows : List Row) (e : table_of t ≡ answer rows) where
  module _ (n : ℕ) (g : 2441318 ≤ n) (k : n < 1000000000) where
    abbrev later : 2441318 ≤ suc n
    later = omega arith

    -- ---- the seconds: those of the month, and of the next day's month
    near : (seconds_on rows (suc n) ≡ seconds_on rows n) ⊎ ((seconds_on rows (suc n) ≡ seconds_on rows n + 1) ⊎
        (seconds_on rows n ≡ seconds_on rows (suc n) + 1))
    unfolding seconds_on
    near = go (month-next n g k).0 (month-next n g k).1
      where
        in_month : (b : Bool) → member (suc (month_on n)) (starts rows) ≡ b → month_on (suc n) ≡ suc (month_on n)
            → (seconds_in rows (month_on (suc n)) ≡ seconds_in rows (month_on n))
            ⊎ ((seconds_in rows (month_on (suc n)) ≡ seconds_in rows (month_on n) + 1) ⊎
            (seconds_in rows (month_on n) ≡ seconds_in rows (month_on (suc n)) + 1))
        in_month false b q = inl (ap (seconds_in rows) q ∙ seconds-stay t rows e (month_on n) (month-1972 n g) b)
        in_month true b q =
            inr (subst (λ (m : ℕ). (seconds_in rows m ≡ seconds_in rows (month_on n) + 1) ⊎ (seconds_in rows (month_on n) ≡ seconds_in rows m + 1)) (sym q)
            (seconds-step t rows e (month_on n) (month-1972 n g) b))

        go : (b : Bool) → month_on (suc n) ≡ cond b (month_on n) (suc (month_on n)) → (seconds_in rows (month_on (suc n)) ≡ seconds_in rows (month_on n))
            ⊎ ((seconds_in rows (month_on (suc n)) ≡ seconds_in rows (month_on n) + 1) ⊎
            (seconds_in rows (month_on n) ≡ seconds_in rows (month_on (suc n)) + 1))
        go true q = inl (ap (seconds_in rows) q)
        go false q = in_month (member (suc (month_on n)) (starts rows)) refl q

    in_range : (n : ℕ) → 2441318 ≤ n → (10 ≤ seconds_on rows n) × (seconds_on rows n ≤ most_seconds)
    unfolding seconds_on
    in_range n g = seconds-in-range t rows e (month_on n) (month-1972 n g)

    pub seconds-on-day : WholeSeconds rows n
    unfolding leap_after short_after
    seconds-on-day = go near
      where
        made : (D E : ℕ) → (E ≡ D) ⊎ ((E ≡ D + 1) ⊎ (D ≡ E + 1)) → Ending (E - D) (D - E) × (D + (E - D) ≡ E + (D - E))
        made D E (inl q) = let a : 0 ≡ E - D = omega arith in let b : 0 ≡ D - E = omega arith in (subst₂ Ending a b ends_plain, omega arith)
        made D E (inr (inl q)) = let a : 1 ≡ E - D = omega arith in let b : 0 ≡ D - E = omega arith in (subst₂ Ending a b ends_longer, omega arith)
        made D E (inr (inr q)) = let a : 0 ≡ E - D = omega arith in let b : 1 ≡ D - E = omega arith in (subst₂ Ending a b ends_shorter, omega arith)

        go : (seconds_on rows (suc n) ≡ seconds_on rows n) ⊎ ((seconds_on rows (suc n) ≡ seconds_on rows n + 1) ⊎
            (seconds_on rows n ≡ seconds_on rows (suc n) + 1))
            → WholeSeconds rows n
        go c =
            let m = made (seconds_on rows n) (seconds_on rows (suc n)) c in
            let r = in_range n g in
            let r' = in_range (suc n) later in
            record { least = r.0; most = r.1; least_next = r'.0; most_next = r'.1; ending = m.0; next = m.1 }

    -- ---- THE OFFSETS OF THE DAY: whole seconds, at 0h, 12h and 24h
    pub day-seconds : offsets_of rows (gregorian_date (pos n))
        ≡ answer (offsets (whole_f (seconds_on rows n)) (whole_f (seconds_on rows n)) (whole_f (seconds_on rows (suc n))))
    unfolding offsets_of offsets_of_day month_on seconds_on
    day-seconds =
        let d = date_of (pos n) in
        let j = mjd_number d.year (pos d.month) (pos d.day) in
        let p = table-seconds t rows e (month_on n) (month-1972 n g) (of_int binary64 j) nought in
        let q = table-seconds t rows e (month_on n) (month-1972 n g) (of_int binary64 j) half in
        let r = table-seconds t rows e (month_on (suc n)) (month-1972 (suc n) later) (of_int binary64 (suc_ℤ j)) nought in
        ap (λ (x : CalendarDate). day_offsets rows x.year (pos x.month) (pos x.day)) (date-of n (omega arith))
        ∙ day-offsets-are rows d.year (pos d.month) (pos d.day)
        ∙ went _ (next-answered n g k)
        ∙ ap answer (λ i. offsets (p i) (q i) (r i))

  -- ---- EVERY TABLE that is taken
  pub table-whole : WholeTable rows
  table-whole = record { whole = seconds-on-day; day-offsets = day-seconds }

-- the fixed one among them
pub fixed-whole : WholeTable fixed
fixed-whole = table-whole none-announced fixed fixed-taken
