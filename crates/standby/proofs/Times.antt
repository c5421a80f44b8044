-- Times of a day, test by test, and the instants of dates from 1972 on. Assumes nothing.
use mathlib.Core.Path.{◌≡◌, refl, ap, sym, subst, ◌∙◌}
use mathlib.Core.Bool.{Bool, true, false, true≢false, cond, ◌&&◌}
use mathlib.Core.List.{List}
use Prim.Native.Nat.{ℕ, ◌+◌, ◌-◌, ◌≤◌}
use native.Mathlib.Omega.{arith}
use lib.Dec.{leb}
use lib.IntN.{ℤ, pos, negsuc, nat_abs}
use lib.Signed.{lt_z}
use borrow.Author.Tests.{leb-true, ltb-false, le-ltb}
use Rattle.std.specs.Prelude.{Result, Ok, Err}
use Rattle.refusals.specs.declared.Refusal.{Refusal}
use Rattle.refusals.specs.Outcome.{Outcome, answer, refusal, onward}
use Rattle.calendar.specs.declared.CalendarDate.{CalendarDate}
use Rattle.calendar.specs.Refusals.{valid_date, next_of}
use Rattle.calendar.specs.DayCount.{march_count, civil_count, mjd_number, mjd_of}
use Rattle.calendar.proofs.Signs.{sub_at}
use Rattle.leap_table.specs.declared.rows.AnnouncedRows.{AnnouncedRows}
use Rattle.leap_table.specs.rows.Table.{Row, month_number, most_seconds}
use Rattle.leap_table.specs.rows.Announced.{table_of}
use Rattle.leap_table.specs.offsets.Offset.{seconds_in}
use Rattle.leap_table.specs.offsets.WholeSeconds.{whole_seconds}
use Rattle.leap_table.proofs.offsets.TableSeconds.{seconds-in-range}
use Rattle.leap_table.proofs.offsets.WholeSeconds.{late}
use Rattle.standby.specs.declared.UtcTime.{UtcTime}
use Rattle.standby.specs.declared.Instant.{Instant}
use Rattle.standby.specs.Times.{in_its_day, last_minute, tai_ms, instant_on, instant}

-- ---- the answer's cases
pub same-instant : {a b : Instant} → ◌≡◌ {A = Result Instant Refusal} (Ok a) (Ok b) → a ≡ b
same-instant e = cc

pub never-at : (n : Refusal) (i : Instant) {A : Type 0} → ◌≡◌ {A = Result Instant Refusal} (Err n) (Ok i) → A
never-at n i e = let z : ◌≡◌ {A = ℕ} 0 1 = cc in absurd (omega arith)

-- ---- the time of the day
module _ (t : UtcTime) (last : ℕ) where
  -- what a time of the day is
  pub few_millis : in_its_day t last ≡ true → t.millis ≤ 999
  unfolding in_its_day
  few_millis e = go (leb t.hour 23) (leb t.minute 59) (leb t.millis 999) refl _ e
    where
      go : (a b c : Bool) → leb t.millis 999 ≡ c → (d : Bool) → (a && b) && (c && d) ≡ true → t.millis ≤ 999
      go true true true p d e = leb-true t.millis 999 p
      go true true false p d e = absurd (true≢false (sym e))
      go true false c p d e = absurd (true≢false (sym e))
      go false b c p d e = absurd (true≢false (sym e))

-- ---- TAI-UTC on a date from 1972 on
a-month-here : (rows : List Row) (y : ℤ) (m : ℕ) → lt_z y (pos 1972) ≡ false → 1 ≤ m → m ≤ 12 → whole_seconds rows y m ≡ seconds_in rows (month_number y m)
unfolding whole_seconds
a-month-here rows y m p g h = rw (p, le-ltb m 1 g, le-ltb 12 m h)

pub offset-small : (t : AnnouncedRows) (rows : List Row) → table_of t ≡ answer rows → (y : ℤ) (m : ℕ) → lt_z y (pos 1972) ≡ false → 1 ≤ m → m ≤ 12
    → (10 ≤ whole_seconds rows y m) × (whole_seconds rows y m ≤ most_seconds)
offset-small t rows e y m p g h =
    subst (λ (k : ℕ). (10 ≤ k) × (k ≤ most_seconds)) (sym (a-month-here rows y m p g h)) (seconds-in-range t rows e (month_number y m) (late y m p g))

-- ---- the Modified Julian Date of a date from 1972 on is above 0
march_from_1972 : (y m d : ℕ) → 6771 ≤ y → 2432076 ≤ march_count y m d
march_from_1972 y m d h = omega arith

civil_from_1972 : (y m d : ℕ) → 6772 ≤ y → 2432076 ≤ civil_count y m d
unfolding civil_count
civil_from_1972 y m d h = go (leb m 2)
  where
    go : (b : Bool) → 2432076 ≤ cond b (march_count (y - 1) (m + 10) d) (march_count y (m - 2) d)
    go true = march_from_1972 (y - 1) (m + 10) d (omega arith)
    go false = march_from_1972 y (m - 2) d (omega arith)

pub mjd-natural : (y m d : ℤ) → lt_z y (pos 1972) ≡ false → mjd_number y m d ≡ pos (nat_abs (mjd_number y m d))
unfolding mjd_number
mjd-natural (pos y) m d p =
    let c = civil_from_1972 (y + 4800) (nat_abs m) (nat_abs d) (omega (arith, ltb-false y 1972 p)) in
    let e = sub_at (civil_count (y + 4800) (nat_abs m) (nat_abs d)) 2432076 c in
    e ∙ ap (λ (z : ℤ). pos (nat_abs z)) (sym e)
mjd-natural (negsuc y) m d p = absurd (true≢false p)

-- ---- the ladder of a time, test by test
next-refused : (y m d : ℤ) (k : ℕ) → mjd_of y m d ≡ refusal k → next_of y m d ≡ refusal k
unfolding mjd_of next_of onward
next-refused y m d k e = same (valid_date y m d) (mjd_number y m d) _ e
  where
    same : (o : Outcome Unit) (n : ℤ) (f : Unit → Outcome CalendarDate) → onward o (λ _. answer n) ≡ refusal k → onward o f ≡ refusal k
    same (answer x) n f e = let z : ◌≡◌ {A = ℕ} 0 1 = cc in absurd (omega arith)
    same (refusal j) n f e = cc

module _ (rows : List Row) (t : UtcTime) where
  pub early-year : lt_z t.year (pos 1972) ≡ true → refusal 1 ≡ instant rows t
  unfolding instant
  early-year p = rw p

  module _ (p : lt_z t.year (pos 1972) ≡ false) where
    pub no_next : (k : ℕ) → next_of t.year (pos t.month) (pos t.day) ≡ refusal k → refusal k ≡ instant rows t
    unfolding instant onward
    no_next k e = rw (p, e)

    pub no_date : (k : ℕ) → mjd_of t.year (pos t.month) (pos t.day) ≡ refusal k → refusal k ≡ instant rows t
    no_date k e = no_next k (next-refused t.year (pos t.month) (pos t.day) k e)

    pub on-date : (next : CalendarDate) → next_of t.year (pos t.month) (pos t.day) ≡ answer next → instant_on rows t next ≡ instant rows t
    unfolding instant onward
    on-date next e = rw (p, e)

  pub time-fits : (next : CalendarDate) → in_its_day t (last_minute rows t next) ≡ true → answer (tai_ms rows t) ≡ instant_on rows t next
  unfolding instant_on
  time-fits next e = rw e

  pub time-refused : (next : CalendarDate) → in_its_day t (last_minute rows t next) ≡ false → refusal 4 ≡ instant_on rows t next
  unfolding instant_on
  time-refused next e = rw e
