-- THE LEAP SECONDS: from 1972 on the leap is exactly 1.0 on the days of the list and exactly 0.0 on every other day; so a day has 86,401 s or 86,400 s.
-- Assumes nothing.
use mathlib.Core.Path.{◌≡◌, refl, ap, sym, ◌∙◌}
use mathlib.Core.Bool.{Bool, true, false, not, cond, ◌&&◌, ◌||◌}
use mathlib.Core.List.{List, [], ◌∷◌, map}
use Prim.Native.Nat.{ℕ, suc, ◌+◌, ◌-◌, ◌*◌, ◌/◌, ◌≤◌}
use native.Mathlib.Omega.{arith}
use lib.Dec.{T, eqb, ltb, leb, leb→le}
use lib.ListN.{length, drop}
use lib.IntN.{ℤ, pos, nat_abs}
use lib.Ieee.{Float, nan, inf, fin, binary64, add, lt, up, down, round, of_int, of_bits}
use lib.Ieee.Bits.{is_true}
use lib.Ieee.Fits.{and_l, and_r}
use borrow.Author.Tests.{eqb-true, eqb-false, eq-eqb, ne_eqb, ltb-true, ltb-false, le-ltb}
use Rattle.refusals.specs.Outcome.{answer}
use Rattle.floats.specs.Whole.{abs, nought, half, one}
use Rattle.calendar.specs.Calendar.{lengths, leap_size}
use Rattle.calendar.specs.DayCount.{mjd_number}
use Rattle.calendar.proofs.Accepted.{date-accepted}
use Rattle.calendar.proofs.NextDates.{next-is}
use Rattle.calendar.specs.declared.CalendarDate.{CalendarDate}
use Rattle.calendar.specs.Refusals.{next_of}
use Rattle.leap_table.specs.declared.rows.AnnouncedRows.{AnnouncedRows}
use Rattle.leap_table.specs.rows.Announced.{table_of}
use Rattle.leap_table.specs.rows.Table.{Row, fixed, starts, reached, month_number, month_of, fixed_rows}
use Rattle.leap_table.specs.offsets.Leap.{offsets_of_day, leap_of, leap_at_end_of_day}
use Rattle.leap_table.proofs.rows.Reached.{member, month-later, member_later}
use Rattle.leap_table.proofs.rows.Rows.{fixed-rises}
use Rattle.leap_table.proofs.offsets.Years.{whole-rows}
use Rattle.leap_table.proofs.offsets.WholeSeconds.{fixed-seconds}
use Rattle.leap_table.proofs.rows.NoRows.{none-announced, fixed-taken}
use Rattle.leap_table.proofs.offsets.TableSeconds.{seconds-stay}
use Rattle.leap_table.proofs.offsets.Days.{leap-came}
use Rattle.leap_table.specs.offsets.Offset.{seconds_in, whole_f}
use Rattle.leap_days.specs.drift.Small.{small}
use Rattle.leap_days.specs.Leaps.{Day, leap_seconds, listed, is_leap_second}
use Rattle.leap_days.proofs.Months.{next-month-number}
use Rattle.leap_days.proofs.TableLeaps.{no_step, one-second-more, leap-is-step}
use Rattle.leap_days.specs.Tables.{StepLeap, no_row, row_up, row_down}

-- ---- as many days as the table has rows after the one of January 1972, each the last of the month before such a row begins
pub leap-days-counted : length leap_seconds ≡ fixed_rows - 15
unfolding leap_seconds
leap-days-counted = refl

-- the number of the month after a day's
abbrev month_after : Day → ℕ
month_after t = 12 * t.year + t.month

months_are : drop 15 (starts fixed) ≡ map month_after leap_seconds
unfolding fixed leap_seconds
months_are = refl

begins : (n : ℕ) → 23664 ≤ n → member (suc n) (starts fixed) ≡ member (suc n) (map month_after leap_seconds)
unfolding fixed
begins n h = member_later (starts fixed) fixed-rises 14 (suc n) (omega arith) (omega arith) ∙ ap (member (suc n)) months_are

abbrev last_day : Day → Bool
last_day t = (leb 1 t.month && leb t.month 12) && eqb t.day (lengths (leap_size t.year) t.month)

abbrev last_days : List Day → Bool
last_days [] = true
last_days (t ∷ rest) = last_day t && last_days rest

with_true : (b : Bool) → b && true ≡ b
with_true true = refl
with_true false = refl

with_false : (b : Bool) → b && false ≡ false
with_false true = refl
with_false false = refl

share : (c a b : Bool) → (c && a) || (c && b) ≡ c && (a || b)
share true a b = refl
share false a b = refl

module _ (y m d : ℕ) (l : 1 ≤ m) (h : m ≤ 12) where
  abbrev E : Bool
  E = eqb d (lengths (leap_size y) m)

  one-day : (t : Day) → T (last_day t) → eqb y t.year && (eqb m t.month && eqb d t.day) ≡ E && eqb (12 * y + m) (month_after t)
  one-day t k = go (eqb y t.year) refl (eqb m t.month) refl
    where
      r : T (leb 1 t.month && leb t.month 12)
      r = and_l (leb 1 t.month && leb t.month 12) (eqb t.day (lengths (leap_size t.year) t.month)) k

      low : 1 ≤ t.month
      low = leb→le 1 t.month (and_l (leb 1 t.month) (leb t.month 12) r)

      high : t.month ≤ 12
      high = leb→le t.month 12 (and_r (leb 1 t.month) (leb t.month 12) r)

      day : t.day ≡ lengths (leap_size t.year) t.month
      day = eqb-true t.day (lengths (leap_size t.year) t.month)
          (is_true (eqb t.day (lengths (leap_size t.year) t.month))
          (and_r (leb 1 t.month && leb t.month 12) (eqb t.day (lengths (leap_size t.year) t.month)) k))

      other : (12 * y + m ≡ month_after t → ⊥) → false ≡ E && eqb (12 * y + m) (month_after t)
      other n = sym (ap (λ (b : Bool). E && b) (ne_eqb (12 * y + m) (month_after t) n) ∙ with_false E)

      go : (a : Bool) → eqb y t.year ≡ a → (b : Bool) → eqb m t.month ≡ b → a && (b && eqb d t.day) ≡ E && eqb (12 * y + m) (month_after t)
      go true p true q =
          let p' = eqb-true y t.year p in
          let q' = eqb-true m t.month q in
          ap (eqb d) (day ∙ sym (λ i. lengths (leap_size (p' i)) (q' i)))
          ∙ sym (ap (λ (b : Bool). E && b) (eq-eqb (12 * y + m) (month_after t) (λ i. 12 * (p' i) + q' i)) ∙ with_true E)
      go true p false q = other (λ e. eqb-false m t.month q (omega (arith, eqb-true y t.year p)))
      go false p b q = other (λ e. eqb-false y t.year p (omega (arith, e, l, h, low, high)))

  all : (s : List Day) → T (last_days s) → listed s y m d ≡ E && member (12 * y + m) (map month_after s)
  all [] k = sym (with_false E)
  all (t ∷ s) k =
      (λ i. one-day t (and_l (last_day t) (last_days s) k) i || all s (and_r (last_day t) (last_days s) k) i)
      ∙ share E (eqb (12 * y + m) (month_after t)) (member (12 * y + m) (map month_after s))

  all-last : T (last_days leap_seconds)
  unfolding leap_seconds lengths leap_size
  all-last = tt

  at_end : d ≤ lengths (leap_size y) m → not (ltb d (lengths (leap_size y) m)) ≡ E
  at_end g = go (ltb d (lengths (leap_size y) m)) refl
    where
      go : (b : Bool) → ltb d (lengths (leap_size y) m) ≡ b → not b ≡ E
      go true e = sym (ne_eqb d (lengths (leap_size y) m) (λ z. omega (arith, ltb-true d (lengths (leap_size y) m) e)))
      go false e = sym (eq-eqb d (lengths (leap_size y) m) (omega (arith, ltb-false d (lengths (leap_size y) m) e)))

  number : suc (month_of y m) ≡ 12 * y + m
  number = omega arith

  late : 1972 ≤ y → 23664 ≤ month_of y m
  late g = omega arith

  the_list : 1972 ≤ y → d ≤ lengths (leap_size y) m → not (ltb d (lengths (leap_size y) m)) && member (suc (month_of y m)) (starts fixed) ≡ is_leap_second y m d
  unfolding is_leap_second
  the_list g k =
      (λ i. at_end k i && begins (month_of y m) (late g) i)
      ∙ ap (λ (n : ℕ). E && member n (map month_after leap_seconds)) number
      ∙ sym (all leap_seconds all-last)

module _ (n : ℕ) (h : 23664 ≤ n) (j : ℤ) where
  abbrev B : Bool
  B = member (suc n) (starts fixed)

  -- a day of month n; `last`: the next day is of the next month
  fixed-leap : (last : Bool) → leap_of (offsets_of_day fixed n (cond last n (suc n)) j) ≡ cond (not last && B) one nought
  fixed-leap true = (no_step none-announced fixed fixed-taken n n h h j refl).0
  fixed-leap false = go B refl
    where
      go : (b : Bool) → member (suc n) (starts fixed) ≡ b → leap_of (offsets_of_day fixed n (suc n) j) ≡ cond b one nought
      go true p =
          let q : reached (starts fixed) (suc n) ≡ suc (reached (starts fixed) n) = month-later (starts fixed) fixed-rises n ∙ rw p in
          (one-second-more none-announced fixed fixed-taken n (suc n) h (omega arith) j
          (omega (arith, q, whole-rows n h, fixed-seconds n h, fixed-seconds (suc n) (omega arith)))).0
      go false p = (no_step none-announced fixed fixed-taken n (suc n) h (omega arith) j (seconds-stay none-announced fixed fixed-taken n h p)).0

-- ---- THE LAWS, from 1972 on
pub leap-seconds : (y : ℕ) (m d : ℤ) (x : Float) → 1972 ≤ y → leap_at_end_of_day fixed (pos y) m d ≡ answer x
    → x ≡ cond (is_leap_second y (nat_abs m) (nat_abs d)) one nought
unfolding month_number
leap-seconds y m d x h e =
    let (t, p, q) = leap-came fixed (pos y) m d x e in
    let a = date-accepted (pos y) m d (next-is (pos y) m d t p).0 in
    let n = month_of y (nat_abs m) in
    q
    ∙ ap (λ (k : ℕ). leap_of (offsets_of_day fixed n k (mjd_number (pos y) m d))) (next-month-number y m d t p)
    ∙ fixed-leap n (late y (nat_abs m) (nat_abs d) a.m_low a.m_high h) (mjd_number (pos y) m d) (ltb (nat_abs d) (lengths (leap_size y) (nat_abs m)))
    ∙ ap (λ (b : Bool). cond b one nought) (the_list y (nat_abs m) (nat_abs d) a.m_low a.m_high h a.d_high)

lengths-are : (b : Bool) → add binary64 (whole_f 86400) (cond b one nought) ≡ whole_f (cond b 86401 86400)
unfolding add round of_int
lengths-are true = refl
lengths-are false = refl

-- the day's length in seconds
pub day-length : (y : ℕ) (m d : ℤ) (x : Float) → 1972 ≤ y → leap_at_end_of_day fixed (pos y) m d ≡ answer x
    → add binary64 (whole_f 86400) x ≡ whole_f (cond (is_leap_second y (nat_abs m) (nat_abs d)) 86401 86400)
day-length y m d x h e = ap (add binary64 (whole_f 86400)) (leap-seconds y m d x h e) ∙ lengths-are (is_leap_second y (nat_abs m) (nat_abs d))

-- the same of every table that is taken: 86,400 s and the step
step-length : (rows : List Row) (n n' : ℕ) (x : Float) → StepLeap rows n n' x
    → add binary64 (whole_f 86400) x ≡ whole_f (86400 + seconds_in rows n' - seconds_in rows n)
unfolding add round of_int of_bits
step-length rows n n' x (no_row r p) = ap (add binary64 (whole_f 86400)) p
    ∙ ap whole_f (level (seconds_in rows n') (seconds_in rows n) (ap (λ (w : Row). w.units / 10000000) r))
  where
    level : (a b : ℕ) → a ≡ b → 86400 ≡ 86400 + a - b
    level a b e = omega arith
step-length rows n n' x (row_up b s p) = ap (add binary64 (whole_f 86400)) p ∙ ap whole_f (more (seconds_in rows n') (seconds_in rows n) s)
  where
    more : (a b : ℕ) → a ≡ b + 1 → 86401 ≡ 86400 + a - b
    more a b e = omega arith
step-length rows n n' x (row_down b s p) = ap (add binary64 (whole_f 86400)) p ∙ ap whole_f (down_by (seconds_in rows n') (seconds_in rows n) s)
  where
    down_by : (a b : ℕ) → b ≡ a + 1 → 86399 ≡ 86400 + a - b
    down_by a b e = omega arith

pub table-day-length : (t : AnnouncedRows) (rows : List Row) → table_of t ≡ answer rows → (y m d : ℤ) (next : CalendarDate) (x : Float)
    → 23664 ≤ month_number y (nat_abs m) → next_of y m d ≡ answer next → leap_at_end_of_day rows y m d ≡ answer x
    → add binary64 (whole_f 86400) x ≡ whole_f (86400 + seconds_in rows (month_number next.year next.month) - seconds_in rows (month_number y (nat_abs m)))
table-day-length t rows e y m d next x h n p = step-length rows _ _ x (leap-is-step t rows e y m d next x h n p)

-- ---- the test of the text, 0.5 < |leap|: false of the small ones, and true of the other two
pub small-not-over : (x : Float) → T (small x) → lt half (abs x) ≡ false
unfolding lt abs
small-not-over nan t = absurd t
small-not-over (inf s) t = absurd t
small-not-over (fin s m e) t = le-ltb (1 * 1 * down e) (m * up e * 2) (go (m * up e * 2) (down e) (leb→le (m * up e * 2) (down e) t))
  where
    go : (a b : ℕ) → a ≤ b → a ≤ 1 * 1 * b
    go a b h = omega arith
