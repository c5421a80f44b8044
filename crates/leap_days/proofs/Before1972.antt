-- EVERY LEAP BEFORE 1972, by the fixed table: 0.0 before 1960, that of 1959-12-31 on that day alone, and at most 0.5 s in size in the years of drift; the same
-- in both orders of rounding. Assumes nothing.
use mathlib.Core.Path.{◌≡◌, refl, ap, sym, subst, ◌∙◌}
use mathlib.Core.Bool.{Bool, true, false, cond}
use mathlib.Core.List.{List}
use Prim.Native.Nat.{ℕ, suc, ◌+◌, ◌-◌, ◌/◌, ◌%◌, ◌≤◌, ◌<◌}
use native.Mathlib.Omega.{arith}
use lib.Dec.{T, eqb, ltb}
use lib.IntN.{ℤ, pos, negsuc, nat_abs, suc_ℤ, ◌+ℤ◌, ◌-ℤ◌}
use lib.Ieee.{binary64, round, add, sub, mul, of_int}
use borrow.Author.Tests.{ltb-true, ltb-false}
use Rattle.refusals.specs.Outcome.{answer}
use Rattle.floats.specs.Whole.{nought, half}
use Rattle.calendar.specs.Calendar.{lengths, leap_size}
use Rattle.calendar.specs.Refusals.{next_of}
use Rattle.calendar.specs.DayCount.{civil_count, mjd_number}
use Rattle.calendar.specs.declared.CalendarDate.{CalendarDate}
use Rattle.calendar.proofs.Accepted.{Accepted, date-accepted, short}
use Rattle.calendar.proofs.NextDates.{next-is}
use Rattle.leap_table.specs.rows.Table.{Row, fixed, starts, reached, month_number, month_of}
use Rattle.leap_table.specs.offsets.Offset.{seconds_of, start_of, rate_of, by_row, offset_by, offset_at, row_at}
use Rattle.leap_table.specs.offsets.Leap.{offsets, offsets_of_day, leap_of, drift_rate, leap_amount}
use Rattle.leap_table.specs.declared.offsets.DayOffsets.{DayOffsets}
use Rattle.leap_table.proofs.offsets.At.{same-three}
use Rattle.leap_table.proofs.offsets.Years.{before_1960}
use Rattle.time_of_day.specs.ExactTime.{leap1959}
use Rattle.leap_days.proofs.drift.Tests.{each}
use Rattle.leap_days.proofs.drift.Drift.{one_day, day_test, days_test, rows_test, month_test}
use Rattle.leap_days.proofs.drift.Each.{all-months}
use Rattle.leap_days.proofs.Months.{next-month-number, next-month-early}
use Rattle.leap_days.proofs.Quick.{Step, test_is, quick_drift, quick_any}
use Rattle.leap_days.proofs.Whole.{Both}

abbrev row_of : ℕ → Row
row_of n = row_at (reached (starts fixed) n)

-- ---- a day of 1960 to 1971: month n is month m of year y
move : (a a' b b' y y' m m' : ℕ) → a ≡ a' → b ≡ b' → y ≡ y' → m ≡ m' → T (rows_test (row_of a) (row_of b) y m) → T (rows_test (row_of a') (row_of b') y' m')
move a a' b b' y y' m m' p q r s t = subst (λ (z : Bool). T z) (λ i. rows_test (row_of (p i)) (row_of (q i)) (r i) (s i)) t

as_rows : (i : ℕ) → T (month_test i) → T (rows_test (row_of (23520 + i)) (row_of (23521 + i)) (1960 + i / 12) (i % 12 + 1))
unfolding month_test
as_rows i t = t

module _ (n y m : ℕ) (e : n ≡ month_of y m) (l : 23520 ≤ n) (h : n < 23664) (a : 1 ≤ m) (b : m ≤ 12) where
  month-at : T (rows_test (row_of n) (row_of (suc n)) y m)
  month-at =
      move (23520 + (n - 23520)) n (23521 + (n - 23520)) (suc n) (1960 + (n - 23520) / 12) y ((n - 23520) % 12 + 1) m (omega arith) (omega arith)
      (omega arith) (omega arith)
      (as_rows (n - 23520) (all-months (n - 23520) (omega arith)))

  abbrev Test : Bool → ℤ → Bool
  Test t j = day_test t (seconds_of (row_of n)) (start_of (row_of n)) (rate_of (row_of n)) (eqb (row_of (suc n)).rate 0) (seconds_of (row_of (suc n)))
      (start_of (row_of (suc n))) (rate_of (row_of (suc n))) j

  at_day : (d : ℕ) → d < 31 → T (Test (ltb (suc d) (lengths (leap_size y) m)) (mjd_number (pos y) (pos m) (pos (suc d))))
  unfolding rows_test days_test
  at_day d g = each (λ k. Test (ltb (suc k) (lengths (leap_size y) m)) (mjd_number (pos y) (pos m) (pos (suc k)))) 31 d g month-at

  real : (t : Bool) (j : ℤ) → T (Test t j) → Step (offsets_of_day fixed n (cond t n (suc n)) j)
  unfolding day_test one_day offsets_of_day
  real true j t =
      subst Step (same-three _ _ _ _ _ _ (quick_drift n j nought l h) (quick_drift n j half l h) (quick_drift n (suc_ℤ j) nought l h)) (test_is _ _ _ t)
  real false j t =
      subst Step (same-three _ _ _ _ _ _ (quick_drift n j nought l h) (quick_drift n j half l h) (quick_any (suc n) (suc_ℤ j) nought (omega arith)))
      (test_is _ _ _ t)

  drift-day : (d : ℕ) → d < 31 → Step (offsets_of_day fixed n (cond (ltb (suc d) (lengths (leap_size y) m)) n (suc n))
      (mjd_number (pos y) (pos m) (pos (suc d))))
  drift-day d g = real (ltb (suc d) (lengths (leap_size y) m)) (mjd_number (pos y) (pos m) (pos (suc d))) (at_day d g)

-- ---- before 1960, and 1959-12-31
none : Both (offsets nought nought nought) nought
unfolding leap_of leap_amount drift_rate add sub mul
none = (refl, refl)

before : (n n' : ℕ) (j : ℤ) → n < 23520 → n' < 23520 → Both (offsets_of_day fixed n n' j) nought
unfolding offsets_of_day
before n n' j h h' =
    subst (λ (o : DayOffsets). Both o nought)
    (sym (same-three _ _ _ _ _ _ (before_1960 n (of_int binary64 j) nought h) (before_1960 n (of_int binary64 j) half h)
    (before_1960 n' (of_int binary64 (suc_ℤ j)) nought h'))) none

pub last_of_1959 : Both (offsets_of_day fixed 23519 23520 (mjd_number (pos 1959) (pos 12) (pos 31))) leap1959
unfolding leap_of leap_amount drift_rate offsets_of_day offset_at offset_by by_row seconds_of start_of rate_of mjd_number civil_count fixed reached round add
    sub mul of_int
last_of_1959 = (refl, refl)

-- ---- the leap of a day before 1972, by its date
pub data Early (y m d : ℤ) (o : DayOffsets) : Type 0 where
  no_row_yet : month_number y (nat_abs m) < 23520 → Both o nought → Early y m d o
  first-row : y ≡ pos 1959 → nat_abs m ≡ 12 → nat_abs d ≡ 31 → Both o leap1959 → Early y m d o
  by-drift : 23520 ≤ month_number y (nat_abs m) → Step o → Early y m d o

mjd-same : (y m d : ℤ) (k j : ℕ) → nat_abs m ≡ k → nat_abs d ≡ j → mjd_number y (pos k) (pos j) ≡ mjd_number y m d
unfolding mjd_number
mjd-same y m d k j p q = sym (λ i. pos (civil_count (nat_abs (y +ℤ pos 4800)) (p i) (q i)) -ℤ pos 2432076)

turn : (b : Bool) (n : ℕ) → n < 23520 → 23520 ≤ cond b n (suc n) → (b ≡ false) × (n ≡ 23519)
turn true n h l = absurd (omega arith)
turn false n h l = (refl, omega arith)

less : (d : ℕ) → 1 ≤ d → d ≡ suc (d - 1)
less d h = omega arith

module _ (y : ℕ) (m d : ℤ) (a : Accepted (pos y) m d) where
  abbrev M : ℕ
  M = nat_abs m

  abbrev D : ℕ
  D = nat_abs d

  abbrev L : ℕ
  L = lengths (leap_size y) M

  abbrev N : ℕ
  N = month_of y M

  abbrev O : DayOffsets
  O = offsets_of_day fixed N (cond (ltb D L) N (suc N)) (mjd_number (pos y) m d)

  thirty_one : y ≡ 1959 → M ≡ 12 → L ≡ 31
  unfolding lengths leap_size
  thirty_one p q = λ i. lengths (leap_size (p i)) (q i)

  last-day : N ≡ 23519 → ltb D L ≡ false → Both O leap1959
  last-day e f = go (omega (arith, e, a.m_low, a.m_high)) (omega (arith, e, a.m_low, a.m_high))
    where
      go : y ≡ 1959 → M ≡ 12 → Both O leap1959
      go p q =
          subst (λ (o : DayOffsets). Both o leap1959)
          (sym
          (ap (λ (b : Bool). offsets_of_day fixed N (cond b N (suc N)) (mjd_number (pos y) m d)) f
          ∙ ap (λ (k : ℕ). offsets_of_day fixed k (suc k) (mjd_number (pos y) m d)) e
          ∙ ap (offsets_of_day fixed 23519 23520)
          (sym (mjd-same (pos y) m d 12 31 q (omega (arith, a.d_high, ltb-false D L f, thirty_one p q)))
          ∙ ap (λ (k : ℕ). mjd_number (pos k) (pos 12) (pos 31)) p)))
          last_of_1959

  drifting : 23520 ≤ N → N < 23664 → Step O
  drifting l h =
      subst (λ (k : ℕ). Step (offsets_of_day fixed N (cond (ltb k L) N (suc N)) (mjd_number (pos y) m d))) (sym (less D a.d_low))
      (subst (λ (j : ℤ). Step (offsets_of_day fixed N (cond (ltb (suc (D - 1)) L) N (suc N)) j)) (mjd-same (pos y) m d M (suc (D - 1)) refl (less D a.d_low))
      (drift-day N y M refl l h a.m_low a.m_high (D - 1) (omega (arith, a.d_low, a.d_high, short (leap_size y) M a.m_low a.m_high))))

  at_1959 : N ≡ 23519 → ltb D L ≡ false → Early (pos y) m d O
  at_1959 e f =
      let p : y ≡ 1959 = omega (arith, e, a.m_low, a.m_high) in
      let q : M ≡ 12 = omega (arith, e, a.m_low, a.m_high) in
      first-row (ap pos p) q (omega (arith, a.d_high, ltb-false D L f, thirty_one p q)) (last-day e f)

  early-day : N < 23664 → Early (pos y) m d O
  unfolding month_number
  early-day h = go (ltb N 23520) refl (ltb (cond (ltb D L) N (suc N)) 23520) refl
    where
      go : (q : Bool) → ltb N 23520 ≡ q → (r : Bool) → ltb (cond (ltb D L) N (suc N)) 23520 ≡ r → Early (pos y) m d O
      go false f r g = by-drift (ltb-false N 23520 f) (drifting (ltb-false N 23520 f) h)
      go true f true g = no_row_yet (ltb-true N 23520 f)
          (before N (cond (ltb D L) N (suc N)) (mjd_number (pos y) m d) (ltb-true N 23520 f) (ltb-true (cond (ltb D L) N (suc N)) 23520 g))
      go true f false g = let t = turn (ltb D L) N (ltb-true N 23520 f) (ltb-false (cond (ltb D L) N (suc N)) 23520 g) in at_1959 t.1 t.0

-- ---- by dates
abbrev pub offsets_by : List Row → ℤ → ℤ → ℤ → CalendarDate → DayOffsets
offsets_by rows y m d s = offsets_of_day rows (month_number y (nat_abs m)) (month_number s.year s.month) (mjd_number y m d)

pub early-date : (y m d : ℤ) (s : CalendarDate) → next_of y m d ≡ answer s → month_number y (nat_abs m) < 23664 → Early y m d (offsets_by fixed y m d s)
unfolding month_number
early-date (pos y) m d s h l =
    subst (Early (pos y) m d) (sym (ap (λ (k : ℕ). offsets_of_day fixed (month_of y (nat_abs m)) k (mjd_number (pos y) m d)) (next-month-number y m d s h)))
    (early-day y m d (date-accepted (pos y) m d (next-is (pos y) m d s h).0) l)
early-date (negsuc y) m d s h l =
    no_row_yet (omega arith)
    (subst (λ (k : ℕ). Both (offsets_of_day fixed 0 k (mjd_number (negsuc y) m d)) nought) (sym (next-month-early y m d s h))
    (before 0 0 (mjd_number (negsuc y) m d) (omega arith) (omega arith)))
