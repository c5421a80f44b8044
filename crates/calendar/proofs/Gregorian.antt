-- The Rust's divisions of a day number give that day's date, and what `gregorian_date` is inside its range and past either end.
-- Assumes nothing.
use mathlib.Core.Path.{◌≡◌, refl, ap, sym, subst, ◌∙◌}
use mathlib.Core.Bool.{true, false}
use Prim.Native.Nat.{ℕ, ◌+◌, ◌-◌, ◌*◌, ◌/◌, ◌≤◌, ◌<◌}
use native.Mathlib.Omega.{arith}
use native.Mathlib.Nat.{add-zero}
use lib.Signed.{lt_z}
use lib.IntN.{ℤ, pos, negsuc, nat_abs, sub_ℕ, ◌+ℤ◌, +ℤ_assoc}
use Rattle.calendar.specs.Calendar.{date, date_at, date_of}
use Rattle.calendar.specs.Gregorian.{gregorian_date}
use Rattle.calendar.proofs.Months.{months}
use Rattle.calendar.proofs.Signs.{sub_shift}
use Rattle.calendar.proofs.March.{at, Valid}
use Rattle.calendar.proofs.Divisions.{century_start, good, counts, month_is, month-shifts, year_fits}
use Rattle.calendar.proofs.InStep.{from_march, year_of, date-with-count}

march_date_by_division : (y d m : ℕ) → 1 ≤ m → m ≤ 12 → from_march (at y m d) ≡ date (year_of (y + m / 11)) (m + 2 - 12 * (m / 11)) d
march_date_by_division y d =
    months (λ m. from_march (at y m d) ≡ date (year_of (y + m / 11)) (m + 2 - 12 * (m / 11)) d)
    (same 3) (same 4) (same 5) (same 6) (same 7) (same 8) (same 9) (same 10) (same 11) (same 12) refl refl
  where
    same : (k : ℕ) → date (year_of y) k d ≡ date (year_of (y + 0)) k d
    same k = ap (λ (n : ℕ). date (year_of n) k d) (sym (add-zero y))

shifted : (n i o : ℕ) → 100 * n + i + o + 300 ≡ 100 * n + i + 300 + o
shifted n i o = omega arith

module _ (l n a i b k : ℕ) (en : n ≡ 4 * l / 146097) (ea : a ≡ l - century_start n) (ei : i ≡ 4000 * (a + 1) / 1461001) (eb : b ≡ a + 31 - 1461 * i / 4)
    (ek : k ≡ 80 * b / 2447) where
  v : Valid (100 * n + i + 300) k (b - 2447 * k / 80)
  v = good l n a i b k en ea ei eb ek

  pub divisions_give_date : date (sub_ℕ (100 * n + i + k / 11) 4900) (k + 2 - 12 * (k / 11)) (b - 2447 * k / 80) ≡ date_at (l + 109572)
  divisions_give_date =
      ap (λ (z : ℤ). date z (k + 2 - 12 * (k / 11)) (b - 2447 * k / 80))
      (sym (sub_shift (100 * n + i + k / 11) 4900 300) ∙ ap year_of (shifted n i (k / 11)))
      ∙ sym
      (date-with-count (at (100 * n + i + 300) k (b - 2447 * k / 80)) (l + 109572) v (counts l n a i b k en ea ei eb ek)
      ∙ march_date_by_division (100 * n + i + 300) (b - 2447 * k / 80) k v.m_low v.m_high)

-- the same by the code's shifts
module _ (l n a i b m : ℕ) (en : n ≡ 4 * l / 146097) (ea : a ≡ l - century_start n) (ei : i ≡ 4000 * (a + 1) / 1461001) (eb : b ≡ a + 31 - 1461 * i / 4)
    (em : m ≡ (535 * b + 130) / 16384) where
  k : ℕ
  k = 80 * b / 2447

  same_month : m ≡ k
  unfolding k
  same_month = em ∙ month_is l n a i b k en ea ei eb refl

  shifts : ((k + 5) / 16 ≡ k / 11) × (979 * k / 32 ≡ 2447 * k / 80)
  unfolding k
  shifts =
      let w = good l n a i b k en ea ei eb refl in
      month-shifts k w.m_low w.m_high

  over-is : (m + 5) / 16 ≡ k / 11
  over-is = ap (λ (x : ℕ). (x + 5) / 16) same_month ∙ shifts.0

  pub shifts_give_date : date (sub_ℕ (100 * n + i + (m + 5) / 16) 4900) (m + 2 - 12 * ((m + 5) / 16)) (b - 979 * m / 32) ≡ date_at (l + 109572)
  unfolding k
  shifts_give_date =
      (λ j. date (sub_ℕ (100 * n + i + over-is j) 4900) (same_month j + 2 - 12 * over-is j) (b - (ap (λ (x : ℕ). 979 * x / 32) same_month ∙ shifts.1) j))
      ∙ divisions_give_date l n a i b k en ea ei eb refl

  pub year-of-shifts-fits : l ≤ 1000068569 → 100 * n + i + (m + 5) / 16 < 2147483648
  unfolding k
  year-of-shifts-fits h = subst (λ (o : ℕ). 100 * n + i + o < 2147483648) (sym over-is) (year_fits l n a i b k en ea ei eb refl h)

-- the day number and the count from -5200-03-01
pub shifted_day_is : (jd : ℤ) (l : ℕ) → pos l ≡ jd +ℤ pos 68569 → date_of jd ≡ date_at (l + 109572)
unfolding date_of
shifted_day_is jd l e = ap (λ (z : ℤ). date_at (nat_abs z)) (sym (+ℤ_assoc jd (pos 68569) (pos 109572)) ∙ ap (λ (z : ℤ). z +ℤ pos 109572) (sym e))

-- THE MEANING of `gregorian_date`: from -68569 to 1,000,000,000 it is the date of that day number
pub gregorian_is_date_of_day : (n : ℤ) → lt_z n (negsuc 68568) ≡ false → lt_z (pos 1000000000) n ≡ false → gregorian_date n ≡ date_of n
unfolding gregorian_date
gregorian_is_date_of_day n p q = rw (p, q)

pub gregorian_above : (n : ℤ) → lt_z n (negsuc 68568) ≡ false → lt_z (pos 1000000000) n ≡ true → gregorian_date n ≡ date_of (pos 1000000000)
unfolding gregorian_date
gregorian_above n p q = rw (p, q)

pub gregorian_below : (n : ℤ) → lt_z n (negsuc 68568) ≡ true → gregorian_date n ≡ date (negsuc 4899) 2 30
unfolding gregorian_date
gregorian_below n p = rw p
