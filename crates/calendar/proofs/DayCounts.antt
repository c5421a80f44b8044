-- The Rust's count of days, by one formula a month, is the definition's number of days after -5200-03-01 less 146066.
-- Assumes nothing.
use mathlib.Core.Path.{◌≡◌, ap, sym, subst, ◌∙◌}
use mathlib.Core.Bool.{Bool}
use Prim.Native.Nat.{ℕ, ◌+◌, ◌-◌, ◌*◌, ◌/◌, ◌≤◌}
use native.Mathlib.Omega.{arith}
use lib.IntN.{ℤ, pos, sub_ℕ, ◌+ℤ◌, ◌-ℤ◌, +ℤ-neg_ℤ_cancel}
use Rattle.calendar.specs.Calendar.{date, date_at, lengths, leap_year, leap_size}
use Rattle.calendar.specs.DayCount.{march_count, civil_count}
use Rattle.calendar.proofs.Months.{months}
use Rattle.calendar.proofs.March.{days_before_year, before-year-is, days_before, before-is, at, Valid, march_length}
use Rattle.calendar.proofs.Divisions.{years}
use Rattle.calendar.proofs.InStep.{from_march, year_of, date-with-count, leap-same}
use Rattle.calendar.proofs.Signs.{sub_shift}

at4 : (y : ℕ) → (y + 400) / 4 ≡ y / 4 + 100
at4 y = omega arith

at100 : (y : ℕ) → (y + 400) / 100 ≡ y / 100 + 4
at100 y = omega arith

at400 : (y : ℕ) → (y + 400) / 400 ≡ y / 400 + 1
at400 y = omega arith

three : (y : ℕ) → 3 * ((y + 100) / 100) / 4 + y / 400 ≡ y / 100
three y = omega arith

sum : (y s q4 q100 q400 a4 a100 a400 f t m d e : ℕ) → s + a100 ≡ 365 * (y + 400) + a4 + a400 → a4 ≡ q4 + 100 → a100 ≡ q100 + 4 → a400 ≡ q400 + 1
    → f ≡ 365 * y + q4 → t + q400 ≡ q100 → e + 31 ≡ s + m + d → t ≤ f → f + m - t + d + 146066 ≡ e
sum y s q4 q100 q400 a4 a100 a400 f t m d e p1 p2 p3 p4 p5 p6 p7 p8 = omega arith

t-small : (y : ℕ) → 3 * ((y + 100) / 100) / 4 ≤ 1461 * y / 4
t-small y = omega arith

pub march-count : (y m d : ℕ) → 1 ≤ m → 1 ≤ d → march_count y m d + 146066 ≡ days_before (y + 400) m d
march-count y m d h k =
    sum y (days_before_year (y + 400)) (y / 4) (y / 100) (y / 400) ((y + 400) / 4) ((y + 400) / 100) ((y + 400) / 400) (1461 * y / 4)
    (3 * ((y + 100) / 100) / 4) (367 * m / 12) d (days_before (y + 400) m d)
    (before-year-is (y + 400)) (at4 y) (at100 y) (at400 y) (years y) (three y) (before-is (y + 400) m d h k) (t-small y)

-- the date, month by month: y is the year + 4800
spring : (y k d : ℕ) → Valid (y + 400) k d → date_at (march_count y k d + 146066) ≡ from_march (at (y + 400) k d)
spring y k d v = date-with-count (at (y + 400) k d) (march_count y k d + 146066) v (sym (march-count y k d v.m_low v.d_low))

ok : (y k d : ℕ) → 1 ≤ k → k ≤ 12 → 1 ≤ d → d ≤ march_length y k → Valid y k d
ok y k d a b c e = record { m_low = a; m_high = b; d_low = c; d_high = e }

module _ (y d : ℕ) (h : 1 ≤ y) (l : 1 ≤ d) where
  up : y - 1 + 400 + 1 ≡ y + 400
  up = omega arith

  abbrev Goal : ℕ → Type 0
  Goal m = d ≤ lengths (leap_size (y + 400)) m → date_at (civil_count y m d + 146066) ≡ date (sub_ℕ y 4800) m d

  late : (m : ℕ) → date (year_of (y + 400)) m d ≡ date (sub_ℕ y 4800) m d
  late m = ap (λ (z : ℤ). date z m d) (sub_shift y 4800 400)

  early : (m : ℕ) → date (year_of (y - 1 + 400 + 1)) m d ≡ date (sub_ℕ y 4800) m d
  early m = ap (λ (n : ℕ). date (year_of n) m d) up ∙ late m

  pub count-right : (m : ℕ) → 1 ≤ m → m ≤ 12 → Goal m
  unfolding civil_count march_length lengths
  count-right =
      months Goal
      (λ g. spring (y - 1) 11 d (ok (y - 1 + 400) 11 d (omega arith) (omega arith) l g) ∙ early 1)
      (λ g. spring (y - 1) 12 d (ok (y - 1 + 400) 12 d (omega arith) (omega arith) l (subst (λ (n : ℕ). d ≤ lengths (leap_size n) 2) (sym up) g)) ∙ early 2)
      (λ g. spring y 1 d (ok (y + 400) 1 d (omega arith) (omega arith) l g) ∙ late 3)
      (λ g. spring y 2 d (ok (y + 400) 2 d (omega arith) (omega arith) l g) ∙ late 4)
      (λ g. spring y 3 d (ok (y + 400) 3 d (omega arith) (omega arith) l g) ∙ late 5)
      (λ g. spring y 4 d (ok (y + 400) 4 d (omega arith) (omega arith) l g) ∙ late 6)
      (λ g. spring y 5 d (ok (y + 400) 5 d (omega arith) (omega arith) l g) ∙ late 7)
      (λ g. spring y 6 d (ok (y + 400) 6 d (omega arith) (omega arith) l g) ∙ late 8)
      (λ g. spring y 7 d (ok (y + 400) 7 d (omega arith) (omega arith) l g) ∙ late 9)
      (λ g. spring y 8 d (ok (y + 400) 8 d (omega arith) (omega arith) l g) ∙ late 10)
      (λ g. spring y 9 d (ok (y + 400) 9 d (omega arith) (omega arith) l g) ∙ late 11)
      (λ g. spring y 10 d (ok (y + 400) 10 d (omega arith) (omega arith) l g) ∙ late 12)

-- the count less that of MJD 0 is k - 2578142, where day k after -5200-03-01 has the date
pub count-of-date : (y : ℕ) (year : ℤ) (m d : ℕ) → pos y ≡ year +ℤ pos 4800 → 1 ≤ y → 1 ≤ m → m ≤ 12 → 1 ≤ d → d ≤ lengths (leap_year year) m
    → (sub_ℕ (civil_count y m d) 2432076 ≡ sub_ℕ (civil_count y m d + 146066) 2578142) × (date_at (civil_count y m d + 146066) ≡ date year m d)
count-of-date y year m d e h a b l g = (
  sym (sub_shift (civil_count y m d) 2432076 146066),
  (count-right y d h l m a b (subst (λ (t : Bool). d ≤ lengths t m) (ap leap_year (sym is ∙ sym (sub_shift y 4800 400)) ∙ leap-same (y + 400)) g))
      ∙ ap (λ (z : ℤ). date z m d) is,
)
  where
    is : sub_ℕ y 4800 ≡ year
    is = ap (λ (z : ℤ). z -ℤ pos 4800) e ∙ +ℤ-neg_ℤ_cancel year (pos 4800)
