-- The month of the next day: the same, or the next where the day is the last of its month.
-- Assumes nothing.
use mathlib.Core.Path.{◌≡◌, refl, ap, ◌∙◌}
use mathlib.Core.Bool.{Bool, true, false, cond}
use Prim.Native.Nat.{ℕ, zero, suc, ◌+◌, ◌≤◌, ◌<◌}
use native.Mathlib.Omega.{arith}
use lib.Dec.{ltb}
use lib.IntN.{ℤ, pos, negsuc, nat_abs, suc_ℤ}
use borrow.Author.Tests.{ltb-true, ltb-false}
use Rattle.refusals.specs.Outcome.{answer}
use Rattle.calendar.specs.Calendar.{date, next, month_length}
use Rattle.calendar.specs.Refusals.{next_of}
use Rattle.calendar.specs.declared.CalendarDate.{CalendarDate}
use Rattle.calendar.proofs.Accepted.{date-accepted}
use Rattle.calendar.proofs.NextDates.{next-is}
use Rattle.leap_table.specs.rows.Table.{month_number, month_of}

unfoldable number : CalendarDate → ℕ
number t = month_number t.year t.month

later : (a b : Bool) (y m d : ℕ) → 1 ≤ m → (b ≡ true → m < 12) → (b ≡ false → m ≡ 12)
    → number (cond a (date (pos y) m d) (cond b (date (pos y) (m + 1) 1) (date (pos (suc y)) 1 1))) ≡ cond a (month_of y m) (suc (month_of y m))
unfolding number month_number
later true b y m d l p q = refl
later false true y m d l p q = omega arith
later false false y m d l p q = go (q refl)
  where
    go : m ≡ 12 → month_of (suc y) 1 ≡ suc (month_of y m)
    go e = omega arith

early : (a b : Bool) (y m d : ℕ) → number (cond a (date (negsuc y) m d) (cond b (date (negsuc y) (m + 1) 1) (date (suc_ℤ (negsuc y)) 1 1))) ≡ 0
unfolding number month_number
early true b y m d = refl
early false true y m d = refl
early false false zero m d = refl
early false false (suc y) m d = refl

twelve : (m : ℕ) → m ≤ 12 → ltb m 12 ≡ false → m ≡ 12
twelve m h e = omega (arith, ltb-false m 12 e)

pub next-month-number : (y : ℕ) (m d : ℤ) (t : CalendarDate) → next_of (pos y) m d ≡ answer t
    → month_number t.year t.month ≡ cond (ltb (nat_abs d) (month_length (pos y) (nat_abs m))) (month_of y (nat_abs m)) (suc (month_of y (nat_abs m)))
unfolding next number
next-month-number y m d t h =
    let z = next-is (pos y) m d t h in
    let a = date-accepted (pos y) m d z.0 in
    ap number z.1 ∙ later (ltb (nat_abs d) (month_length (pos y) (nat_abs m))) (ltb (nat_abs m) 12) y (nat_abs m) (nat_abs d + 1) a.m_low
    (ltb-true (nat_abs m) 12) (twelve (nat_abs m) a.m_high)

-- up to the first day of year 0 it is 0
pub next-month-early : (y : ℕ) (m d : ℤ) (t : CalendarDate) → next_of (negsuc y) m d ≡ answer t → month_number t.year t.month ≡ 0
unfolding next number
next-month-early y m d t h =
    ap number (next-is (negsuc y) m d t h).1 ∙ early (ltb (nat_abs d) (month_length (negsuc y) (nat_abs m))) (ltb (nat_abs m) 12) y (nat_abs m) (nat_abs d + 1)
