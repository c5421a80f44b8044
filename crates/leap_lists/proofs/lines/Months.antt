-- The months counted from 1900, one at a time. Assumes nothing.
use Prim.Native.Nat.{ℕ, suc, ◌+◌, ◌-◌, ◌/◌, ◌%◌, ◌<◌, ◌≤◌}
use native.Mathlib.Omega.{arith}
use mathlib.Core.Path.{◌≡◌, refl}
use lib.IntN.{pos}
use borrow.Author.Tests.{eq-eqb, ne_eqb, lt-ltb, le-ltb}
use Rattle.calendar.specs.Calendar.{days_in_month}
use Rattle.leap_lists.specs.lines.Months.{month_days, month_after, month_from}

pub days-are : (m : ℕ) → days_in_month (pos (m / 12)) (pos (m % 12 + 1)) ≡ month_days m
unfolding days_in_month month_days
days-are m = refl

module _ (k m day : ℕ) where
  pub here : day ≡ 0 → month_after (suc k) m day ≡ m
  unfolding month_after
  here e = rw (eq-eqb _ _ e)

  pub within : (day ≡ 0 → ⊥) → day < month_days m → month_after (suc k) m day ≡ 0
  unfolding month_after
  within e h = rw (ne_eqb _ _ e, lt-ltb _ _ h)

  pub onward : (day ≡ 0 → ⊥) → month_days m ≤ day → month_after (suc k) m day ≡ month_after k (m + 1) (day - month_days m)
  unfolding month_after
  onward e h = rw (ne_eqb _ _ e, le-ltb _ _ h)

pub spent : (m day : ℕ) → month_after 0 m day ≡ 0
unfolding month_after
spent m day = refl

-- one month of those that are left, up to 120000
pub one_less : (m : ℕ) → m < 120000 → 120000 - m ≡ suc (120000 - (m + 1))
one_less m h = omega arith

pub from_start : (day : ℕ) → month_after (120000 - 22800) 22800 day ≡ month_from day
unfolding month_from
from_start day = refl
