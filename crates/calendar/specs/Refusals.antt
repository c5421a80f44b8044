-- Which dates are refused, and with which number. Written from document 01, "Refusals by number" (order: year, month, day; then no next day). Assumes nothing.
use Rattle.std.specs.Prelude.{ℕ, Bool, cond, ◌&&◌, ◌||◌, eqb, ℤ, pos, negsuc, nat_abs}
use Rattle.std.specs.Int.Signed.{lt_z, le_z}
use Rattle.refusals.specs.Outcome.{Outcome, answer, refusal, onward}
use Rattle.calendar.specs.declared.CalendarDate.{CalendarDate}
use Rattle.calendar.specs.Calendar.{days_in_month, date, next}

-- 1: year before -4799; 2: month not 1 to 12; 3: day not in month
unfoldable pub valid_date : ℤ → ℤ → ℤ → Outcome Unit
valid_date y m d =
    cond (lt_z y (negsuc 4798)) (refusal 1)
    (cond (lt_z m (pos 1) || lt_z (pos 12) m) (refusal 2)
    (cond (lt_z d (pos 1) || lt_z (pos (days_in_month y m)) d) (refusal 3) (answer tt)))

-- the last date that a 32-bit year can say
abbrev pub last_date : ℤ → ℕ → ℕ → Bool
last_date y m d = le_z (pos 2147483647) y && (eqb m 12 && eqb d 31)

-- the next date of a date that is not refused; 5: no next day
unfoldable pub next_of : ℤ → ℤ → ℤ → Outcome CalendarDate
next_of y m d =
    onward (valid_date y m d)
    (λ _. cond (last_date y (nat_abs m) (nat_abs d)) (refusal 5) (answer (next (date y (nat_abs m) (nat_abs d)))))
