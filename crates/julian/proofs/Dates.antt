-- The dates that the calendar answers: their range, and the fields as the machine hands them to a call, read back from their bits. Assumes nothing.
use mathlib.Core.Path.{◌≡◌, sym, ap, subst}
use Prim.Native.Nat.{ℕ, ◌≤◌}
use native.Mathlib.Omega.{arith}
use lib.IntN.{ℤ, pos}
use lib.Ieee.{Float}
use mir.Syntax.{w32}
use mir.Val.{SFits, to_z, of_z}
use mir.Facts.{to_z-of_z, to_z_pos}
use Rattle.refusals.specs.Outcome.{Outcome, answer, refusal, onward}
use Rattle.calendar.specs.declared.CalendarDate.{CalendarDate}
use Rattle.calendar.specs.Gregorian.{gregorian_date}
use Rattle.calendar.proofs.Years.{DateInRange, gregorian_in_range}
use Rattle.julian.specs.declared.day_number.DayNumber.{DayNumber}
use Rattle.julian.specs.day_number.Answer.{day_number_and_fraction}
use Rattle.julian.specs.declared.CalendarFields.{CalendarFields}
use Rattle.julian.specs.Calendar.{fields, julian_to_calendar}

-- the date of an answer is that of some day number
pub day-of : (x y : Float) (f : CalendarFields) → julian_to_calendar x y ≡ answer f → (n : ℤ) × (f.date ≡ gregorian_date n)
unfolding julian_to_calendar onward
day-of x y f = go (day_number_and_fraction x y)
  where
    go : (o : Outcome DayNumber) → onward o (λ n. answer (fields (gregorian_date n.day) n.fraction)) ≡ answer f → (n : ℤ) × (f.date ≡ gregorian_date n)
    go (answer d) e = let s : fields (gregorian_date d.day) d.fraction ≡ f = cc in (d.day, sym (ap (λ (z : CalendarFields). z.date) s))
    go (refusal k) e = let z : ◌≡◌ {A = ℕ} 0 1 = cc in absurd (omega arith)

pub date-in-range : (x y : Float) (f : CalendarFields) → julian_to_calendar x y ≡ answer f → DateInRange f.date
date-in-range x y f e = let (n, p) = day-of x y f e in subst DateInRange (sym p) (gregorian_in_range n)

-- a date's fields at a call
pub read-fields : {A : Type 0} (g : ℤ → ℤ → ℤ → A) (d : CalendarDate) → SFits w32 d.year → d.month ≤ 12 → d.day ≤ 31
    → g (to_z w32 (of_z w32 d.year)) (to_z w32 d.month) (to_z w32 d.day) ≡ g d.year (pos d.month) (pos d.day)
read-fields g d f m n = λ i. g (to_z-of_z f i) (to_z_pos w32 {n = d.month} (omega arith) i) (to_z_pos w32 {n = d.day} (omega arith) i)
