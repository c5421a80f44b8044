-- Two texts of one date: the same refusal, or the same date and time, each written in its own way. Written from document 02, item 6: "a text call like 01's".
-- Assumes nothing.
use Rattle.std.specs.Prelude.{ℕ, ◌≡◌, List}
use Rattle.refusals.specs.Outcome.{Outcome, answer, refusal}
use Rattle.calendar.specs.declared.CalendarDate.{CalendarDate}
use Rattle.time_of_day.specs.declared.TimeOfDay.{TimeOfDay}

pub data Beside (write other : CalendarDate → TimeOfDay → List ℕ) (o o' : Outcome (List ℕ)) : Type 0 where
  refused : (k : ℕ) → o ≡ refusal k → o' ≡ refusal k → Beside write other o o'
  written : (d : CalendarDate) (u : TimeOfDay) → o ≡ answer (write d u) → o' ≡ answer (other d u) → Beside write other o o'
