-- `julian::julian_to_calendar` meets its contract. Assumes nothing.
use mir.Syntax.{w64}
use mir.Val.{SFits}
use mir.Facts.{to_z-of_z}
use Rattle.refusals.specs.Outcome.{answer, outcome}
use Rattle.refusals.proofs.Handed.{stops, goes}
use Rattle.calendar.specs.Gregorian.{gregorian_date}
use Rattle.julian.specs.declared.day_number.DayNumber.{DayNumber}
use Rattle.julian.specs.Calendar.{julian_to_calendar, fields}
use Rattle.julian.proofs.julian_to_calendar.Goals as goal

pub returns-in_err-found : goal.returns-in_err-found
unfolding julian_to_calendar
returns-in_err-found c = stops _ _ _ _ c.from_residual.ensures.1 c.in_err-found.ensures

pub returns : goal.returns
unfolding outcome julian_to_calendar
returns c =
    let found = c.in_ok-found.found in
    let f : SFits w64 found.day = record { sfits = c.struct_told-1.given.0.1 } in
    rw (c.gregorian_date.ensures, to_z-of_z f)
    (goes found _ (λ (n : DayNumber). answer (fields (gregorian_date n.day) n.fraction)) c.in_ok-found.ensures)
