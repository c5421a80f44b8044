-- `reported::refused_values` meets its contract: the date where there is a day, and else the parts. Assumes nothing.
use Rattle.stamps.proofs.Reportings.{month_fits, day_fits, date-values, parts-values}
use Rattle.stamps.proofs.reported.refused_values.Goals as goal

pub overflow_cast-result : goal.overflow_cast-result
overflow_cast-result c = month_fits _ _ c.julian_to_calendar.ensures _ c.in-Ok.is

pub overflow_cast-result-in-Ok : goal.overflow_cast-result-in-Ok
overflow_cast-result-in-Ok c = day_fits _ _ c.julian_to_calendar.ensures _ c.in-Ok.is

pub returns-in-Ok : goal.returns-in-Ok
returns-in-Ok c = date-values _ _ c.julian_to_calendar.ensures _ c.in-Ok.is

pub returns-in-Err : goal.returns-in-Err
returns-in-Err c = parts-values _ _ c.julian_to_calendar.ensures _ c.in-Err.is
