-- What the contracts of `julian` cite, in the order to read it.
pub mod JulianDate
pub mod UnixTime
pub mod JulianYear
pub mod Finite
pub mod Equality
pub mod Equivalence
pub mod DayFraction
pub mod Calendar
-- The words of the theorems: no contract cites them.
pub mod Worth
pub mod Midnight
pub mod day_number
pub mod day_order
pub mod laws
pub mod shifts
pub mod order
pub mod same_stamps
pub mod stamp_lists
