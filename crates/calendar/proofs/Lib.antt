-- The laws of the calendar, in the order in which they are proved. `Days`, `Unique`, `Years`, `Gregorian`, `Mjd` and `NextDates` state what the definitions
-- mean; the files before them count the days of a calendar that begins in March, and the others tie the code's arithmetic to the definitions.
pub mod Months
pub mod Signs
pub mod March
pub mod InStep
pub mod Accepted
pub mod Days
pub mod Unique
pub mod Years
pub mod Divisions
pub mod Gregorian
pub mod DayCounts
pub mod Mjd
pub mod NextDates
pub mod laws
