-- What the calendar's contracts cite, in the order to read it: what a date and its day number are, which dates are refused, and the Rust's two conversions.
pub mod Calendar
pub mod Refusals
pub mod DayCount
pub mod Gregorian
-- The words of the theorems: no contract cites them.
pub mod InCalendar
pub mod laws
