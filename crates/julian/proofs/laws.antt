-- What the calls on Julian dates mean in exact numbers.
-- UnixTime: the day and the time of a Unix time, and that they are the seconds given.
pub mod UnixTime
-- CalendarDays: DEMAND 3 of the calendar; off the grid within 2^-51 day; no refusal but 6. Ends: at the ends of its ranges.
pub mod CalendarDays
pub mod Ends
-- RoundTrip: a date to its Julian date and back.
pub mod RoundTrip
-- Clock: a clock time of a date, which are refused, and what the answer is worth.
pub mod Clock
-- AddDays: exact where nothing has to be rounded.
pub mod AddDays
-- Steps: one rounded operation.
pub mod Steps
-- JulianYears: the year of a date and the date of a year, against 365.25 days a year.
pub mod JulianYears
-- AddSeconds: days and seconds added, against the exact sum.
pub mod AddSeconds
-- Differences: the difference of two dates, against the exact one.
pub mod Differences
-- DifferenceSign: its sign is right where it is not 0.0.
pub mod DifferenceSign
-- DistanceEnds: the ranges of JulianYears, AddSeconds and Differences are met at their ends.
pub mod DistanceEnds
-- NotFinite: equality where a sum is not finite.
pub mod NotFinite
-- Divisions and Literals: for cases that a check computes, the date of a day number by division, and numbers worked out.
pub mod Divisions
pub mod Literals
-- Cases: at the edges of the float arithmetic and of the refusals.
pub mod Cases
