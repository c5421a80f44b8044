-- The words of the theorems: no contract cites them.
-- CalendarAnswers: the range of `julian_to_calendar`'s answers, and how near they are.
pub mod CalendarAnswers
-- Distances: what the other calls mean in exact numbers, and to what distance.
pub mod Distances
-- Nan: which dates have a NaN.
pub mod Nan
-- Calls: when the calendar call refuses, and what it answers for every division of a date and there and back.
pub mod Calls
