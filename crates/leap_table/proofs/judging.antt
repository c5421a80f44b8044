-- The laws that the functions' proofs cite, and then what the definitions mean.
-- Judges: a date by itself and after another, as the code tests them.
pub mod Judges
-- Twelves: a number read from the twelve bytes of a date.
pub mod Twelves
-- Refused: the refusals in their order.
pub mod Refused
-- DayOrder: the order of dates is that of their days.
pub mod DayOrder
