-- The laws that the functions' proofs cite, and then what the definitions mean.
-- Goods: dates that nothing is refused of.
pub mod Goods
-- Forward: the rows that a walk passes, and that the last is the one that the look-up finds.
pub mod Forward
-- Pacing: the walk from date to date.
pub mod Pacing
-- Writes: the offsets written one after the other.
pub mod Writes
-- Calls: the refusals in their order, and the call as a whole.
pub mod Calls
-- Floats: the same, as floats.
pub mod Floats
-- Eights: the same, as bytes.
pub mod Eights
-- Counts: how many rows a walk compares.
pub mod Counts
-- LookUp: each offset is that of the look-up of one date.
pub mod LookUp
-- Codes: the count fits the code that a caller from C gets.
pub mod Codes
-- Worked: the count and the refusals of real dates.
pub mod Worked
-- Written: dates and offsets place by place.
pub mod Written
-- Due: which number each call gets, and that it is answered else.
pub mod Due
-- OfCall: what a call writes, place by place, from bytes and from numbers.
pub mod OfCall
-- Right: what an answered walk gives.
pub mod Right
