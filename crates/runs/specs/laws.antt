-- The words of the theorems of a run: its ways one by one, its formulas one by one, a not-finite stamp, how many numbers are not 0, what is left of a stamp,
-- when a call is answered, and stamps as lists of patterns. No contract cites them.
pub mod EachWay
pub mod EachFormula
pub mod NotFiniteStamps
pub mod Done
pub mod Answered
pub mod Writer
