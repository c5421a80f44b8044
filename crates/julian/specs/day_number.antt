-- What the contracts of `julian::day_number` cite, in the order to read it.
pub mod DayNumber
pub mod Answer
pub mod Sums
-- The words of the theorems: no contract cites them.
pub mod Ranges
pub mod Midnights
pub mod ExactDay
pub mod NearDay
pub mod MinusZero
