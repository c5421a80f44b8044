-- What the contract of `julian::same_stamps` cites.
pub mod Same
-- The words of the theorems: no contract cites them.
pub mod TwoSum
