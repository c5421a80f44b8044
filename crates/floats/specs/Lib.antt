-- The definitions that the contracts of `floats` cite, in the order to read them.
pub mod Whole
pub mod NearestWhole
pub mod Size
-- The words of theorems.
pub mod ExponentField
