-- The definitions that the contracts of `shifts` cite, in the order to read them.
pub mod SmallerPart
pub mod Shifts
