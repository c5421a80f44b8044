-- The definitions that the contracts of leap_table::walk cite, in the order to read them, after those of `leap_table::judging`: the rows that a walk compares,
-- the walk with its refusals, the walk over numbers and over bytes, and the call as a whole. Asked has what the functions below the calls ask and keep,
-- Writer and Due what the laws say of dates written as bytes and as numbers, and of each refusal, Right what an answered walk gives.
pub mod Rows
pub mod Walk
pub mod Lists
pub mod Call
pub mod Asked
pub mod Writer
pub mod Due
pub mod Right
