-- The laws of GPS weeks, in the order to read them.
pub mod Parts
pub mod FullWeeks
