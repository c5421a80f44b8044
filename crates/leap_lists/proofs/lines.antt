-- The laws of a line.
pub mod Runs
pub mod Months
pub mod Ladder
