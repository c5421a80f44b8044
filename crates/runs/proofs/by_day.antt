-- The laws of runs that keep a day: floats that are the same, and the day of a midnight.
pub mod Floats
pub mod Days
