-- NearestMillis: what a count of milliseconds is, in whole numbers. NearSums: how near it is to the exact dates off the grid.
pub mod NearestMillis
pub mod NearSums
-- Refusals: which number is given when. RunDone: what a run leaves of each stamp.
pub mod Refusals
pub mod RunDone
-- OwnMillis: milliseconds that stamps were made of.
pub mod OwnMillis
pub mod GridDates
-- SinceLaunch: what is asked of the milliseconds.
pub mod SinceLaunch
