-- The leap of each day from 1960 to 1971, when UTC drifted.
pub mod Tests
pub mod Drift
pub mod Each
