-- No code: what the leap at the end of a day can be (proofs/Every.antt, proofs/Seconds.antt), and how near the offset is to the exact formula where the rows
-- drift (proofs/Formula.antt).
-- The laws of the leap at the end of a day.
pub mod Months
pub mod Quick
pub mod Whole
pub mod Before1972
pub mod TableLeaps
pub mod Every
pub mod EveryTable
pub mod Seconds
pub mod Formula
pub mod drift
