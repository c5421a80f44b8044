-- The modules of numerals.
pub mod digits
