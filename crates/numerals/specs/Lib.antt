-- The modules of numerals.
pub mod little_endian
pub mod digits
