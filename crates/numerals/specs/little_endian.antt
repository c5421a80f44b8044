-- The definitions that the contracts of `numerals::little_endian` cite.
pub mod LittleEndian
pub mod Written
