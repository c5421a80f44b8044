-- Decimal and hexadecimal digits, written and read. Definitions and laws only.
pub mod Decimal
pub mod Hexadecimal
-- Places: bytes written one after the other into a slice.
pub mod Places
