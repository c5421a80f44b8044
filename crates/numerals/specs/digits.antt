-- Numbers as lists of ASCII digits, what the crates that read and write text cite.
pub mod Decimal
pub mod Hexadecimal
pub mod Placed
