-- What a line says, in the order to read it.
pub mod Scan
pub mod Months
pub mod Lines
