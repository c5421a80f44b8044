-- What the sixteen conversions mean, to the picosecond, and which of their answers are finite.
pub mod Constants
pub mod Formulas
pub mod Dates
pub mod Bounds
pub mod Finiteness
pub mod Meant
pub mod NoOverflow
pub mod Shifts
pub mod Refuses
pub mod Recorders
pub mod NeverNan
mod Cases
