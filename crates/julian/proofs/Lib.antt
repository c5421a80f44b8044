-- The laws of two-part Julian dates, in the order to read them.
pub mod Integers
pub mod Seconds
pub mod Equality
pub mod Midnights
pub mod Dates
pub mod day_order
pub mod laws
