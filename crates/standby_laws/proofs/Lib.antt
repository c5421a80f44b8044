-- The laws of a standby bill.
pub mod Quarters
pub mod Sharing
pub mod Decided
pub mod Means
pub mod Faults
pub mod Exact
pub mod Dates
pub mod Order
pub mod Elapsed
pub mod Asked
