-- The definitions that the contracts of `utc_scales` cite, in the order to read them.
pub mod UtcTai
pub mod ByRule
pub mod Known
pub mod days
pub mod to_ut1
pub mod from_ut1
pub mod laws
pub mod round_trip
pub mod drift
pub mod ut1_laws
