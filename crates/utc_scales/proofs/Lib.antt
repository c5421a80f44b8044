-- What several proofs of `utc_scales` cite.
pub mod Steps
pub mod Rules
pub mod Refused
pub mod laws
pub mod round_trip
pub mod drift
pub mod ut1_laws
