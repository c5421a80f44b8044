-- The laws that the proofs of `stamps` cite.
pub mod Blocks
pub mod Cases
pub mod Places
pub mod Texts
pub mod Reportings
pub mod Counts
pub mod LateDates
pub mod Lines
pub mod Parts
pub mod Lengths
pub mod listing_laws
pub mod reason_laws
