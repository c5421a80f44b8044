-- What several proofs of `scales` cite.
pub mod Bits
pub mod Seen
pub mod laws
pub mod gps_week_laws
