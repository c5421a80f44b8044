-- What several proofs of `since_launch` cite.
pub mod Counts
pub mod Units
pub mod Places
pub mod Puts
pub mod Calls
pub mod laws
