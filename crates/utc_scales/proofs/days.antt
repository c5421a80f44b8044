-- What the proofs of the conversions of UTC cite.
pub mod Midnights
pub mod Steps
pub mod Rules
