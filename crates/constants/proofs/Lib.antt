-- What the proofs of `constants`, and of the crates that read it, cite.
pub mod Bits
