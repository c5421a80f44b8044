-- The laws that the proofs of `parsing::scan` cite.
pub mod Runs
pub mod Bytes
