-- The laws that the proofs of `block_io` cite.
pub mod Counted
