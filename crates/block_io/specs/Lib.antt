-- The definition that the contracts of `block_io` cite.
pub mod Sent
