-- The proofs of `line_listing`; its theorems stand in line_listing::laws.
pub mod laws
