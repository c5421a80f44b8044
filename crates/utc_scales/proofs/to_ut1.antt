-- What several proofs of `utc_scales::to_ut1` cite.
pub mod Steps
pub mod Rules
