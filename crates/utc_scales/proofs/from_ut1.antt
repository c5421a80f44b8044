-- What several proofs of `utc_scales::from_ut1` cite.
pub mod Steps
pub mod MonthOffsets
