-- The definitions that the theorems of `utc_scales::drift` cite.
pub mod Drift
