-- The definitions that the contracts of `constants`, and of the crates that read it, cite.
pub mod Constants
pub mod scale_numbers
