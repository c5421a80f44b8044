-- The cases of a way.
pub mod Steps
pub mod Cases
