-- The numbers of the refusals, and the laws of outcomes.
pub mod Tags
pub mod Onward
pub mod Handed
