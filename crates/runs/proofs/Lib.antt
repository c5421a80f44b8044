-- The laws of runs: the pairs of scales whose way is one formula, and the call as a whole.
pub mod Short
pub mod Calls
pub mod laws
