-- The laws of readings placed: the refusals in their order, and the answers put one after the other.
pub mod Puts
pub mod Ladder
