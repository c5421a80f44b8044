-- The laws of ticks between passes: the product by halves, the search, the line, and what the call writes.
pub mod Refused
pub mod Halves
pub mod Search
pub mod Lines
pub mod Puts
pub mod Neighbours
pub mod Calls
pub mod laws
