-- The definitions that the contracts of `line_listing` cite, and the words of its laws.
pub mod taken
pub mod order
pub mod head
pub mod summary
pub mod lines
pub mod listing
pub mod laws
