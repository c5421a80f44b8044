-- The laws of the rows that are held.
pub mod Tests
