-- The laws of the table, of the rows that are announced and of their tests.
pub mod Reached
pub mod Rows
pub mod Naturals
pub mod InTurn
pub mod Tables
pub mod TableTests
pub mod TablesTaken
pub mod TableLaws
pub mod NoRows
pub mod ByParts
pub mod Cases
