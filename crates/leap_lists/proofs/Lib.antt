-- The laws of `leap_lists`.
pub mod Texts
pub mod Reading
pub mod Grammar
pub mod Converse
pub mod Ranges
pub mod Verdicts
pub mod Taken
pub mod Cases
pub mod RowCases
pub mod Back
pub mod RowsBack
