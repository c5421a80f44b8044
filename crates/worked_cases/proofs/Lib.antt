-- Document 01's worked cases: `Cases` has the theorems, and the others make the answers such that a check can compute them. `ShortDay` has document 02's of a
-- day of 86,399 s, `HalfTexts` that of a half millisecond.
pub mod ByDates
pub mod Literals
pub mod Computed
pub mod Cases
pub mod ShortDay
pub mod PassedRules
pub mod HalfTexts
