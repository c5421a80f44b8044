-- The words of document 01's worked cases. No contract cites them.
pub mod Calls
pub mod Cases
pub mod Others
pub mod HalfTexts
