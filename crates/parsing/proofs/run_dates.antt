-- The laws of the dates of a run of texts. KeptDays: a text by the day that is kept. Calls: the call as a whole. Cases: worked by computation.
pub mod KeptDays
pub mod Calls
pub mod Cases
