-- The laws of the texts of a run. KeptDays: a text by the day that is kept. Puts: the texts put one after the other. Calls: the call as a whole. Cases: worked
-- by computation.
pub mod KeptDays
pub mod Puts
pub mod Calls
pub mod Cases
