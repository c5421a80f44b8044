-- The definition that the contracts of `parsing::run_dates` cite: the dates of a run of texts. Kept has the day that is kept from text to text, Asked what the
-- functions below the call ask and keep.
pub mod RunDates
pub mod Kept
pub mod Asked
