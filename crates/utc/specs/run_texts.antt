-- The definition that the contracts of `utc::run_texts` cite: the texts of a run. Kept has the day that is kept from stamp to stamp, Asked what the
-- functions below the call ask and keep.
pub mod RunTexts
pub mod Kept
pub mod Asked
