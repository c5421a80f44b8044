-- The words of the theorems over the sixteen conversions: the ranges of dates, the distances, the exact formulas, and stamps of one instant. No contract cites
-- them.
pub mod Ranges
pub mod Picoseconds
pub mod Meaning
pub mod Recorders
pub mod Refusals
