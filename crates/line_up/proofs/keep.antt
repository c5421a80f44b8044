-- The theorems on the piles, then the cells of a work area, the order of the stamps, and the loops of the code.
pub mod Longest
pub mod Rising
pub mod Theorems
pub mod Contradicted
pub mod OfRuns
pub mod Cases
pub mod Places
pub mod Cells
pub mod Dates
pub mod OfDates
pub mod Searching
pub mod Laying
pub mod Judging
pub mod Calls
