-- The definitions that the contracts of `line_listing::head` cite: the counts of a run, and the first lines and the last. Asked has what the functions below
-- the calls keep.
pub mod Counts
pub mod Head
pub mod Asked
