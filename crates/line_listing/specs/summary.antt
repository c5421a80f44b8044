-- The definitions that the contracts of `line_listing::summary` cite: the stamps of a run that have a number, the day until which the table is known, what an
-- analyst must look at, and the summary's text. Asked has what the functions below the calls keep.
pub mod Seen
pub mod Known
pub mod Look
pub mod Summary
pub mod Asked
-- The words of the theorems: no contract cites them.
pub mod Claims
