-- The definitions that the contracts of `line_listing::lines` cite: the line of a stamp, and the part of the lines that a buffer holds. Asked has what the
-- functions below the call ask and keep.
pub mod StampLine
pub mod Parts
pub mod Asked
