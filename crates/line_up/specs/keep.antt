-- The definitions that the contract of `keep_most` cites, in the order to read them; Asked has what the inner functions ask.
pub mod Piles
pub mod Stamps
pub mod Cells
pub mod Asked
