-- The definitions that the contract of `runs::by_formula` cites: the run, and its formula. Asked has what the functions below the call ask and keep.
pub mod Run
pub mod Formula
pub mod Asked
