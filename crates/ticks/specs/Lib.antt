-- The definitions that the contracts of ticks cite, in the order to read them, after those of `ticks::judging`: the straight line, the passes and the
-- neighbours of a tick, and lists of ticks as bytes. Asked has what the functions below the call ask and keep.
pub mod Line
pub mod Passes
pub mod Ticks
pub mod Asked
pub mod judging
pub mod places
pub mod laws
