-- The definitions that the contracts of ticks::places cite: a reading and a run of them. Asked has what the functions below the call ask and keep.
pub mod Places
pub mod Asked
