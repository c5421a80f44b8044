-- The definitions that the contract of `line_up` cites, in the order to read them; Asked has what the inner functions ask.
pub mod keep
pub mod Runs
pub mod LineUp
pub mod Asked
pub mod laws
