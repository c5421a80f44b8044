-- The definitions that the contract of `lines_in_order` cites; Asked has what the inner functions ask.
pub mod Order
pub mod Asked
