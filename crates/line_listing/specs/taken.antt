-- The definitions that the contracts of `line_listing::taken` cite: a run as bytes, and what is taken of it; Asked has what the inner functions ask.
pub mod Run
pub mod Call
pub mod Asked
