-- The definitions that the contract of `runs` cites, beside those of `runs::ways` and of `runs::by_formula`: the run by its way. Asked has what the functions
-- below the call ask and keep.
pub mod Run
pub mod Asked
pub mod by_formula
pub mod ways
pub mod by_day
pub mod laws
