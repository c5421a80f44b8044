-- The laws of the look-ups.
pub mod ByParts
pub mod Rules
pub mod Month
pub mod At
pub mod Mjd
pub mod Offsets
pub mod Days
pub mod Plain
pub mod Years
pub mod TableYears
pub mod TableSeconds
pub mod WholeSeconds
pub mod Forward
pub mod Cases
pub mod RuleLaws
pub mod Told
