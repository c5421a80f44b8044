-- What the contracts of `utc_scales::days` cite, in the order to read it.
pub mod LargerPart
pub mod Dates
pub mod DateRule
