-- What the contracts of `utc_scales::to_ut1` cite, in the order to read it.
pub mod UtcUt1
pub mod ByRule
