-- What the contracts of `utc_scales::from_ut1` cite, in the order to read it.
pub mod Ut1Utc
pub mod KnownMonths
