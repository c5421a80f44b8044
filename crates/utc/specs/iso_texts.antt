-- What the contracts of `utc::iso_texts` cite, in the order to read it.
pub mod TextForm
pub mod IsoText
pub mod TextCall
pub mod Expanded
pub mod HalfEven
pub mod Named
pub mod ByRule
-- of private functions alone
pub mod TextDay
