-- The definitions that the contracts of the order of dates cite.
pub mod Order
pub mod Places
