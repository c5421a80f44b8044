-- The definitions that the theorems of `julian::day_order` cite.
pub mod Order
