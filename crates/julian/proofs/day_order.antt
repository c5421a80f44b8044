-- The calendar keeps the order of dates.
pub mod Once
pub mod Start
pub mod Place
pub mod Order
