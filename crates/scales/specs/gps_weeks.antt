-- The definitions that the contracts and the laws of `scales::gps_weeks` cite, in the order to read them.
pub mod WeekDate
pub mod WeekOf
pub mod FullWeek
