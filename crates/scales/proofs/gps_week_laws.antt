-- GPS weeks there and back, in exact milliseconds, and when they are refused.
pub mod Count
pub mod NearDates
pub mod RoundTrip
pub mod CalendarDates
pub mod Refusals
pub mod Cases
pub mod Weeks
