-- What the milliseconds of ticks mean, and when a call is refused.
pub mod Laws
pub mod Refusals
pub mod Tests
pub mod Steps
pub mod Exactly
pub mod Results
pub mod Call
pub mod Cases
pub mod Written
pub mod Blocks
pub mod Slopes
pub mod Readings
pub mod ListedReadings
pub mod PlacesCases
