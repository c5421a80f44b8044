-- What UTC to TAI means in the years in which UTC drifted, 1961 to 1971.
pub mod Days
pub mod Located
pub mod Seconds
pub mod Products
pub mod Rows
pub mod Drift
pub mod Cases
