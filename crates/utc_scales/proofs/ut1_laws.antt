-- What UTC to UT1 and UT1 to UTC mean from 1972 on.
pub mod Ut1
pub mod Modified
pub mod Back
pub mod RoundTrip
pub mod Cases
pub mod Limits
pub mod Near
pub mod NearLeap
pub mod NearCases
pub mod Sofa
