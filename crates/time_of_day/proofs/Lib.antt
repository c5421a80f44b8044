-- The laws of the time of day.
pub mod ChainNumbers
pub mod Chain
pub mod Rounded
pub mod Fractions
pub mod Count
pub mod Fields
pub mod Close
pub mod Shows
pub mod EvenSteps
pub mod ByCount
pub mod EvenRule
pub mod EvenFloat
pub mod EvenExact
pub mod EvenWays
pub mod EvenGrid
pub mod EvenCases
pub mod Cases
