-- What the proofs of several functions, and the callers of `floats`, cite.
pub mod Laws
pub mod Fields
pub mod Ranges
pub mod Halves
pub mod Below
pub mod Casts
pub mod Cases
pub mod UnitSums
pub mod NearestWholes
pub mod Sizes
pub mod FiniteTest
pub mod ExponentField
