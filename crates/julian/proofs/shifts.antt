-- What several proofs of `shifts` and of the conversions cite.
pub mod SmallerPart
pub mod Outcomes
pub mod Shifted
-- Cases: closed cases.
pub mod Cases
