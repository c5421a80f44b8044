-- The laws that the proofs of `parsing` cite.
pub mod Seconds
pub mod Judgement
-- Cases: closed cases of the reader.
pub mod Cases
-- Found: the sets for the check.
pub mod Found
