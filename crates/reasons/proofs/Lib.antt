-- The laws that the proofs of `reasons` cite.
pub mod FieldTests
pub mod Told
pub mod SentenceLengths
-- 18 exactly where a number has no sentence, and closed cases.
pub mod Cases
pub mod ReasonCases
