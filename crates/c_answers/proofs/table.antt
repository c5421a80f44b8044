-- The laws of a table in bytes: numbers with a sign, what the code reads, a record and its bytes, which bytes count, and a rule and its bytes.
pub mod Signed32
pub mod Reading
pub mod ReadBack
pub mod Laws
pub mod RuleBack
