-- The laws that the proofs of `sentences` cite.
pub mod Each
pub mod Digits
pub mod FixedTexts
pub mod Placing
