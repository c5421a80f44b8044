-- The definitions of how an answer reaches a C caller, and of its values as bytes.
pub mod Delivery
pub mod Fields
pub mod WideFields
pub mod TwoBuffers
pub mod rules
pub mod table
-- The words of the theorems: the fields of an answer by their names and offsets.
pub mod ReadBack
