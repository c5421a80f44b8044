-- What the contracts of `reasons` cite, in the order to read it: which field a number names, and the sentence of a number with its values.
pub mod Offending
pub mod Sentence
pub mod Widths
pub mod sentences
-- The words of the theorems: no contract cites them.
pub mod Decision
