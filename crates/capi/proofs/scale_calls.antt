-- The lemma that the calls of the scales cite.
pub mod Mapped
