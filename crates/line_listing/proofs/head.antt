-- The laws of the first lines and the last. Counting: the kind of a stamp by its tests, and the count of one more. Pieces: words and numbers joined.
pub mod Counting
pub mod Pieces
