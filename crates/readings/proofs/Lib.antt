-- What the functions' proofs share.
pub mod Lines
-- What we write is answered by itself.
pub mod OwnTexts
-- A refused text is answered by its own number.
pub mod RefusedLines
