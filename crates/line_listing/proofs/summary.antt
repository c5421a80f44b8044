-- The laws of the summary. Tests: the stamps of a run that are seen. Pieces: the lines joined.
pub mod Tests
pub mod Pieces
