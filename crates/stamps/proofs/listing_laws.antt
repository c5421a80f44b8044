-- A listing as a whole: line by line against the list of stamps, every stamp that is not finite refused and counted.
pub mod Whole
pub mod Longest
pub mod LineEnds
pub mod NotFinite
pub mod Tables
pub mod Numerals
pub mod Sentences
pub mod Written
pub mod ThreeStamps
pub mod Asked
