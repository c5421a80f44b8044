-- The laws of the same stamp, in the order to read them.
pub mod Same
pub mod TwoSum
pub mod OneWord
pub mod Equal
pub mod Cases
