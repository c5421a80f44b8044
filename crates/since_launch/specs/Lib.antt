-- What the contracts of `since_launch` cite, in the order to read it.
pub mod Millis
pub mod Run
pub mod Asked
-- The words of the theorems: no contract cites them.
pub mod laws
