-- What the contract of `readings` cites: the line that answers a text.
pub mod Reading
-- The words of the theorems: no contract cites them.
pub mod RefusedLine
