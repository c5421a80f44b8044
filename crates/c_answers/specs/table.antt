-- What the contracts of a table in bytes cite.
pub mod TableBytes
-- The words of the theorems: no contract cites them.
pub mod RecordBytes
