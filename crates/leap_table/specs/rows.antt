-- The definitions that the contracts of a table with announced rows cite, in the order to read them: the table and the row of a month, the rows that a caller
-- lends and their tests.
pub mod Table
pub mod Announced
