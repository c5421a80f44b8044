-- The words of the theorems of the conversions that read the table, all twenty conversions as one table, a table with a day of 86,399 s, and SOFA's published
-- check values of the four that read the table. No contract cites them.
pub mod Claims
pub mod Twenty
pub mod ShortTable
pub mod Published
-- Asked: what demand 1 and document 02, items 5 and 8, ask of the twenty.
pub mod Asked
