-- What definitions and contracts of the crates above cite (`plus_z` and `minus_z` alone), and what all laws are written in: a finite float as a scaled whole
-- number, and a fraction rounded to a float.
pub mod Value
-- The words of the theorems: no contract cites them.
pub mod Picoseconds
