-- What the contracts of `leap_lists` cite, in the order to read it: what a line says, what is held of the rows, the lines of a text, and what a text says.
pub mod lines
pub mod Held
pub mod Texts
pub mod Reading
-- The words of the theorems: no contract cites them.
pub mod Grammar
pub mod Writer
pub mod Verdict
