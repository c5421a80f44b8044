-- The words of the theorems: a reader of sentences with the reasons that it reads, printable text, and which values the test of a number reads.
pub mod Reader
pub mod Printable
pub mod Groups
-- Named: which field a sentence names, and what the second listing prints.
pub mod Named
