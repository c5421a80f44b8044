-- What the contract of `parsing::scan` cites, in the order to read it: what a text says, the form that decides the grammar, and what one scan finds.
pub mod Written
pub mod Form
pub mod Scan
