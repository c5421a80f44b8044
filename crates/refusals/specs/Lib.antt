-- What the definitions of every crate above are written in: the refusals by number, and the outcome of a call that may refuse.
pub mod Refusal
pub mod Outcome
