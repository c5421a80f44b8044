-- The laws of the parts. Steps: what is written from a cursor on, and the calls.
pub mod Steps
