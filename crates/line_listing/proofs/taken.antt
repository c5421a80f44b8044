-- The laws of a run as bytes: its blocks one after the other, stamps that are joined, and the calls.
pub mod Blocks
pub mod Joined
pub mod Steps
