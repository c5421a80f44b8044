-- The laws of lining up: lists, then the loops and the call. The theorems stand in line_up::laws.
pub mod Merges
pub mod Zeros
pub mod Marks
pub mod Places
pub mod Steps
pub mod Cursors
pub mod Cases
pub mod Worked
pub mod Nexts
pub mod Testing
pub mod Unordered
pub mod Merging
pub mod Lines
pub mod Calls
pub mod laws
