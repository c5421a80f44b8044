-- The modules of leap_table.
pub mod rows
pub mod offsets
pub mod judging
pub mod walk
