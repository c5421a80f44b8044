-- The definitions that the contracts of TAI-UTC cite, in the order to read them, after those of `leap_table::rows`: the offset at a fraction of a day, the
-- offsets of a day and its leap, the rule of an offset, the dates of the code's short way, whole seconds, and what a walk forward reads.
pub mod Offset
pub mod Leap
pub mod Rule
pub mod Told
pub mod Plain
pub mod WholeSeconds
pub mod Forward
