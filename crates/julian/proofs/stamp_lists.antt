-- The stamp that two patterns are.
pub mod Reading
-- Written: each stamp at its place.
pub mod Written
