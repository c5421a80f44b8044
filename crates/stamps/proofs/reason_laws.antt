-- The listing in sentences: each sentence reads back as its number and field.
pub mod ReadBack
pub mod Names
pub mod Named
pub mod Printed
