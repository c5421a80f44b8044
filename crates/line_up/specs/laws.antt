-- What the theorems of the lining up say.
pub mod Claims
pub mod Due
pub mod Writer
pub mod Line
