-- What a run means: each stamp as the single calls have it, every one that is not finite refused and counted; when a call is answered, and each stamp at its
-- own bytes.
pub mod EachWay
pub mod Refusing
pub mod Bytes
pub mod Written
pub mod Theorems
pub mod Formulas
pub mod Answered
pub mod Lists
pub mod Worked
pub mod RunCases
