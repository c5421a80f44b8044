-- What a line means: each place once, rising, the only such line, the fewest left out; when a call is answered.
pub mod Pairwise
pub mod Once
pub mod Judging
pub mod Theorems
pub mod NotFinite
pub mod Due
pub mod Written
