-- The words of the theorems of a listing: line ends, and stamps that are not finite. No contract cites them.
pub mod LineEnds
pub mod NotFinite
pub mod Writer
-- Asked: what is asked of a listing.
pub mod Asked
