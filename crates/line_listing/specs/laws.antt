-- What the theorems of the listing say.
pub mod Places
pub mod TakenRuns
pub mod Joined
pub mod PartFits
pub mod RunLines
pub mod NotFiniteTold
pub mod LaterRun
-- Which stamps are counted as not finite; the head and the lines in their words, and the listing's bytes by them.
pub mod NotFiniteCounted
pub mod HeadTold
pub mod ListingBytes
pub mod ListingMade
-- Right: what is asked of the listing, whole.
pub mod Right
