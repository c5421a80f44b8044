-- The laws that the proofs of the C interface cite: a table that is lent, by value and by reference, a text, and one with its rule in two buffers, the number
-- of a block's stamps, a part of a listing, a walk, three runs in a line, ticks, the places of a run, a run, and its texts.
pub mod Tables
pub mod Arrays
pub mod TextRules
pub mod BlockStamps
pub mod LineUps
pub mod Texts
pub mod ListingParts
pub mod Walks
pub mod Ticks
pub mod Places
pub mod Runs
pub mod RunBytes
pub mod Millis
pub mod RunTexts
pub mod laws
pub mod Lists
pub mod Summaries
pub mod LineListings
