-- The definitions that the contracts of `stamps` cite: the stamp block, its listing, and the parts that a scratch holds.
pub mod Block
pub mod Listing
pub mod Parts
pub mod Widths
pub mod listing_laws
pub mod reason_laws
