-- The definitions that the contracts of `line_listing::listing` cite: the whole listing, and the part of it that one call writes. Asked has what the functions
-- below the call keep.
pub mod Listing
pub mod Part
pub mod Asked
