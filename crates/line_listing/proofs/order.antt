-- The laws of the listing's order: what stands behind a place, how that tiles the runs, and the loops.
pub mod Segments
pub mod Puts
pub mod Loops
pub mod Tiles
pub mod Calls
