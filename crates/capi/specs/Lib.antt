-- What the contracts of the C interface cite beside the definitions of the crates below: the version and the order of two dates as numbers, the bytes of a
-- week, what a lining up, a run, its places, its milliseconds and a walk deliver, a text with its rule, the texts of a run, a part of a listing, the bytes of
-- a bill and of a text that was read, a table that was read from a text, and the summary and the listing of three recorders.
pub mod Version
pub mod OrderNumber
pub mod WeekBytes
pub mod LineDelivery
pub mod RunDelivery
pub mod RunSizeDelivery
pub mod PlacesDelivery
pub mod MillisDelivery
pub mod TextRule
pub mod TextsDelivery
pub mod ListingPart
pub mod WalkDelivery
pub mod BillBytes
pub mod ReaderFields
pub mod ListDelivery
pub mod SummaryDelivery
pub mod LineListingDelivery
pub mod laws
