-- What a return says, that a caller who counts line ends gets the whole listing, that tables from C are those of Rattle, that fields are read back by name;
-- when texts of a run, a table that is read, the summary and a part of the listing of three recorders are answered, and what a program collects of it, also
-- one that counts bytes.
pub mod Returns
pub mod TextCalls
pub mod ListingCalls
pub mod OrderNumbers
pub mod SecondListing
pub mod FieldsBack
pub mod TableBack
pub mod TextForms
pub mod TableRead
pub mod Summary
pub mod LineListing
pub mod RunRecords
pub mod CollectedListing
pub mod NumberBytes
pub mod CountedListing
