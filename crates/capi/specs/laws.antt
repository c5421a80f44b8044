-- The words of the theorems: how a C caller lists a block, what the number of an order says, the fields of an answer by name; when texts of a run, a table that
-- is read, the summary and a part of the listing of three recorders are answered, and what a program collects of it. No contract cites them.
pub mod ListingCalls
pub mod ExactSums
pub mod FieldsBack
pub mod TextForms
pub mod TableRead
pub mod Summary
pub mod LineListing
pub mod RunRecords
pub mod CollectedListing
pub mod CountedListing
