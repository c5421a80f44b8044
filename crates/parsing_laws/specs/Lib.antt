-- What the theorems of `parsing_laws` say of a text.
pub mod Verdict
pub mod SixFields
pub mod Shown
pub mod UtcVerdict
-- Read: what is asked of the reader.
pub mod Read
-- RunDates: with which lengths the dates of a run of texts are read, and a list of texts laid out.
pub mod RunDates
