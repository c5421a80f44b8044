-- The scan is the grammar, and what a text is read as.
pub mod Blanks
pub mod Fractions
pub mod Heads
pub mod Grammar
pub mod Ladder
pub mod SixFields
pub mod UtcLadder
pub mod Around
-- What we write is read back: any text of ours, and every text of the text calls.
pub mod ReadBack
pub mod UtcTimes
pub mod UtcReadBack
pub mod EveryText
pub mod Read
pub mod Cases
-- And the date that it is read as has the same text again.
pub mod ClockFraction
pub mod NearCounts
pub mod DayAgain
pub mod TextAgain
-- The dates of a run of texts, place by place.
pub mod RunDates
