-- NoAnswerChanges: the Rust's own expression for a date gives the same date. IsoCalendar: the calendar is that of ISO 8601.
pub mod NoAnswerChanges
pub mod IsoCalendar
