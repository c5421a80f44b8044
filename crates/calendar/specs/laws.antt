-- RustDate: what the Rust computes of a day number. IsoCalendar: what the calendar of ISO 8601 asks of a date and of a day number.
pub mod RustDate
pub mod IsoCalendar
