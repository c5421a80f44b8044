-- What the contracts of `utc` cite, in the order to read it.
pub mod FromCalendar
pub mod UnixTime
pub mod text
pub mod iso_texts
pub mod run_texts
pub mod laws
