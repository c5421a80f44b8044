-- What the laws of GPS weeks speak of.
pub mod NearDate
pub mod OnCalendar
pub mod Decisions
pub mod Weeks
