-- The definitions that the contracts of leap_table::judging cite, in the order to read them: the judging of dates, and dates as numbers and as bytes.
pub mod Judging
pub mod Lists
