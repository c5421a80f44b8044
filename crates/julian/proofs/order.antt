-- The laws of the order of dates, in the order to read them: the cases of the tests, exactly the order of the exact sums, either way round, and worked cases.
pub mod Tests
pub mod Exactly
pub mod Swapped
pub mod Cases
