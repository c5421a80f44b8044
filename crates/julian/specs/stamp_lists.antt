-- What the contract of `julian::stamp_lists` cites.
pub mod Stamps
