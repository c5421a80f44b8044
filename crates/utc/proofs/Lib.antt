-- Found: what the check finds proofs by. UnixDays, UnixTimes: the laws of UTC from Unix time.
pub mod Found
pub mod UnixDays
pub mod UnixTimes
pub mod laws
