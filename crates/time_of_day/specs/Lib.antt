-- What the contracts of `utc::shown` cite, and that of `from_zero`, in the order to read it.
pub mod Milliseconds
pub mod TimeShown
pub mod HalfEven
-- The words of the theorems, which speak of the exact time: no contract cites them.
pub mod Nearest
pub mod ExactTime
pub mod EvenPromise
pub mod EvenWays
