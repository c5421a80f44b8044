-- What the contract of `standby_bill` cites, in the order to read it: which UTC times are refused and what their exact TAI is, the bill with its refusals, and
-- the code's instants.
pub mod Times
pub mod Bills
pub mod Instants
-- Midnights and the clock between them, in which the laws of elapsed time are stated.
pub mod Elapsed
-- What the functions below the call ask and ensure.
pub mod Asked
