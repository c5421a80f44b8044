-- The laws that the functions' proofs cite.
pub mod Numbers
pub mod Shares
pub mod Ladder
pub mod Times
-- Cases: closed cases of a bill.
pub mod Cases
pub mod Elapsed
