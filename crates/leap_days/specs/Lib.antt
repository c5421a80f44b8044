-- The words of the theorems, which the laws of leaps are stated in. No contract cites them.
pub mod Leaps
pub mod Tables
pub mod Formula
pub mod drift
