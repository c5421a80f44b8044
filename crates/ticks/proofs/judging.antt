-- The laws of passes and ticks judged: the loops that judge, passes judged by their last, and the refusals in their order.
pub mod Every
pub mod Checks
pub mod ByLast
pub mod Ladder
