-- The laws of runs by a formula: one stamp and a run of them, the order of patterns, a stamp that is judged by them, the kinds of formulas, and the call as a
-- whole.
pub mod Puts
pub mod PatternOrder
pub mod Judged
pub mod KindLaws
pub mod Calls
