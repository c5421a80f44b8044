-- What the contracts of `utc::text` cite, in the order to read it: what UTC text is, where its characters stand, what a lent buffer and the answer are after
-- the call.
pub mod Ascii
pub mod Text
pub mod Expanded
pub mod Layout
pub mod Answer
-- The words of the theorems: what a text's digits say, and what form it has. No contract cites them.
pub mod ReadBack
pub mod WellFormed
pub mod ExpandedForm
