-- The laws of UTC text.
pub mod Sign
pub mod Laws
pub mod ReadBack
pub mod Form
pub mod Cases
pub mod YearZeros
pub mod ExpandedLaws
