-- The laws of UTC text, in the order to read them.
pub mod TextCalls
pub mod TextRules
pub mod TextDays
pub mod EachForm
pub mod CarriedRules
pub mod TextCases
