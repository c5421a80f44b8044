-- What the contracts of `parsing` cite, beside Written and Form of `parsing::scan`: the answers, and the code's own judging.
pub mod Parsed
pub mod Judging
-- The words of the theorems: no contract cites them. That the form is this grammar is proved in parsing_laws.
pub mod Grammar
pub mod scan
-- The dates of a run of texts.
pub mod run_dates
