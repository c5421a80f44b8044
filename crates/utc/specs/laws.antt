-- The words of the theorems: no contract cites them.
-- Shows: what demand 3 asks of a text. Promises: the same of document 02's two forms of text. GoodForm: what demand 3 needs of a form of text.
pub mod Shows
pub mod Promises
pub mod GoodForm
-- OneText: demand 3 whole, for every division of a date and every buffer.
pub mod OneText
-- Beside: two texts of one date, each written in its own way.
pub mod Beside
-- RunTexts: what the texts of a run leave of each stamp.
pub mod RunTexts
-- Ladder: an order of refusals. Ladders: those of the calls that read TAI-UTC.
pub mod Ladder
pub mod Ladders
-- Calls: what is asked of the texts and of the calls on UTC, call by call.
pub mod Calls
