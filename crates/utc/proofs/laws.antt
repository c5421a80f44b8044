-- What the texts and the calls on UTC mean: all divisions of a date are alike in text, and which numbers refuse exactly when.
-- FromCalendars: UTC from the calendar by its cases. Parts: what the parts of an answer are worth. ShortDays: a day that ends a second early.
pub mod FromCalendars
pub mod Parts
pub mod ShortDays
-- DayTexts: which dates have a text. Refusals, Numbers, DateNumbers: the numbers that a text and a date can be refused with. Lengths: of every text.
pub mod DayTexts
pub mod Refusals
pub mod Numbers
pub mod DateNumbers
pub mod Lengths
-- Demand3: DEMAND 3 of a text's day and time. ShownDates, Sums, TextForms: what it needs of dates, of divisions and of forms of text. DayLengths: it speaks of
-- every day.
pub mod ShownDates
pub mod Sums
pub mod TextForms
pub mod Demand3
pub mod DayLengths
-- Alike, OneText: DEMAND 3 for every division of a date and every buffer. Ends: at the ends of its ranges.
pub mod Alike
pub mod OneText
pub mod Ends
-- ExpandedTexts, HalfEvenTexts: document 02's two forms of text. NamedTexts: the most bytes of a text of any form.
pub mod ExpandedTexts
pub mod HalfEvenTexts
pub mod NamedTexts
-- RunTexts: the texts of a run, place by place. RunTextsBytes: which bytes are whose.
pub mod RunTextsBytes
pub mod RunTexts
-- Which refusals the calls give by every announced table, and exactly when. Ladders: of tables, dates and times. Decided, NewDecided, TextDecided: of each
-- call; UnixDates, UnixClock: what a Unix time needs. Witnesses: each refusal does occur.
pub mod Ladders
pub mod Decided
pub mod UnixDates
pub mod UnixClock
pub mod NewDecided
pub mod TextDecided
pub mod Witnesses
-- Calls: the texts and the calls on UTC, as the mission and document 02 ask.
pub mod Calls
