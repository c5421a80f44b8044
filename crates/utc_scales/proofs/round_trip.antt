-- What UTC to TAI and TAI to UTC mean from 1972 on, and the way there and back, in picoseconds.

-- The theorems:
-- RoundTrip: there-and-back, document 02's request 14: TAI to UTC and back within a nanosecond; there-and-back-173, within 173 ps.
pub mod RoundTrip
-- Meant: utc-to-tai-means, the answer of UTC to TAI is the exact relation's to 77 ps. And one-day: a date has one exact day.
pub mod Meant
-- UtcMeant: tai-to-utc-means, the answer of TAI to UTC is the exact relation's to 173 ps.
pub mod UtcMeant
-- Recorders: three-recorders, one instant by GPS, TAI and UTC comes out pairwise within 10, 77 and 87 ps; by-tai, two recorders alone, and why e is not 0.
pub mod Recorders
-- Instant: a case of it, 2017-01-01 0h UTC.
pub mod Instant
-- Order: utc-order, tai-order: stamps 154 ps, or by TAI 346 ps, or more apart keep their order.
pub mod Order
-- NoGap: utc-order-no-gap: stamps of one jd1 keep it with no gap, whatever their jd2.
pub mod NoGap
-- Ordered: utc-order-by-days: so do any of one jd1 whose days and fractions the calendar finds in order.
pub mod Ordered
-- Steps: steps-are, the steps of the table are those that the IERS tells.
pub mod Steps
-- Modified: utc-to-tai-modified, UTC to TAI of (2400000.5, MJD) to 628,704 ps.
pub mod Modified
-- ModifiedUtc: tai-to-utc-modified, TAI to UTC of (2400000.5, MJD) to 628,795 ps.
pub mod ModifiedUtc
-- Exchanged: the same three with jd1 and jd2 exchanged.
pub mod Exchanged
-- Limits: no-29-ps, two-rounds and out-of-order, what cannot be claimed.
pub mod Limits
-- Ends: the ranges are not empty.
pub mod Ends
-- Cases: the table on some days.
pub mod Cases
-- One evaluation of UTC to TAI:
-- Units: h, and the rounding law.
pub mod Units
-- Parts: the two parts of a date as scaled whole numbers.
pub mod Parts
-- DaySeconds: TAI-UTC by day numbers, by every table that is taken: whole seconds, from 10 on, with a step of 0, 1 or -1.
pub mod DaySeconds
-- FixedDays: the days of the fixed table, which leaves no second out.
pub mod FixedDays
-- Stretch: the fraction of a day stretched by its leap second, and TAI-UTC in days.
pub mod Stretch
-- Midnight: the days from jd1 to a midnight are exact.
pub mod Midnight
-- Located: the day and fraction that the calendar finds, within 4 h.
pub mod Located
-- Kept: jd1 is the larger part and stays.
pub mod Kept
-- Sums: the arithmetic.
pub mod Sums
-- Evaluated: the evaluation.
pub mod Evaluated
-- Steady: the exact relation has no jump and changes slowly.
pub mod Steady
-- The rounds of TAI to UTC:
-- Residuals: their arithmetic.
pub mod Residuals
-- Picoseconds: their bound in picoseconds.
pub mod Picoseconds
-- Round: one round on floats.
pub mod Round
-- Rounds: the three.
pub mod Rounds
-- What order and recorders need besides:
-- Exactly: the exact relation without its products.
pub mod Exactly
-- Monotone: each operation after the calendar keeps the order, over midnight too.
pub mod Monotone
-- Fraction: the calendar's fraction is an f64.
pub mod Fraction
