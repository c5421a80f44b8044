-- What `day_number_and_fraction` answers, in the order in which a reader needs it. specs/ExactDay has what demand 3 is written in: `OnGrid x`, the part x is a
-- multiple of 2 ^ -52 day under 2 ^ 52 days in size; `InJulianRange sum`, the exact sum is from -68569.5 to 10 ^ 9; `exact_day` and `exact_fraction`. To follow
-- the proof of `exact`: a pair passes the range test (JulianRange); each part falls into a whole number and a rest (NearestInt, Parts); the two rests add up
-- exactly (SplitOnGrid); the whole numbers add up without a wrap (IntegerSum); together they are the exact day and fraction (GridPairs), and there is only one
-- (ExactDay).

-- The theorems.
-- ExactDay: DEMAND 3, the exact day and the exact fraction on the grid (exact), and on a grid of up to 2 ^ 62 days (exact-to-2-62); all divisions of one sum
-- are alike.
pub mod ExactDay
-- Ends: the ends of the ranges that these theorems speak of are met.
pub mod Ends
-- OffGrid: off the grid, day and fraction are within 2 ^ -51 day of the exact ones.
pub mod OffGrid
-- Ranges: every answered day is from -68570 to 10 ^ 9, every fraction from 0.0 to below 1.0.
pub mod Ranges
-- NotFinite: a part that is not finite is refused with 6.
pub mod NotFinite
-- FractionSign: no fraction is -0.0.
pub mod FractionSign
-- CarryTest: the last test of the code is exactly that the fraction is 1.0 or more.
pub mod CarryTest
-- Cases: document 01's cases, and cases at the edges.
pub mod Cases
-- From the parts to the day.
-- Answer: the outcome by the range test.
pub mod Answer
-- JulianRange: what the range test says of the exact sum, and the exact sum of the test.
pub mod JulianRange
-- Accepted: every accepted pair is small, or on the grid.
pub mod Accepted
-- GridPairs: an accepted pair on the grid is exact.
pub mod GridPairs
-- PairOnGrid and Pair: what is shown of a pair, on the grid and of parts below 2 ^ 50.
pub mod PairOnGrid
pub mod Pair
-- Parts: a part less its whole number is exact.
pub mod Parts
-- NearestInt and NearestNumber: the whole number of a part, as a float, as an integer, and how far it is.
pub mod NearestInt
pub mod NearestNumber
-- IntegerSum and TotalDay: no step of the integer sum wraps.
pub mod IntegerSum
pub mod TotalDay
-- From the two rests to the fraction.
-- Split: what they come to; SplitOnGrid: exactly; SplitOffGrid: to 2 ^ -51.
pub mod Split
pub mod SplitOnGrid
pub mod SplitOffGrid
-- SumFractions: the sum from 1/2; Compensated: what it loses; NormalizeFraction: brought into [0, 1); CarryDay: the last carry.
pub mod SumFractions
pub mod Compensated
pub mod NormalizeFraction
pub mod CarryDay
-- MinusZero: when a sum is -0.0.
pub mod MinusZero
-- What these rest on, and the ties to the code.
-- Units: the units that the proofs count in; SignedUnits: a float in them.
pub mod Units
pub mod SignedUnits
-- Steps and DayInRange: what each step of the code computes is its definition's.
pub mod Steps
pub mod DayInRange
-- Midnight: where the first part is a midnight, the second part's fraction is the sum.
pub mod Midnight
-- PartsOfDay: a midnight and a part from 0.0 to below 1.0 are that day and that fraction of it.
pub mod PartsOfDay
