-- The laws of f64 rounding over scaled whole numbers, in the order in which a reader needs them. specs/Value has what they are written in: `Val x p n d`, the
-- float x is finite and worth (p - n) / d; `Rounds f z p n d`, the float z is (p - n) / d rounded once; and L = 2 ^ 1074, so that 1 / L is the unit of f64. To
-- use them: turn each float into a `Val`, an operation into a `Rounds`, and that into what is wanted (exact, within bounds, near).

-- Value: the value of a finite float, by any pair and over any denominator, and what each of add, sub, mul and div rounds; -x and |x| are exact.
pub mod Value
-- Unique: the sign and the value fix the float.
pub mod Unique
-- Own: every finite f64 is a whole number of units, of at most 53 binary digits and some zeros.
pub mod Own
-- Exact: where the exact result fits, nothing is rounded: add-exact, sub-exact.
pub mod Exact
-- Bound: a result lies between any two floats that the exact result lies between.
pub mod Bound
-- Near: the absolute error of a rounding is at most a half of 2 ^ j units, where the exact result is below 2 ^ (53 + j) units: rounds-near, add-near, sub-near.
pub mod Near
-- Scaled: the absolute error of a product by a constant and of a quotient by a whole number.
pub mod Scaled
-- Relative: the relative error of a whole number of units is at most 2 ^ -53: step-relative.
pub mod Relative
-- Compare: a comparison of floats is the comparison of their values: lt-val, eq-val and le-val, and what a test says of the values and they of it.
pub mod Compare
-- EqualSums: sums of equal floats are both finite or both not.
pub mod EqualSums
-- Range: a test such as |x| < 2 ^ k as bounds on the value.
pub mod Range
-- Casts: an integer as a float and a float as an integer.
pub mod Casts
-- Ints: sums and differences of i64, by the same pairs.
pub mod Ints
-- Sterbenz: what the format holds is rounded to itself (rounds-rep), as is x - y where x is at most twice y (rep-diff).
pub mod Sterbenz
-- Compensated: with |b| ≤ |a| and s the rounded sum, (a - s) + b is exactly what the sum lost.
pub mod Compensated
-- TwoSumFloat: Knuth's two-sum, whose sum and error add up to the parts exactly, for parts under 2 ^ 52.
pub mod TwoSumFloat
-- TwoSumFinite: the same for any parts, where the sum and the error come out finite.
pub mod TwoSumFinite
-- Sizes: results of at most 2 ^ k in size, and so finite.
pub mod Sizes
-- About: a float near an exact fraction, with an error that is carried through a formula, in units of 2 ^ -90.
pub mod About
-- Chain: the same for sums alone, in any unit.
pub mod Chain
-- Quick: the operations in a form that antt computes faster.
pub mod Quick
-- Cases: worked examples.
pub mod Cases
-- What the laws above rest on, over natural numbers only.
-- Fractions: equal fractions.
pub mod Fractions
-- Signed: a size with a sign as a difference of two natural numbers.
pub mod Signed
-- Grid: how far `round` moves a fraction.
pub mod Grid
-- Optimal: no f64 is nearer than the rounded one.
pub mod Optimal
-- Nearest: a difference rounded to nearest.
pub mod Nearest
-- TwoSum: two-sum and the compensated step.
pub mod TwoSum
