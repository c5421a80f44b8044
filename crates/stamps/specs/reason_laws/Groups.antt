-- Whether the test of a number reads values of this kind. Written from document 02, item 13 ("1 to 3 the wrong one, 4 the first wrong one, 6 the rounded sum, 7
-- the fraction, 8 the nanos, 9 the first bad part, 10 the offset, 12 the second size, 13 the size, 14 the whole length"). Assumes nothing.
use Rattle.std.specs.Prelude.{ℕ, Bool, false, ◌||◌, eqb}
use Rattle.reasons.specs.declared.Values.{Values}
use Rattle.reasons.specs.declared.Values.TheVariants.{NoValues, Date, Time, Parts, Number, Count, Block}

unfoldable pub reads : ℕ → Values → Bool
reads k NoValues = false
reads k (Date y m d) = eqb k 1 || (eqb k 2 || eqb k 3)
reads k (Time hour minute second leap) = eqb k 4
reads k (Parts a b) = eqb k 6 || eqb k 9
reads k (Number x) = eqb k 7 || eqb k 10
reads k (Count n) = eqb k 8
reads k (Block length size second) = eqb k 12 || (eqb k 13 || eqb k 14)
