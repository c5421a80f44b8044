-- `leap_table::offsets::fixed_rows::fixed_rows_reached` meets its contract: the table's months are those of the definition, and none after those that are
-- looked at has begun. Assumes nothing.
use Rattle.std.proofs.Common.{◌≡◌, ℕ, ◌<◌, drop, arith, refl}
use Rattle.leap_table.specs.rows.Table.{fixed, starts, reached}
use Rattle.leap_table.proofs.rows.Reached.{at_most, late}
use Rattle.leap_table.proofs.offsets.fixed_rows.fixed_rows_reached.Goals as goal

before-1988 : (n : ℕ) → n < 23856 → reached (drop 28 (starts fixed)) n ≡ 0
unfolding fixed
before-1988 n h = late 23855 (drop 28 (starts fixed)) tt n (omega arith)

before-1972 : (n : ℕ) → n < 23664 → reached (drop 14 (starts fixed)) n ≡ 0
unfolding fixed
before-1972 n h = late 23663 (drop 14 (starts fixed)) tt n (omega arith)

pub rows_reached-requires : goal.rows_reached-requires
unfolding reached
rows_reached-requires c = (omega arith, refl)

pub returns-then-n-ge23856 : goal.returns-then-n-ge23856
unfolding fixed
returns-then-n-ge23856 c = (c.rows_reached.ensures, rw c.rows_reached.ensures (at_most _ _))

pub rows_reached-requires-then-n-ge23664 : goal.rows_reached-requires-then-n-ge23664
unfolding fixed
rows_reached-requires-then-n-ge23664 c = (omega arith, before-1988 _ c.if-n-ge23856.false)

pub returns-then-n-ge23664 : goal.returns-then-n-ge23664
unfolding fixed
returns-then-n-ge23664 c = (c.rows_reached-then-n-ge23664.ensures, rw c.rows_reached-then-n-ge23664.ensures (at_most _ _))

pub rows_reached-requires-2 : goal.rows_reached-requires-2
unfolding fixed
rows_reached-requires-2 c = (omega arith, before-1972 _ c.if-n-ge23664.false)

pub returns : goal.returns
unfolding fixed
returns c = (c.rows_reached-2.ensures, rw c.rows_reached-2.ensures (at_most _ _))
