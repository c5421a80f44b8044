-- The loop of `leap_table::offsets::fixed_rows::rows_reached`: no row from i on has begun.
use Rattle.std.proofs.Common.{◌≡◌, drop}
use Rattle.leap_table.specs.rows.Table.{reached}
use Rattle.leap_table.proofs.offsets.fixed_rows.rows_reached.Given as goal

abbrev pub invariant-loop-i : goal.invariant-loop-i
invariant-loop-i l = reached (drop l.i l.months) l.n ≡ 0
