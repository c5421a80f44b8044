-- No row from place i on has begun, so that the rows before say what all do.
use Rattle.std.proofs.Common.{◌≡◌}
use Rattle.leap_table.specs.rows.Table.{starts, reached}
use Rattle.leap_table.specs.rows.Announced.{rows_to}
use Rattle.leap_table.proofs.offsets.look_up.last_reached.Given as goal

abbrev pub invariant-loop-i : goal.invariant-loop-i
invariant-loop-i l =
    reached (starts (rows_to l.table l.size)) l.n
    ≡ reached (starts (rows_to l.table l.i)) l.n
