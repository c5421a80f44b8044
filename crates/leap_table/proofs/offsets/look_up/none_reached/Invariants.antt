-- While no row before the index has begun, these rows say what the fixed ones do.
use Rattle.std.proofs.Common.{◌≡◌, true}
use Rattle.leap_table.specs.rows.Table.{starts, reached}
use Rattle.leap_table.specs.rows.Announced.{rows_to}
use Rattle.leap_table.specs.offsets.Plain.{by_found}
use Rattle.leap_table.proofs.offsets.look_up.none_reached.Given as goal

abbrev pub invariant-loop-row : goal.invariant-loop-row
invariant-loop-row l = l.none ≡ true → by_found l.n 0 ≡ reached (starts (rows_to l.table l.row-index)) l.n
