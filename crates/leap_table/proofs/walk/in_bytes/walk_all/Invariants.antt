-- The walk stands before date i, and the offsets of the dates before it are written.
use Rattle.std.proofs.Common.{◌*◌}
use Rattle.leap_table.specs.rows.Announced.{rows_of}
use Rattle.leap_table.specs.walk.Walk.{triple_offset}
use Rattle.leap_table.specs.judging.Lists.{triple_in}
use Rattle.leap_table.proofs.walk.Pacing.{Pacing}
use Rattle.leap_table.proofs.walk.Writes.{Putting}
use Rattle.leap_table.proofs.walk.Eights.{whole_e, rest_e}
use Rattle.leap_table.proofs.walk.in_bytes.walk_all.Given as goal

abbrev pub invariant-loop-i : goal.invariant-loop-i
invariant-loop-i l = record {
  paced : Pacing (rows_of l.fn.table) (triple_in l.dates) l.n l.i l.w;
  put : Putting (whole_e (triple_offset (rows_of l.fn.table)) (triple_in l.dates) l.n l.fn.out)
      (rest_e (triple_offset (rows_of l.fn.table)) (triple_in l.dates) l.n l.fn.out l.i) l.fn.out l.out (8 * l.i);
}
