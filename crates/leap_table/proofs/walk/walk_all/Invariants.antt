-- The walk stands before date i, and the offsets of the dates before it are written.
use Rattle.leap_table.specs.rows.Announced.{rows_of}
use Rattle.leap_table.specs.walk.Walk.{triple_offset}
use Rattle.leap_table.specs.judging.Lists.{triple_at}
use Rattle.leap_table.proofs.walk.Pacing.{Pacing}
use Rattle.leap_table.proofs.walk.Writes.{Putting}
use Rattle.leap_table.proofs.walk.Floats.{whole_f, rest_f}
use Rattle.leap_table.proofs.walk.walk_all.Given as goal

abbrev pub invariant-loop-i : goal.invariant-loop-i
invariant-loop-i l = record {
  paced : Pacing (rows_of l.fn.table) (triple_at l.dates) l.n l.i l.w;
  put : Putting (whole_f (triple_offset (rows_of l.fn.table)) (triple_at l.dates) l.n l.fn.out)
      (rest_f (triple_offset (rows_of l.fn.table)) (triple_at l.dates) l.n l.fn.out l.i) l.fn.out l.out l.i;
}
