-- The stamps before place i are put. Assumes nothing.
use Rattle.std.proofs.Common.{List}
use Rattle.leap_table.specs.rows.Table.{Row}
use Rattle.runs.specs.Run.{stamp_answer}
use Rattle.runs.proofs.by_formula.Puts.{Putting}
use Rattle.runs.proofs.change_all.Given as goal

abbrev pub invariant-loop-i : goal.invariant-loop-i
invariant-loop-i l =
    (rows : List Row) → Putting (stamp_answer rows l.from l.to l.jd1s l.jd2s) l.n l.fn.out1 l.fn.out2 l.fn.numbers l.out1 l.out2 l.numbers l.refused l.i
