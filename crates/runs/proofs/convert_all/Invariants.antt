-- The stamps before place i are put, and the day in hand is right. Assumes nothing.
use Rattle.leap_table.specs.rows.Announced.{rows_of}
use Rattle.runs.specs.Run.{stamp_answer}
use Rattle.runs.specs.by_day.Hand.{RightHand}
use Rattle.runs.proofs.by_formula.Puts.{Putting}
use Rattle.runs.proofs.convert_all.Given as goal

abbrev pub invariant-loop-i : goal.invariant-loop-i
invariant-loop-i l =
    Putting (stamp_answer (rows_of l.table) l.from l.to l.jd1s l.jd2s) l.n l.fn.out1 l.fn.out2 l.fn.numbers
    l.out1 l.out2 l.numbers l.refused l.i
    × RightHand (rows_of l.table) l.hand
