-- The texts before place i are read, and the day that is kept is right. Assumes nothing.
use Rattle.leap_table.specs.rows.Announced.{rows_of}
use Rattle.runs.proofs.by_formula.Puts.{Putting}
use Rattle.parsing.specs.run_dates.RunDates.{text_date}
use Rattle.parsing.specs.run_dates.Kept.{RightForTexts}
use Rattle.parsing.proofs.run_dates.read_all.Given as goal

abbrev pub invariant-loop-i : goal.invariant-loop-i
invariant-loop-i l =
    Putting (text_date (rows_of l.table) l.texts l.lengths) l.n l.fn.out1 l.fn.out2 l.fn.numbers l.out1 l.out2 l.numbers l.refused l.i
    × RightForTexts (rows_of l.table) l.kept
