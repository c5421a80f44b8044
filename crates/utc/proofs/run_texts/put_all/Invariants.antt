-- The stamps before place i are put, and the day that is kept is right. Assumes nothing.
use Rattle.leap_table.specs.rows.Announced.{rows_of}
use Rattle.utc.specs.iso_texts.Named.{form_named}
use Rattle.utc.specs.run_texts.RunTexts.{stamp_text}
use Rattle.utc.specs.run_texts.Asked.{TextsPlaced}
use Rattle.utc.specs.run_texts.Kept.{RightKept}
use Rattle.utc.proofs.run_texts.put_all.Given as goal

abbrev pub invariant-loop-i : goal.invariant-loop-i
invariant-loop-i l =
    TextsPlaced (stamp_text (form_named l.textForm) (rows_of l.table) l.jd1s l.jd2s) l.i l.fn.texts l.fn.lengths l.fn.numbers l.refused
    l.texts l.lengths l.numbers
    × RightKept (rows_of l.table) l.kept
