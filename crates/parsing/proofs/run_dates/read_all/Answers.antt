-- `parsing::run_dates::read_all` meets its contract: a text more is read. Assumes nothing.
use native.Mathlib.Omega.{arith}
use Rattle.leap_table.specs.rows.Announced.{rows_of}
use Rattle.runs.proofs.by_formula.Puts.{putting_starts, few, putting_goes}
use Rattle.parsing.proofs.run_dates.KeptDays.{no_service}
use Rattle.parsing.proofs.run_dates.read_all.Goals as goal

pub loop-i-init : goal.loop-i-init
loop-i-init c =
    let a = c.args in
    (putting_starts, no_service (rows_of a.table.now))

pub overflow_add-refused : goal.overflow_add-refused
overflow_add-refused c =
    record { fits = omega (arith, c.loop-i-test.true, few c.loop-i.invariant.0, c.requires.bytes_there, c.one_if_refused-refused.ensures.1) }

pub loop-i-preserved : goal.loop-i-preserved
loop-i-preserved c =
    let done = c.read_one-done.ensures in
    (putting_goes c.loop-i.invariant.0 c.loop-i-test.true done.0 c.one_if_refused-refused.ensures.0, done.1)
