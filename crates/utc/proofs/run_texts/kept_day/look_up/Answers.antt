-- `utc::run_texts::kept_day::look_up` meets its contract. Assumes nothing.
use mathlib.Core.Path.{sym, ap, subst, ◌∙◌}
use native.Mathlib.Omega.{arith}
use Rattle.refusals.specs.Outcome.{outcome}
use Rattle.calendar.proofs.Years.{DateInRange, gregorian_in_range}
use lib.Ieee.{of_bits, neg}
use Rattle.floats.proofs.Laws.{yes}
use Rattle.calendar.specs.Gregorian.{gregorian_date}
use Rattle.leap_table.specs.rows.Announced.{rows_of}
use Rattle.utc.specs.run_texts.Kept.{KeptOf, RightKept}
use Rattle.utc.proofs.run_texts.KeptDays.{number_is, begins, leap-read, held_of}
use Rattle.utc.proofs.run_texts.kept_day.look_up.Goals as goal

pub with_leap-requires : goal.with_leap-requires
with_leap-requires c =
    let g = c.gregorian_date-date.ensures in
    let r = subst DateInRange (sym g) (gregorian_in_range _) in
    (omega (arith, r.month-high), omega (arith, r.day-high))

pub returns-in-Ok : goal.returns-in-Ok
unfolding RightKept KeptOf outcome of_bits neg
returns-in-Ok c l =
    let x = c.args.midnight in
    let fx = yes c.well_formed.0.1 in
    held_of (rows_of c.args.table.now) x c.kept_of.result c.gregorian_date-date.result _
    (begins x c.nearest_whole-w.result c.nearest_whole-w.ensures fx c.if-midnight.true c.if-midnight-2.true c.if-midnight-w.true)
    c.if-midnight-2.true
    (c.gregorian_date-date.ensures
    ∙ ap gregorian_date (number_is x c.nearest_whole-w.result c.nearest_whole-w.ensures fx c.if-midnight.true c.if-midnight-2.true))
    (leap-read _ c.gregorian_date-date.result _ _ (sym c.with_leap.ensures ∙ ap outcome c.in-Ok.is))
    (c.kept_of.ensures l)
