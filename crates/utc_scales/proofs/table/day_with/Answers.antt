-- `utc_scales::table::day_with` meets its contract. Assumes nothing.
use Rattle.std.proofs.Common.{rules}
use Rattle.std.specs.Prelude.{Option}
use mathlib.Core.Path.{sym, ap, subst, ◌∙◌}
use lib.IntN.{ℤ}
use Rattle.refusals.specs.Outcome.{outcome}
use Rattle.calendar.specs.Gregorian.{gregorian_date}
use Rattle.leap_table.specs.rows.Announced.{rows_of}
use Rattle.utc_scales.specs.Known.{read_on, RightDay, RightKnown}
use Rattle.utc_scales.specs.declared.table.KnownDay.{KnownDay}
use Rattle.utc_scales.proofs.days.Midnights.{same-day}
use Rattle.utc_scales.proofs.table.day_with.Goals as goal

pub returns-then-day-k : goal.returns-then-day-k
unfolding outcome RightKnown RightDay
returns-then-day-k c =
    let rows = rows_of c.args.table.now in
    let same = same-day c.args.day c.in-Some.k.day c.ranges.day (search rules) c.if-day-k.true in
    sym (subst (λ (x : Option KnownDay). RightKnown rows x) c.in-Some.is c.requires) ∙ ap (λ (z : ℤ). read_on rows (gregorian_date z)) (sym same)
