-- `runs::by_day::tai_into_utc_with` meets its contract. Assumes nothing.
use Rattle.std.proofs.Common.{sym, subst}
use Rattle.refusals.specs.Outcome.{outcome}
use Rattle.leap_table.specs.rows.Announced.{rows_of}
use Rattle.runs.specs.by_day.Hand.{FindsUtc, RightUtcByHand}
use Rattle.runs.proofs.by_day.tai_into_utc_with.Goals as goal

pub returns-in-Some : goal.returns-in-Some
unfolding FindsUtc RightUtcByHand outcome
returns-in-Some c =
    let rows = rows_of c.args.table.now in
    sym (subst (RightUtcByHand rows c.args.jd) c.in-Some.is (c.quick_utc.ensures rows c.requires))
