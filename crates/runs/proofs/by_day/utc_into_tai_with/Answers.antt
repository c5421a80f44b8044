-- `runs::by_day::utc_into_tai_with` meets its contract. Assumes nothing.
use Rattle.std.proofs.Common.{sym, subst}
use Rattle.refusals.specs.Outcome.{outcome}
use Rattle.leap_table.specs.rows.Announced.{rows_of}
use Rattle.runs.specs.by_day.Hand.{FindsTai, RightTaiByHand}
use Rattle.runs.proofs.by_day.utc_into_tai_with.Goals as goal

pub returns-in-Some : goal.returns-in-Some
unfolding FindsTai RightTaiByHand outcome
returns-in-Some c =
    let rows = rows_of c.args.table.now in
    sym (subst (RightTaiByHand rows c.args.jd) c.in-Some.is (c.quick_tai.ensures rows c.requires)).0
