-- `runs::change_stamp` meets its contract: from a scale to itself the way is the test of the parts. Assumes nothing.
use Rattle.std.proofs.Common.{refl, ap, ◌∙◌}
use Rattle.julian.specs.Finite.{finite_jd}
use Rattle.julian.specs.stamp_lists.Stamps.{stamp_of}
use Rattle.julian.proofs.stamp_lists.Reading.{stamp-is}
use Rattle.runs.proofs.by_formula.Puts.{put_same}
use Rattle.runs.proofs.ways.Steps.{way_same}
use Rattle.runs.proofs.change_stamp.Goals as goal

pub returns-then-from-to : goal.returns-then-from-to
returns-then-from-to c rows =
    let a = c.args in
    put_same
    (ap finite_jd (stamp-is a.jd1s.now a.jd2s.now a.i _ _ _ _ c.nth_u64-a.ensures c.nth_u64-b.ensures refl refl)
    ∙ way_same a.from a.to rows (stamp_of a.jd1s.now a.jd2s.now a.i) c.if-from-to.true)
    c.keep_stamp.ensures
