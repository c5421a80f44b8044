-- `leap_table::judging::judge_all` meets its contract: the dates are judged one after the other. Assumes nothing.
use Rattle.std.proofs.Common.{sym, ◌∙◌}
use Rattle.refusals.specs.Outcome.{outcome}
use Rattle.refusals.proofs.Handed.{answered, handed, handed_on}
use Rattle.leap_table.proofs.judging.Judges.{first_date, judging_starts, judging_stops, judging_goes, judging_ends}
use Rattle.leap_table.proofs.judging.judge_all.Goals as goal

pub loop-i-init : goal.loop-i-init
loop-i-init g c f r = judging_starts f c.args.n 0 first_date

pub returns-in_err-judge : goal.returns-in_err-judge
returns-in_err-judge g c f r =
    handed_on _ _ c.from_residual.ensures.1
    ∙ judging_stops f c.args.n c.loop-i.i c.loop-i.before _ _ c.loop-i-test.true (r _ _ c.loop-i-test.true c.date-t.ensures)
    (sym (handed c.in_err-judge.was) ∙ c.judge.ensures)
    ∙ sym (c.loop-i.invariant f r)

pub loop-i-preserved : goal.loop-i-preserved
loop-i-preserved g c f r =
    c.loop-i.invariant f r
    ∙ judging_goes f c.args.n c.loop-i.i c.loop-i.before _ c.loop-i-test.true (r _ _ c.loop-i-test.true c.date-t.ensures)
    (sym (answered c.in_ok-judge.was) ∙ c.judge.ensures)

pub returns : goal.returns
unfolding outcome
returns g c f r = judging_ends f c.args.n c.loop-i.i c.loop-i.before c.loop-i-test.false ∙ sym (c.loop-i.invariant f r)
