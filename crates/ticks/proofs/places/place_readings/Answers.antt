-- `ticks::places::place_readings` meets its contract: all is judged before a byte is written. Assumes nothing.
use mathlib.Core.Path.{refl, sym, ◌∙◌}
use Rattle.refusals.proofs.Handed.{handed_on}
use Rattle.ticks.proofs.Refused.{nothing-refused, by-number}
use Rattle.ticks.proofs.places.Ladder.{run-refused, passes-two, has-readings, run-placed}
use Rattle.ticks.proofs.places.place_readings.Goals as goal

pub returns-in_err-judge : goal.returns-in_err-judge
returns-in_err-judge c =
    run-refused _ _ _ _ _ _ _ (handed_on _ _ c.from_residual.ensures.1) (sym (by-number c.in_err-judge.was) ∙ c.judge.ensures)

pub overflow_sub-judged : goal.overflow_sub-judged
overflow_sub-judged c = passes-two _ _ _ _ _ (sym c.judge.ensures ∙ nothing-refused c.in_ok-judge.was)

pub place_all-requires : goal.place_all-requires
place_all-requires c = has-readings _ _ _ _ _ (sym c.judge.ensures ∙ nothing-refused c.in_ok-judge.was) _ refl

pub returns : goal.returns
returns c = run-placed _ _ _ _ _ (sym c.judge.ensures ∙ nothing-refused c.in_ok-judge.was) _ _ _ c.place_all.ensures
