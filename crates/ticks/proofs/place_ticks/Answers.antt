-- `ticks::place_ticks` meets its contract: all is judged before a place is written. Assumes nothing.
use native.Mathlib.Omega.{arith}
use mathlib.Core.Path.{refl, sym, ◌∙◌}
use Rattle.refusals.proofs.Handed.{handed_on}
use Rattle.ticks.proofs.Refused.{nothing-refused, by-number}
use Rattle.ticks.proofs.judging.Ladder.{ladder_passed, passes-two, all-good}
use Rattle.ticks.proofs.Calls.{refused-call, written-call}
use Rattle.ticks.proofs.place_ticks.Goals as goal

pub returns-in_err-judge : goal.returns-in_err-judge
returns-in_err-judge c =
    refused-call _ _ _ _ _ _ (handed_on _ _ c.from_residual.ensures.1) (sym (by-number c.in_err-judge.was) ∙ c.judge.ensures)

pub overflow_sub-judged : goal.overflow_sub-judged
overflow_sub-judged c =
    let z = ladder_passed _ _ _ _ (sym c.judge.ensures ∙ nothing-refused c.in_ok-judge.was) in
    omega (arith, passes-two _ _ _ _ z)

pub place_all-requires : goal.place_all-requires
place_all-requires c =
    let z = ladder_passed _ _ _ _ (sym c.judge.ensures ∙ nothing-refused c.in_ok-judge.was) in
    (all-good _ _ _ _ z _ refl, omega (arith, z.fits))

pub returns : goal.returns
returns c = written-call _ _ _ _ _ (sym c.judge.ensures ∙ nothing-refused c.in_ok-judge.was) c.place_all.ensures
