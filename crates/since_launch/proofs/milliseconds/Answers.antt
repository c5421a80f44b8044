-- `since_launch::milliseconds` meets its contract. Assumes nothing.
use mathlib.Core.Path.{sym, ◌∙◌}
use Rattle.refusals.specs.Outcome.{outcome}
use Rattle.refusals.proofs.Handed.{handed_on}
use Rattle.since_launch.specs.Asked.{AllPlaced}
use Rattle.since_launch.proofs.Places.{stamp-not-finite, launch-refused, from-launch}
use Rattle.since_launch.proofs.milliseconds.Goals as goal

pub returns-in_err-stamp : goal.returns-in_err-stamp
unfolding outcome
returns-in_err-stamp c = handed_on _ _ c.from_residual.ensures.1 ∙ stamp-not-finite _ _ _ (sym c.in_err-stamp.ensures)

pub returns-in_err-launch : goal.returns-in_err-launch
unfolding outcome
returns-in_err-launch c =
    handed_on _ _ c.from_residual-in_err-launch.ensures.1 ∙ launch-refused _ _ _ _ (sym c.in_ok-stamp.ensures) (sym c.in_err-launch.ensures.0)

pub since-requires : goal.since-requires
unfolding AllPlaced
since-requires c = c.in_ok-launch.ensures.1

pub returns : goal.returns
unfolding outcome
returns c = c.since.ensures ∙ from-launch _ _ _ _ (sym c.in_ok-stamp.ensures) (sym c.in_ok-launch.ensures.0)
