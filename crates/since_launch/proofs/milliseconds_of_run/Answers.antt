-- `since_launch::milliseconds_of_run` meets its contract. Assumes nothing.
use mathlib.Core.Path.{◌∙◌}
use Rattle.refusals.specs.Outcome.{outcome}
use Rattle.since_launch.specs.Asked.{AllPlaced}
use Rattle.since_launch.proofs.Calls.{launch-out, launch-in}
use Rattle.since_launch.proofs.milliseconds_of_run.Goals as goal

pub returns-in_err-launch : goal.returns-in_err-launch
unfolding outcome
returns-in_err-launch c = launch-out _ _ _ _ _ _ _ c.from_residual.ensures.1 c.in_err-launch.ensures.0

pub run_from-requires : goal.run_from-requires
unfolding AllPlaced
run_from-requires c = c.in_ok-launch.ensures.1

pub returns : goal.returns
unfolding outcome
returns c = c.run_from.ensures ∙ launch-in _ _ _ _ _ _ c.in_ok-launch.ensures.0
