-- `since_launch::since` meets its contract. Assumes nothing.
use mathlib.Core.Path.{sym, ◌∙◌}
use Rattle.refusals.specs.Outcome.{outcome}
use Rattle.refusals.proofs.Handed.{handed_on}
use Rattle.since_launch.specs.Asked.{AllPlaced}
use Rattle.since_launch.proofs.Places.{since-refused, since-counted}
use Rattle.since_launch.proofs.since.Goals as goal

pub returns-in_err-place : goal.returns-in_err-place
unfolding outcome
returns-in_err-place c = handed_on _ _ c.from_residual.ensures.1 ∙ since-refused _ _ _ (sym c.in_err-place.ensures.0)

pub count_of-requires : goal.count_of-requires
unfolding AllPlaced
count_of-requires c = (c.requires, c.in_ok-place.ensures.1)

pub returns : goal.returns
unfolding outcome
returns c = c.count_of.ensures ∙ since-counted _ _ _ (sym c.in_ok-place.ensures.0)
