-- `since_launch::place_at` meets its contract. Assumes nothing.
use mathlib.Core.Path.{sym, ◌∙◌}
use Rattle.refusals.specs.Outcome.{outcome}
use Rattle.refusals.proofs.Handed.{handed_on}
use Rattle.since_launch.proofs.Places.{none_placed, place-not-finite, place-goes-on}
use Rattle.since_launch.proofs.place_at.Goals as goal

pub returns-in_err-jd : goal.returns-in_err-jd
unfolding outcome
returns-in_err-jd c = (
  handed_on _ _ c.from_residual.ensures.1 ∙ place-not-finite _ _ (sym c.in_err-jd.ensures),
  none_placed _ _ c.from_residual.ensures.1,
)

pub returns : goal.returns
unfolding outcome
returns c = (c.place_in.ensures.0 ∙ place-goes-on _ _ (sym c.in_ok-jd.ensures), c.place_in.ensures.1)
