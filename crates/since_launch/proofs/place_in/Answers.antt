-- `since_launch::place_in` meets its contract. Assumes nothing.
use mathlib.Core.Path.{sym, ap, subst, ◌∙◌}
use Rattle.refusals.specs.Outcome.{answer, outcome}
use Rattle.refusals.proofs.Handed.{handed_on}
use Rattle.floats.proofs.Laws.{yes}
use Rattle.julian.proofs.day_number.Ranges.{day-range}
use Rattle.since_launch.specs.Asked.{PlaceWithin, AllPlaced}
use Rattle.since_launch.proofs.Places.{none_placed, placed, place-no-day, place_found}
use Rattle.since_launch.proofs.place_in.Goals as goal

pub returns-in_err-found : goal.returns-in_err-found
unfolding outcome AllPlaced
returns-in_err-found c = (
  handed_on _ _ c.from_residual.ensures.1 ∙ place-no-day _ _ (sym c.in_err-found.ensures),
  none_placed _ _ c.from_residual.ensures.1,
)

pub place_of-requires : goal.place_of-requires
unfolding outcome
place_of-requires c = day-range _ _ (yes c.well_formed.0.1) (yes c.well_formed.1.0.1) _ (sym c.in_ok-found.ensures)

pub returns : goal.returns
unfolding outcome AllPlaced
returns c =
    let e = sym c.in_ok-found.ensures in (
      ap answer c.place_of.ensures ∙ place_found _ _ e,
      subst PlaceWithin (sym c.place_of.ensures) (placed _ _ (yes c.well_formed.0.1) (yes c.well_formed.1.0.1) _ e),
    )
