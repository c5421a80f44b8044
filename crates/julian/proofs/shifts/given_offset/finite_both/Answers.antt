-- `julian::shifts::given_offset::finite_both` meets its contract: the date is tested before the offset. Assumes nothing.
use mathlib.Core.Path.{◌∙◌}
use lib.Ieee.{Float}
use Rattle.refusals.specs.Outcome.{answer, outcome}
use Rattle.refusals.proofs.Handed.{stops, goes}
use Rattle.julian.specs.shifts.Shifts.{finite_offset, finite_both}
use Rattle.julian.proofs.shifts.given_offset.finite_both.Goals as goal

pub returns-in_err-date : goal.returns-in_err-date
unfolding finite_both
returns-in_err-date c = stops _ _ _ _ c.from_residual.ensures.1 c.in_err-date.ensures

pub returns-in_err-finite_arg : goal.returns-in_err-finite_arg
unfolding finite_both finite_offset
returns-in_err-finite_arg c =
    stops _ _ _ (λ (s : Float). answer c.in_ok-date.date) c.from_residual-in_err-finite_arg.ensures.1 c.in_err-finite_arg.ensures
    ∙ goes _ _ (finite_offset c.args.seconds) c.in_ok-date.ensures

pub returns : goal.returns
unfolding outcome finite_both finite_offset
returns c =
    goes _ _ (λ (s : Float). answer c.in_ok-date.date) c.in_ok-finite_arg.ensures ∙ goes _ _ (finite_offset c.args.seconds) c.in_ok-date.ensures
