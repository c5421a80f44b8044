-- `scales::gps_tai::gps_to_tai` meets its contract. Assumes nothing.
use Rattle.std.proofs.Common.{ap, ◌∙◌}
use Rattle.std.specs.Prelude.{Float}
use Rattle.refusals.specs.Outcome.{seen}
use Rattle.julian.specs.shifts.Shifts.{plus, converted}
use Rattle.julian.proofs.shifts.Shifted.{shifted-refused, shifted-answered}
use Rattle.scales.specs.Conversions.{answer_of}
use Rattle.scales.proofs.gps_tai.gps_to_tai.Goals as goal

pub returns-in_err-later : goal.returns-in_err-later
unfolding answer_of converted
returns-in_err-later c =
    shifted-refused (λ s. s.0) (plus c.gps_days.result) _ _ _ _ _ c.finite_jd.ensures c.later.ensures c.in_err-later.was c.from_residual.ensures.1
    ∙ ap (λ (x : Float). converted (plus x) c.args.gps.0) c.gps_days.ensures

pub returns : goal.returns
unfolding seen answer_of converted
returns c =
    shifted-answered (plus c.gps_days.result) _ _ _ _ c.finite_jd.ensures c.later.ensures c.in_ok-later.was
    ∙ ap (λ (x : Float). converted (plus x) c.args.gps.0) c.gps_days.ensures
