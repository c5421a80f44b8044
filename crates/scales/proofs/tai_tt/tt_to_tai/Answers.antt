-- `scales::tai_tt::tt_to_tai` meets its contract. Assumes nothing.
use Rattle.std.proofs.Common.{ap, ◌∙◌}
use Rattle.std.specs.Prelude.{Float}
use Rattle.refusals.specs.Outcome.{seen}
use Rattle.julian.specs.shifts.Shifts.{minus, converted}
use Rattle.julian.proofs.shifts.Shifted.{shifted-refused, shifted-answered}
use Rattle.scales.specs.Conversions.{answer_of}
use Rattle.scales.proofs.tai_tt.tt_to_tai.Goals as goal

pub returns-in_err-earlier : goal.returns-in_err-earlier
unfolding answer_of converted
returns-in_err-earlier c =
    shifted-refused (λ s. s.0) (minus c.tt_days.result) _ _ _ _ _ c.finite_jd.ensures c.earlier.ensures c.in_err-earlier.was c.from_residual.ensures.1
    ∙ ap (λ (x : Float). converted (minus x) c.args.tt.0) c.tt_days.ensures

pub returns : goal.returns
unfolding seen answer_of converted
returns c =
    shifted-answered (minus c.tt_days.result) _ _ _ _ c.finite_jd.ensures c.earlier.ensures c.in_ok-earlier.was
    ∙ ap (λ (x : Float). converted (minus x) c.args.tt.0) c.tt_days.ensures
