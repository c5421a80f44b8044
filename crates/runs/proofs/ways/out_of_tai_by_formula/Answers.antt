-- `runs::ways::out_of_tai_by_formula` meets its contract. Assumes nothing.
use Rattle.std.proofs.Common.{sym, ap, ◌∙◌}
use Rattle.refusals.specs.Outcome.{outcome, seen}
use Rattle.refusals.proofs.Handed.{handed_on}
use Rattle.julian.specs.shifts.Shifts.{plus, converted}
use Rattle.runs.proofs.ways.Steps.{out-shifted, out-tcg, out_none}
use Rattle.runs.proofs.ways.out_of_tai_by_formula.Goals as goal

pub returns-then-is_shifted : goal.returns-then-is_shifted
returns-then-is_shifted c rows =
    let a = c.args in
    c.shifted.ensures ∙ ap (λ x. converted (plus x) a.jd) c.days_out_of_tai.ensures
    ∙ out-shifted rows a.jd a.to (sym c.is_shifted.ensures ∙ c.if-is_shifted.true)

pub returns-in_err-tcg : goal.returns-in_err-tcg
unfolding seen
returns-in_err-tcg c rows =
    handed_on _ _ c.from_residual.ensures.1 ∙ c.in_err-tcg.ensures
    ∙ out-tcg rows c.args.jd c.args.to c.requires (sym c.is_shifted.ensures ∙ c.if-is_shifted.false) c.if-to-eq-TCG.true

pub returns-then-to-eq-TCG : goal.returns-then-to-eq-TCG
unfolding outcome seen
returns-then-to-eq-TCG c rows =
    c.in_ok-tcg.ensures
    ∙ out-tcg rows c.args.jd c.args.to c.requires (sym c.is_shifted.ensures ∙ c.if-is_shifted.false) c.if-to-eq-TCG.true

pub returns : goal.returns
unfolding outcome
returns c rows =
    out_none rows c.args.jd c.args.to c.requires (sym c.is_shifted.ensures ∙ c.if-is_shifted.false) c.if-to-eq-TCG.false
