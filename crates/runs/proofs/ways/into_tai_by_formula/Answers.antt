-- `runs::ways::into_tai_by_formula` meets its contract. Assumes nothing.
use Rattle.std.proofs.Common.{sym, ap, ◌∙◌}
use Rattle.refusals.specs.Outcome.{outcome, seen}
use Rattle.refusals.proofs.Handed.{handed_on}
use Rattle.julian.specs.shifts.Shifts.{plus, converted}
use Rattle.runs.proofs.ways.Steps.{into-shifted, into-tcg, into-none}
use Rattle.runs.proofs.ways.into_tai_by_formula.Goals as goal

pub returns-then-is_shifted : goal.returns-then-is_shifted
returns-then-is_shifted c rows =
    let a = c.args in
    c.shifted.ensures ∙ ap (λ x. converted (plus x) a.jd) c.days_into_tai.ensures
    ∙ into-shifted rows a.jd a.from (sym c.is_shifted.ensures ∙ c.if-is_shifted.true)

pub returns-in_err-tai : goal.returns-in_err-tai
unfolding seen
returns-in_err-tai c rows =
    handed_on _ _ c.from_residual.ensures.1 ∙ c.in_err-tai.ensures
    ∙ into-tcg rows c.args.jd c.args.from c.requires (sym c.is_shifted.ensures ∙ c.if-is_shifted.false) c.if-from-eq-TCG.true

pub returns-then-from-eq-TCG : goal.returns-then-from-eq-TCG
unfolding outcome seen
returns-then-from-eq-TCG c rows =
    c.in_ok-tai.ensures
    ∙ into-tcg rows c.args.jd c.args.from c.requires (sym c.is_shifted.ensures ∙ c.if-is_shifted.false) c.if-from-eq-TCG.true

pub returns : goal.returns
unfolding outcome
returns c rows =
    into-none rows c.args.jd c.args.from c.requires (sym c.is_shifted.ensures ∙ c.if-is_shifted.false) c.if-from-eq-TCG.false
