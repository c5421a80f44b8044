-- `runs::ways::convert_by_formulas` meets its contract: the second step where the first answers. Assumes nothing.
use Rattle.std.proofs.Common.{◌∙◌}
use Rattle.std.proofs.lemmas.Bool.{eqb-false}
use Rattle.refusals.proofs.Handed.{stops, goes}
use Rattle.runs.proofs.ways.Steps.{no_utc, way_by_formulas}
use Rattle.runs.proofs.ways.convert_by_formulas.Goals as goal

pub into_tai_by_formula-requires : goal.into_tai_by_formula-requires
into_tai_by_formula-requires c = (no_utc c.args.from c.args.to c.requires.1.0 (eqb-false _ _ c.requires.0)).0

pub out_of_tai_by_formula-requires : goal.out_of_tai_by_formula-requires
out_of_tai_by_formula-requires c = (no_utc c.args.from c.args.to c.requires.1.0 (eqb-false _ _ c.requires.0)).1

pub returns-in_err-tai : goal.returns-in_err-tai
returns-in_err-tai c rows =
    stops _ _ _ _ c.from_residual.ensures.1 (c.in_err-tai.ensures rows) ∙ way_by_formulas _ _ rows c.args.jd (eqb-false _ _ c.requires.0) c.requires.1.1

pub returns : goal.returns
returns c rows =
    c.out_of_tai_by_formula.ensures rows ∙ goes _ _ _ (c.in_ok-tai.ensures rows)
    ∙ way_by_formulas _ _ rows c.args.jd (eqb-false _ _ c.requires.0) c.requires.1.1
