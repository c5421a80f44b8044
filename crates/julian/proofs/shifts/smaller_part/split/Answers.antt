-- `julian::shifts::smaller_part::split` meets its contract. Assumes nothing.
use mathlib.Core.Path.{sym, ◌∙◌}
use mathlib.Core.Bool.{true, false}
use Rattle.julian.proofs.shifts.SmallerPart.{parts_is}
use Rattle.julian.proofs.shifts.smaller_part.split.Goals as goal

pub returns-then-first_is_larger : goal.returns-then-first_is_larger
returns-then-first_is_larger c = parts_is c.args.jd true (sym c.if-first_is_larger.true ∙ c.first_is_larger.ensures)

pub returns-else-first_is_larger : goal.returns-else-first_is_larger
returns-else-first_is_larger c = parts_is c.args.jd false (sym c.if-first_is_larger.false ∙ c.first_is_larger.ensures)
