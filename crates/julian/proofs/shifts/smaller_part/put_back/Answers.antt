-- `julian::shifts::smaller_part::put_back` meets its contract. Assumes nothing.
use mathlib.Core.Path.{sym, ◌∙◌}
use mathlib.Core.Bool.{true, false}
use Rattle.julian.proofs.shifts.SmallerPart.{put_is}
use Rattle.julian.proofs.shifts.smaller_part.put_back.Goals as goal

pub returns-then-first_is_larger : goal.returns-then-first_is_larger
returns-then-first_is_larger c = put_is c.args.jd c.args.x true (sym c.if-first_is_larger.true ∙ c.first_is_larger.ensures)

pub returns-else-first_is_larger : goal.returns-else-first_is_larger
returns-else-first_is_larger c = put_is c.args.jd c.args.x false (sym c.if-first_is_larger.false ∙ c.first_is_larger.ensures)
