-- `runs::by_formula::is_number` meets its contract. Assumes nothing.
use Rattle.runs.proofs.by_formula.Judged.{number-pattern}
use Rattle.runs.proofs.by_formula.is_number.Goals as goal

pub returns : goal.returns
returns c = number-pattern c.args.n
