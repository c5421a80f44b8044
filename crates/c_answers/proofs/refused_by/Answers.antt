-- `c_answers::refused_by` meets its contract. Assumes nothing.
use Rattle.std.proofs.Common.{rules}
use Rattle.c_answers.proofs.Deliveries.{minus_is}
use Rattle.c_answers.proofs.refused_by.Goals as goal

pub returns : goal.returns
returns c = minus_is _ (search rules)
