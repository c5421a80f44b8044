-- `sum_fractions` meets its contract: one turn carries no more than a day. Assumes nothing.
use Rattle.julian.proofs.day_number.Steps.{few-carry}
use Rattle.julian.proofs.day_number.sum_fractions.Goals as goal

pub add_fraction-requires : goal.add_fraction-requires
add_fraction-requires c = few-carry _ _ c.add_fraction-one.result c.add_fraction-one.ensures
