-- `carry_day` meets its contract. Assumes nothing.
use lib.Ieee.{of_bits}
use Rattle.julian.proofs.day_number.Steps.{carry_none, carry_over, carry_zero, carry_under}
use Rattle.julian.proofs.day_number.carry_day.Goals as goal

pub returns-then-fraction : goal.returns-then-fraction
unfolding of_bits
returns-then-fraction c = carry_none c.args.kahan c.args.fraction c.if-fraction.true

pub returns-then-rest-2 : goal.returns-then-rest-2
unfolding of_bits
returns-then-rest-2 c = let s = c.args in carry_over s.kahan s.fraction c.if-fraction.false c.if-rest.true
    c.if-rest-2.true

pub returns-else-rest-2 : goal.returns-else-rest-2
unfolding of_bits
returns-else-rest-2 c = let s = c.args in carry_zero s.kahan s.fraction c.if-fraction.false c.if-rest.true
    c.if-rest-2.false

pub returns-else-rest : goal.returns-else-rest
unfolding of_bits
returns-else-rest c = let s = c.args in carry_under s.kahan s.fraction c.if-fraction.false c.if-rest.false
