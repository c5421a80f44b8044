-- `julian::order::sooner` meets its contract. Assumes nothing.
use Rattle.julian.specs.order.Order.{sooner}
use Rattle.julian.proofs.order.sooner.Goals as goal

pub returns-then-s-t : goal.returns-then-s-t
unfolding sooner
returns-then-s-t c = rw c.if-s-t.true

pub returns-then-t-s : goal.returns-then-t-s
unfolding sooner
returns-then-t-s c =
    rw (c.if-s-t.false, c.if-t-s.true)

pub returns : goal.returns
unfolding sooner
returns c =
    rw (c.if-s-t.false, c.if-t-s.false)
