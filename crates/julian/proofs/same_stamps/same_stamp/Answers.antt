-- `julian::same_stamps::same_stamp` meets its contract. Assumes nothing.
use borrow.Author.Tests.{eq-eqb, ne_eqb}
use Rattle.julian.specs.same_stamps.Same.{same}
use Rattle.julian.proofs.same_stamps.same_stamp.Goals as goal

pub returns-then-a-b : goal.returns-then-a-b
unfolding same
returns-then-a-b c = rw (ne_eqb _ _ c.if-a-b.true)

pub returns-then-a-b-2 : goal.returns-then-a-b-2
unfolding same
returns-then-a-b-2 c = rw (eq-eqb _ _ c.if-a-b.false, ne_eqb _ _ c.if-a-b-2.true)

pub returns : goal.returns
unfolding same
returns c = rw (eq-eqb _ _ c.if-a-b.false, eq-eqb _ _ c.if-a-b-2.false)
