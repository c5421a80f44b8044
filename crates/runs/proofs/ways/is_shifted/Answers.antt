-- `runs::ways::is_shifted` meets its contract. Assumes nothing.
use borrow.Author.Tests.{eq-eqb, ne_eqb}
use Rattle.runs.specs.ways.Asked.{is_shifted}
use Rattle.runs.proofs.ways.is_shifted.Goals as goal

pub returns-then-n-eq-TT : goal.returns-then-n-eq-TT
unfolding is_shifted
returns-then-n-eq-TT c = rw (eq-eqb c.args.n 3 c.if-n-eq-TT.true)

pub returns : goal.returns
unfolding is_shifted
returns c = rw (ne_eqb c.args.n 3 c.if-n-eq-TT.false)
