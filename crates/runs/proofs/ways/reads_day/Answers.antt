-- `runs::ways::reads_day` meets its contract. Assumes nothing.
use borrow.Author.Tests.{eq-eqb, ne_eqb}
use Rattle.runs.specs.ways.Asked.{reads_day}
use Rattle.runs.proofs.ways.reads_day.Goals as goal

pub returns-then-from-eq-UTC : goal.returns-then-from-eq-UTC
unfolding reads_day
returns-then-from-eq-UTC c = rw (eq-eqb c.args.from 0 c.if-from-eq-UTC.true)

pub returns : goal.returns
unfolding reads_day
returns c = rw (ne_eqb c.args.from 0 c.if-from-eq-UTC.false)
