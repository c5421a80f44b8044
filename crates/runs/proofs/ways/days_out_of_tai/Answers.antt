-- `runs::ways::days_out_of_tai` meets its contract. Assumes nothing.
use borrow.Author.Tests.{eq-eqb, ne_eqb}
use Rattle.runs.specs.ways.Asked.{days_out_of_tai}
use Rattle.runs.proofs.ways.days_out_of_tai.Goals as goal

pub returns-then-to-eq-TT : goal.returns-then-to-eq-TT
unfolding days_out_of_tai
returns-then-to-eq-TT c = rw (c.tt_days.ensures, eq-eqb c.args.to 3 c.if-to-eq-TT.true)

pub returns-else-to-eq-TT : goal.returns-else-to-eq-TT
unfolding days_out_of_tai
returns-else-to-eq-TT c = rw (c.gps_days.ensures, ne_eqb c.args.to 3 c.if-to-eq-TT.false)
