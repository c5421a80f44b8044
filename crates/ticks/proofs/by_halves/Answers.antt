-- `ticks::by_halves` meets its contract: the split product is the whole one's. Assumes nothing.
use mathlib.Core.Path.{sym}
use borrow.Author.Rules.{rules}
use Rattle.ticks.proofs.Halves.{halves}
use Rattle.ticks.proofs.by_halves.Goals as goal

pub returns : goal.returns
returns c = sym (halves c.args.a c.args.c c.args.d (search rules))
