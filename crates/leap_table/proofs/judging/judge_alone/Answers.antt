-- `leap_table::judging::judge_alone` meets its contract. Assumes nothing.
use Rattle.std.proofs.Common.{sym}
use Rattle.refusals.specs.Outcome.{outcome}
use Rattle.leap_table.proofs.judging.judge_alone.Goals as goal

pub returns-then-in_every_month : goal.returns-then-in_every_month
unfolding outcome
returns-then-in_every_month c = sym (c.in_every_month.ensures c.if-in_every_month.true)
