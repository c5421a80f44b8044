-- `line_up::next_accepted` meets its contract. Assumes nothing.
use Rattle.line_up.proofs.Nexts.{next-found, next-goes, next-ends}
use Rattle.line_up.proofs.next_accepted.Goals as goal

pub returns-then-numbers-i-eq0 : goal.returns-then-numbers-i-eq0
returns-then-numbers-i-eq0 c = next-found _ _ _ _ c.requires c.loop-i.invariant c.loop-i-test.true c.if-numbers-i-eq0.true

pub loop-i-preserved : goal.loop-i-preserved
loop-i-preserved c = next-goes _ _ _ _ c.requires c.loop-i.invariant c.loop-i-test.true c.if-numbers-i-eq0.false

pub returns : goal.returns
returns c = next-ends _ _ _ _ c.requires c.loop-i.invariant c.loop-i-test.false
