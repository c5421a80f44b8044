-- `expanded::put_text_expanded` meets its contract. Assumes nothing.
use mathlib.Core.Path.{sym, ◌∙◌}
use mathlib.Core.Bool.{true, false}
use Rattle.utc.proofs.text.ExpandedLaws.{of_expanded}
use borrow.Author.Rules.{rules}
use Rattle.utc.proofs.text.expanded.put_text_expanded.Goals as goal

pub returns-then-is_basic : goal.returns-then-is_basic
returns-then-is_basic c =
    of_expanded c.args.date c.args.time c.negative-negative.result true c.size-size.result _ _ _
    (search rules) c.negative-negative.ensures c.size-size.ensures
    (sym c.is_basic.ensures ∙ c.if-is_basic.true) c.put_basic.ensures

pub returns : goal.returns
returns c =
    of_expanded c.args.date c.args.time c.negative-negative.result false c.size-size.result _ _ _
    (search rules) c.negative-negative.ensures c.size-size.ensures
    (sym c.is_basic.ensures ∙ c.if-is_basic.false) c.put_signed.ensures
