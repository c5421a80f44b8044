-- `utc::text::put_text` meets its contract. Assumes nothing.
use mathlib.Core.Path.{refl, sym, ◌∙◌}
use Rattle.utc.proofs.text.Laws.{basic-is, of_date}
use borrow.Author.Rules.{rules}
use Rattle.utc.proofs.text.put_text.Goals as goal

pub returns-then-is_basic : goal.returns-then-is_basic
returns-then-is_basic c =
    of_date c.args.date c.args.time c.negative-negative.result c.size-size.result _ _ _ _
    (search rules) c.negative-negative.ensures c.size-size.ensures
    (basic-is c.negative-negative.result c.size-size.result (sym c.is_basic.ensures ∙ c.if-is_basic.true))
    c.put_basic.ensures

pub returns : goal.returns
returns c =
    of_date c.args.date c.args.time c.negative-negative.result c.size-size.result _ _ _ _
    (search rules) c.negative-negative.ensures c.size-size.ensures refl c.put_wide.ensures
