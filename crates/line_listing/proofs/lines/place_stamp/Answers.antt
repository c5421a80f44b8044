-- `lines::place_stamp` meets its contract: refused, or by its UTC. Assumes nothing.
use Rattle.std.proofs.Common.{refl}
use Rattle.line_listing.proofs.lines.Line.{told-as, refused-is, refused_none, ordered-is, ordered-none}
use Rattle.line_listing.proofs.lines.place_stamp.Goals as goal

pub returns-then-number-ne0-clause-told_at : goal.returns-then-number-ne0-clause-told_at
returns-then-number-ne0-clause-told_at c =
    let n = c.if-number-ne0.true in
    told-as (refused-is c.args.sentences _ _ c.args.tai c.args.date c.args.text.now _ n) (refused_none _ _ _ n)
    (record { placed = c.place_refused-next.ensures.placed; counted = refl })

pub returns-clause-told_at : goal.returns-clause-told_at
returns-clause-told_at c =
    let n = c.if-number-ne0.false in
    told-as (ordered-is c.args.sentences _ _ c.args.tai c.args.date c.args.text.now _ n) (ordered-none _ _ _ n) c.place_text.ensures.told_at
