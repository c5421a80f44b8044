-- `floats::floor` meets its contract: one comes off the whole part exactly where x is below it.
use Rattle.std.proofs.Common.{not, T, pos, ap, ◌∙◌, subst, false}
use lib.Ieee.{Float, fin, binary64, lt, sub, of_bits}
use Rattle.floats.proofs.Laws.{yes, no}
use Rattle.floats.proofs.Below.{one-off, none-off}
use Rattle.floats.proofs.floor.Goals as goal

pub returns-then-x-t : goal.returns-then-x-t
unfolding of_bits
returns-then-x-t c =
    let e = c.trunc-t.ensures in
    ap (λ (v : Float). sub binary64 v (fin false 1 (pos 0))) e
    ∙ one-off c.args.x (yes c.well_formed.0.1) (subst (λ (v : Float). T (lt c.args.x v)) e (yes c.if-x-t.true))

pub returns-else-x-t : goal.returns-else-x-t
returns-else-x-t c =
    let e = c.trunc-t.ensures in
    e ∙ none-off c.args.x (yes c.well_formed.0.1) (subst (λ (v : Float). T (not (lt c.args.x v))) e (no c.if-x-t.false))
