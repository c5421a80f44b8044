-- `c_answers::put` meets its contract. Assumes nothing.
use Rattle.c_answers.proofs.Deliveries.{no_room, copied}
use Rattle.c_answers.proofs.put.Goals as goal

pub returns-then-out-all : goal.returns-then-out-all
returns-then-out-all c = no_room c.args.all.now c.refused.type_inv c.if-out-all.true c.refused.ensures

pub returns : goal.returns
returns c =
    let e = c.copy.ensures.copied c.if-out-all.false in
    copied c.args.all.now c.args.out.now _ _ e.0 c.requires e.1 c.if-out-all.false
