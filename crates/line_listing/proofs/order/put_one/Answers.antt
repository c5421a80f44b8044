-- `line_listing::order::put_one` meets its contract. Assumes nothing.
use Rattle.line_listing.proofs.order.Loops.{one-ends}
use Rattle.line_listing.proofs.order.put_one.Goals as goal

pub returns : goal.returns
returns c =
    let a = c.args in
    one-ends a.numbers.now a.p a.to a.out.now a.k c.requires c.put_nth_u32.new.out c.put_nth_u32.ensures
    c.put_behind.new.out c.put_behind.result c.put_behind.ensures
