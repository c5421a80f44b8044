-- `line_listing::order::put_starts` meets its contract. Assumes nothing.
use Rattle.line_listing.proofs.order.Loops.{start-1, start-2, start-3, starts-end}
use Rattle.line_listing.proofs.order.put_starts.Goals as goal

pub put_behind-k-requires : goal.put_behind-k-requires
put_behind-k-requires c =
    let a = c.args in
    start-1 a.numbers.now a.end1 a.end2 a.out.now c.requires

pub put_behind-m-requires : goal.put_behind-m-requires
put_behind-m-requires c =
    let a = c.args in
    start-2 a.numbers.now a.end1 a.end2 a.out.now c.requires c.put_behind-k.new.out c.put_behind-k.result c.put_behind-k.ensures

pub put_behind-requires : goal.put_behind-requires
put_behind-requires c =
    let a = c.args in
    start-3 a.numbers.now a.end1 a.end2 a.out.now c.requires c.put_behind-k.new.out c.put_behind-k.result c.put_behind-k.ensures
    c.put_behind-m.new.out c.put_behind-m.result c.put_behind-m.ensures

pub returns : goal.returns
returns c =
    let a = c.args in
    starts-end a.numbers.now a.end1 a.end2 a.out.now c.requires c.put_behind-k.new.out c.put_behind-k.result
    c.put_behind-k.ensures c.put_behind-m.new.out c.put_behind-m.result c.put_behind-m.ensures
    c.put_behind.new.out c.put_behind.result c.put_behind.ensures
