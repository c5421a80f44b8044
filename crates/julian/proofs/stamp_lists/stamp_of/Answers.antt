-- `julian::stamp_lists::stamp_of` meets its contract. Assumes nothing.
use mathlib.Core.Path.{◌∙◌}
use Rattle.julian.proofs.stamp_lists.Reading.{stamp-is}
use Rattle.julian.proofs.stamp_lists.stamp_of.Goals as goal

pub returns : goal.returns
returns c =
    let a = c.args in
    c.new.ensures ∙ stamp-is a.jd1s.now a.jd2s.now a.i c.nth_u64.result
    c.nth_u64-2.result c.from_bits-x.result c.from_bits-y.result
    c.nth_u64.ensures c.nth_u64-2.ensures c.from_bits-x.ensures
    c.from_bits-y.ensures
