-- `capi::list_calls::put_numbers` meets its contract: the numbers before place i are put. Assumes nothing.
use mathlib.Core.Path.{◌∙◌}
use lib.ListN.{get_or}
use lib.IntN.{pos}
use borrow.Author.Rules.{rules}
use Rattle.leap_table.proofs.rows.Naturals.{read-natural}
use Rattle.capi.proofs.Lists.{put-none, put_next}
use Rattle.capi.proofs.list_calls.put_numbers.Goals as goal

pub loop-i-init : goal.loop-i-init
loop-i-init c = put-none _ _ _

pub loop-i-preserved : goal.loop-i-preserved
loop-i-preserved c =
    let a = c.args in
    put_next a.out.now a.from a.numbers.now c.loop-i.i c.natural.result c.loop-i.out _ c.put_nth_u32.ensures c.loop-i.invariant
    (c.natural.ensures.0 ∙ read-natural (get_or a.numbers.now c.loop-i.i (pos 0)) (search rules))
