-- `line_up::merge` meets its contract. Assumes nothing.
use native.Mathlib.Omega.{arith}
use Rattle.std.proofs.Common.{◌∙◌}
use Rattle.numerals.proofs.little_endian.Puts.{put-32-is}
use Rattle.line_up.proofs.Merging.{merging_starts, few-yet, room-yet, merging_goes, merging_ends}
use Rattle.line_up.proofs.merge.Goals as goal

pub loop-p-init : goal.loop-p-init
loop-p-init c =
    merging_starts _ _ _ _ c.requires.low c.requires.high _ _ _ _ _ c.next_accepted-x.ensures c.next_accepted-y.ensures
    c.next_accepted-z.ensures c.pick_of_three-p.ensures

pub overflow_add-k : goal.overflow_add-k
overflow_add-k c =
    let few = few-yet _ _ _ _ c.requires.low c.requires.high _ _ _ _ _ _ _ c.loop-p.invariant c.requires.room c.loop-p-test.true in
    record { fits = omega (arith, c.requires.small, few) }

pub loop-p-smaller : goal.loop-p-smaller
loop-p-smaller c = omega (arith, few-yet _ _ _ _ c.requires.low c.requires.high _ _ _ _ _ _ _ c.loop-p.invariant c.requires.room c.loop-p-test.true)

pub loop-p-preserved : goal.loop-p-preserved
loop-p-preserved c =
    let room = room-yet _ _ _ _ c.requires.low c.requires.high _ _ _ _ _ _ _ c.loop-p.invariant c.requires.room c.loop-p-test.true in
    merging_goes _ _ _ _ c.requires.low c.requires.high _ _ _ _ _ _ _ c.loop-p.invariant c.requires.room c.loop-p-test.true
    _ _ _ _ _ (c.put_nth_u32.ensures ∙ put-32-is _ _ _ room) c.advance-x.ensures c.advance-y.ensures c.advance-z.ensures
    c.pick_of_three-p-in-loop-p.ensures

pub returns : goal.returns
returns c = merging_ends _ _ _ _ c.requires.low c.requires.high _ _ _ _ _ _ _ c.loop-p.invariant c.loop-p-test.false
