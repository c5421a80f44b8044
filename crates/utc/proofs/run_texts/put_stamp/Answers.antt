-- `utc::run_texts::put_stamp` meets its contract: the day that is kept, or the single call, writes into the stamp's part. Assumes nothing.
use Prim.Native.Nat.{◌+◌, ◌*◌, ◌-◌}
use native.Mathlib.Omega.{arith}
use mathlib.Core.Path.{subst}
use mathlib.Core.Bool.{Bool}
use borrow.Rule.Slice.PartMut.{mid_of}
use Rattle.leap_table.specs.rows.Announced.{rows_of}
use Rattle.utc.specs.run_texts.Kept.{PutsByDay}
use Rattle.utc.proofs.run_texts.KeptDays.{short-beside}
use Rattle.utc.proofs.run_texts.Puts.{part_room, part-unchanged, stamp-placed, stamp-placed-again}
use Rattle.utc.proofs.run_texts.put_stamp.Goals as goal

pub returns-then-put_kept : goal.returns-then-put_kept
unfolding PutsByDay
returns-then-put_kept c =
    let a = c.args in
    let size = 27 * a.i + 27 - 27 * a.i in
    let rows = rows_of a.table.now in (
      stamp-placed a.textForm rows a.jd1s.now a.jd2s.now a.texts.now a.i size c.stamp_of-jd.result _ _ (omega arith)
          c.stamp_of-jd.ensures c.requires.0
          (short-beside _ _ _ (part_room a.texts.now (27 * a.i) size (omega arith) c.requires.0)
          (subst (λ (b : Bool). PutsByDay a.textForm c.stamp_of-jd.result c.next_day-next.result (mid_of (27 * a.i) size a.texts.now) b
          c.put_kept.new.out)
          c.if-put_kept.true c.put_kept.ensures rows c.next_day-next.ensures)),
      c.next_day-next.ensures,
    )

pub returns : goal.returns
unfolding PutsByDay
returns c =
    let a = c.args in
    let size = 27 * a.i + 27 - 27 * a.i in
    let rows = rows_of a.table.now in (
      stamp-placed-again a.textForm rows a.jd1s.now a.jd2s.now a.texts.now _ a.i size c.stamp_of-jd.result _ _
          (omega arith) c.stamp_of-jd.ensures c.requires.0
          (part-unchanged a.texts.now (27 * a.i) size _ (omega arith)
          (subst (λ (b : Bool). PutsByDay a.textForm c.stamp_of-jd.result c.next_day-next.result (mid_of (27 * a.i) size a.texts.now) b
          c.put_kept.new.out)
          c.if-put_kept.false c.put_kept.ensures))
          c.put_single-beside.ensures,
      c.next_day-next.ensures,
    )
