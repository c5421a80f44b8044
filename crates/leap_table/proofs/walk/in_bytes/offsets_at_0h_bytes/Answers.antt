-- `leap_table::walk::in_bytes::offsets_at_0h_bytes` meets its contract: all is judged before a place is written. Assumes nothing.
use Rattle.std.proofs.Common.{◌*◌, ◌/◌, ◌%◌, eqb, length, sym, ◌∙◌, arith}
use Rattle.refusals.proofs.Handed.{answered, handed, handed_on}
use Rattle.leap_table.specs.rows.Announced.{rows_of}
use Rattle.leap_table.specs.walk.Walk.{triple_offset}
use Rattle.leap_table.specs.judging.Lists.{dates_from, triple_in}
use Rattle.leap_table.specs.walk.Lists.{in_eights}
use Rattle.leap_table.proofs.judging.Judges.{how_many}
use Rattle.leap_table.proofs.walk.Goods.{all-good}
use Rattle.leap_table.proofs.walk.Eights.{eights_length}
use Rattle.leap_table.proofs.walk.Calls.{passed, refused-call, walked_call}
use Rattle.leap_table.proofs.walk.in_bytes.offsets_at_0h_bytes.Goals as goal

pub returns-in_err-judge_bytes : goal.returns-in_err-judge_bytes
returns-in_err-judge_bytes c =
    let l = c.args.dates.now in
    refused-call c.args.table (eqb (length l % 12) 0) (dates_from (triple_in l) 0 (length l / 12)) (length c.args.out.now / 8) in_eights c.args.out.now _
    (sym (handed c.in_err-judge_bytes.was) ∙ c.judge_bytes.ensures) _ (handed_on _ _ c.from_residual.ensures.1)

pub walk_all-requires : goal.walk_all-requires
walk_all-requires c =
    let l = c.args.dates.now in
    let p = passed c.args.table (eqb (length l % 12) 0) (dates_from (triple_in l) 0 (length l / 12)) (length c.args.out.now / 8)
    (sym (answered c.in_ok-judge_bytes.was) ∙ c.judge_bytes.ensures) in
    (all-good (triple_in l) (length l / 12) p.good, p.order, omega arith, omega (arith, p.fits, how_many (triple_in l) (length l / 12) 0))

pub returns : goal.returns
returns c =
    let l = c.args.dates.now in
    walked_call c.args.table (eqb (length l % 12) 0) (dates_from (triple_in l) 0 (length l / 12)) (length c.args.out.now / 8) in_eights c.args.out.now
    (sym (answered c.in_ok-judge_bytes.was) ∙ c.judge_bytes.ensures)
    c.walk_all.result _ (8 * (length l / 12)) c.walk_all.ensures.0 c.walk_all.ensures.1
    (eights_length (triple_offset (rows_of c.args.table)) (triple_in l) (length l / 12))
