-- `leap_table::walk::offsets_at_0h` meets its contract: all is judged before a place is written. Assumes nothing.
use Rattle.std.proofs.Common.{◌/◌, ◌%◌, eqb, length, sym, ◌∙◌, arith}
use Rattle.refusals.proofs.Handed.{answered, handed, handed_on}
use Rattle.leap_table.specs.rows.Announced.{rows_of}
use Rattle.leap_table.specs.walk.Walk.{triple_offset}
use Rattle.leap_table.specs.judging.Lists.{dates_from, triple_at}
use Rattle.leap_table.specs.walk.Call.{as_floats}
use Rattle.leap_table.proofs.judging.Judges.{how_many}
use Rattle.leap_table.proofs.walk.Goods.{all-good}
use Rattle.leap_table.proofs.walk.Floats.{float-length}
use Rattle.leap_table.proofs.walk.Calls.{passed, refused-call, walked_call}
use Rattle.leap_table.proofs.walk.offsets_at_0h.Goals as goal

pub returns-in_err-judge_numbers : goal.returns-in_err-judge_numbers
returns-in_err-judge_numbers c =
    let l = c.args.dates.now in
    refused-call c.args.table (eqb (length l % 3) 0) (dates_from (triple_at l) 0 (length l / 3)) (length c.args.out.now) as_floats c.args.out.now _
    (sym (handed c.in_err-judge_numbers.was) ∙ c.judge_numbers.ensures) _ (handed_on _ _ c.from_residual.ensures.1)

pub walk_all-requires : goal.walk_all-requires
walk_all-requires c =
    let l = c.args.dates.now in
    let p = passed c.args.table (eqb (length l % 3) 0) (dates_from (triple_at l) 0 (length l / 3)) (length c.args.out.now)
    (sym (answered c.in_ok-judge_numbers.was) ∙ c.judge_numbers.ensures) in
    (all-good (triple_at l) (length l / 3) p.good, p.order, omega arith, omega (arith, p.fits, how_many (triple_at l) (length l / 3) 0))

pub returns : goal.returns
returns c =
    let l = c.args.dates.now in
    walked_call c.args.table (eqb (length l % 3) 0) (dates_from (triple_at l) 0 (length l / 3)) (length c.args.out.now) as_floats c.args.out.now
    (sym (answered c.in_ok-judge_numbers.was) ∙ c.judge_numbers.ensures)
    c.walk_all.result _ (length l / 3) c.walk_all.ensures.0 c.walk_all.ensures.1
    (float-length (triple_offset (rows_of c.args.table)) (triple_at l) (length l / 3))
