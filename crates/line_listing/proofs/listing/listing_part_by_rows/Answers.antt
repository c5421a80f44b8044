-- `listing::listing_part_by_rows` meets its contract: refused, or one of four parts. Assumes nothing.
use Rattle.std.proofs.Common.{◌+◌, ◌/◌, ◌<◌, length, refl}
use native.Mathlib.Omega.{arith}
use Rattle.refusals.specs.Outcome.{number_said}
use Rattle.leap_table.specs.rows.Announced.{rows_of}
use Rattle.line_listing.specs.lines.StampLine.{stamps}
use Rattle.line_listing.specs.lines.Parts.{lines_of_order}
use Rattle.line_listing.proofs.listing.Steps.{at_head, at_lines, at_end, at_nothing, room_for, none-stepped, call-refused, call-done}
use Rattle.line_listing.proofs.listing.listing_part_by_rows.Goals as goal

pub returns-in_err-judge_listing : goal.returns-in_err-judge_listing
returns-in_err-judge_listing c =
    let a = c.args in
    call-refused a.sentences (rows_of a.table.now) a.gps a.tai a.utc (stamps a.jd1s.now a.jd2s.now a.numbers.now a.first a.second)
    a.order.now a.line a.textless a.out.now _ _ c.in_err-judge_listing.ensures c.from_residual.ensures.1

pub head_step-requires : goal.head_step-requires
unfolding number_said
head_step-requires c = room_for c.args.sentences _ c.args.order.now c.args.line _ _ c.in_ok-judge_listing.ensures refl

pub returns-then-line-eq0 : goal.returns-then-line-eq0
unfolding number_said
returns-then-line-eq0 c =
    let a = c.args in
    let rows = rows_of a.table.now in
    let all = stamps a.jd1s.now a.jd2s.now a.numbers.now a.first a.second in
    call-done a.sentences rows a.gps a.tai a.utc all a.order.now a.line a.textless a.out.now _ _ _ c.in_ok-judge_listing.ensures
    (at_head a.sentences rows a.gps a.tai a.utc all a.order.now a.line a.textless _ c.if-line-eq0.true) c.head_step.ensures

pub lines_step-requires : goal.lines_step-requires
unfolding lines_of_order
lines_step-requires c = (omega arith, omega arith)

pub returns-then-line-lines : goal.returns-then-line-lines
unfolding number_said lines_of_order
returns-then-line-lines c =
    let a = c.args in
    let rows = rows_of a.table.now in
    let all = stamps a.jd1s.now a.jd2s.now a.numbers.now a.first a.second in
    call-done a.sentences rows a.gps a.tai a.utc all a.order.now a.line a.textless a.out.now _ _ _ c.in_ok-judge_listing.ensures
    (at_lines a.sentences rows a.gps a.tai a.utc all a.order.now a.line a.textless _ c.if-line-eq0.false (omega (arith, c.if-line-lines.true)))
    c.lines_step.ensures

pub overflow_add-lines : goal.overflow_add-lines
overflow_add-lines c = omega (arith, c.well_formed)

pub end_step-requires : goal.end_step-requires
unfolding number_said
end_step-requires c =
    let room = room_for c.args.sentences _ c.args.order.now c.args.line _ _ c.in_ok-judge_listing.ensures refl in
    (omega (arith, c.well_formed), omega (arith, room))

pub returns-then-line-lines-2 : goal.returns-then-line-lines-2
unfolding number_said lines_of_order
returns-then-line-lines-2 c =
    let a = c.args in
    let rows = rows_of a.table.now in
    let all = stamps a.jd1s.now a.jd2s.now a.numbers.now a.first a.second in
    call-done a.sentences rows a.gps a.tai a.utc all a.order.now a.line a.textless a.out.now _ _ _ c.in_ok-judge_listing.ensures
    (at_end a.sentences rows a.gps a.tai a.utc all a.order.now a.line a.textless _ c.if-line-lines-2.true) c.end_step.ensures

pub returns : goal.returns
unfolding number_said lines_of_order
returns c =
    let a = c.args in
    let rows = rows_of a.table.now in
    let all = stamps a.jd1s.now a.jd2s.now a.numbers.now a.first a.second in
    let far : length a.order.now / 4 + 1 < a.line = omega (arith, c.if-line-lines-2.false, c.if-line-lines.false) in
    call-done a.sentences rows a.gps a.tai a.utc all a.order.now a.line a.textless a.out.now _ _ _ c.in_ok-judge_listing.ensures
    (at_nothing a.sentences rows a.gps a.tai a.utc all a.order.now a.line a.textless _ far) (none-stepped a.line a.textless a.out.now)
