-- `line_listing::taken::take_run_by_rows` meets its contract. Assumes nothing.
use Rattle.std.proofs.Common.{ℕ, ap, ◌∙◌}
use Rattle.refusals.specs.Outcome.{Outcome, outcome}
use Rattle.refusals.proofs.Handed.{handed_on}
use Rattle.leap_table.specs.rows.Announced.{rows_of}
use Rattle.runs.specs.by_formula.Run.{run_call}
use Rattle.line_listing.proofs.taken.Steps.{call-refused, call-room, call-taken}
use Rattle.line_listing.proofs.taken.take_run_by_rows.Goals as goal

pub returns-in_err-judge_room : goal.returns-in_err-judge_room
returns-in_err-judge_room c =
    let a = c.args in
    ap (λ (o : Outcome ℕ). run_call o a.jd1s.now a.jd2s.now a.numbers.now) (handed_on _ _ c.from_residual.ensures.1)
    ∙ call-refused (rows_of a.table.now) a.scale a.run.now a.jd1s.now a.jd2s.now a.numbers.now c.run_size-all.result
    c.run_size-all.ensures c.judge_room.result c.judge_room.ensures _ c.in_err-judge_room.was

pub take_blocks-requires : goal.take_blocks-requires
take_blocks-requires c =
    let a = c.args in
    call-room (rows_of a.table.now) a.scale a.run.now a.jd1s.now a.jd2s.now a.numbers.now c.run_size-all.result
    c.run_size-all.ensures c.judge_room.result c.judge_room.ensures _ c.in_ok-judge_room.was

pub returns : goal.returns
unfolding outcome
returns c =
    let a = c.args in
    call-taken (rows_of a.table.now) a.scale a.run.now a.jd1s.now a.jd2s.now a.numbers.now c.run_size-all.result
    c.run_size-all.ensures c.judge_room.result c.judge_room.ensures _ c.in_ok-judge_room.was _ _ _ _ c.take_blocks.ensures
