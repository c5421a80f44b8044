-- `capi::summary_calls::ct_line_look` meets its contract. Assumes nothing.
use native.Mathlib.Omega.{arith}
use mathlib.Core.Path.{sym, ap, ◌∙◌}
use mir.Syntax.{w64}
use mir.Facts.{to_z_pos}
use Rattle.refusals.proofs.Handed.{answered, handed}
use Rattle.leap_table.specs.rows.Announced.{rows_of}
use Rattle.c_answers.specs.Delivery.{code}
use Rattle.c_answers.proofs.Deliveries.{code-back}
use Rattle.c_answers.proofs.table.Laws.{not-refused, not_taken, gone-on}
use Rattle.capi.specs.SummaryDelivery.{look_at}
use Rattle.capi.proofs.Tables.{is-taken}
use Rattle.capi.proofs.Summaries as X
use Rattle.capi.proofs.summary_calls.ct_line_look.Goals as goal

pub returns-in-Err : goal.returns-in-Err
returns-in-Err c =
    code-back c.refused.type_inv ∙ c.refused.ensures
    ∙ ap code (sym (not_taken (λ (u : Unit). rows_of c.announced_rows_at-rows.result) c.judge_table.result (c.judge_table.ensures
    ∙ c.announced_rows_at-rows.ensures) (look_at c.args.known c.args.runs.now c.args.jd1.now c.args.jd2.now c.args.numbers.now) _ c.in-Err.is))

pub returns-in-Err-judge_runs : goal.returns-in-Err-judge_runs
returns-in-Err-judge_runs c =
    code-back c.refused-in-Err-judge_runs.type_inv ∙ c.refused-in-Err-judge_runs.ensures
    ∙ ap code (X.look_refused c.args.known c.args.runs.now c.args.jd1.now c.args.jd2.now c.args.numbers.now (rows_of c.announced_rows_at-rows.result)
    c.judge_runs.result c.judge_runs.ensures _ c.in-Err-judge_runs.is
    ∙ gone-on (λ (u : Unit). rows_of c.announced_rows_at-rows.result) c.judge_table.result (c.judge_table.ensures ∙ c.announced_rows_at-rows.ensures)
    (look_at c.args.known c.args.runs.now c.args.jd1.now c.args.jd2.now c.args.numbers.now) tt
    (not-refused c.judge_table.result c.in_default.not-Err))

pub returns-in-Ok : goal.returns-in-Ok
unfolding code
returns-in-Ok c =
    let whole = to_z_pos w64 {n = c.in-Ok.n} (omega arith) in
    whole
    ∙ ap code (sym (answered c.in-Ok.is) ∙ c.look.ensures
    ∙ X.taken-on c.announced_rows_at-rows.result (is-taken _ c.announced_rows_at-rows.result c.judge_table.result c.judge_table.ensures
    c.announced_rows_at-rows.ensures c.in_default.not-Err) _
    ∙ X.look_taken c.args.known c.args.runs.now c.args.jd1.now c.args.jd2.now c.args.numbers.now (rows_of c.announced_rows_at-rows.result)
    c.judge_runs.result c.judge_runs.ensures
    c.in_default-judge_runs.not-Err _ _ _ _ _ c.u64_at.ensures c.u64_at-2.ensures c.run_at.ensures c.run_at-2.ensures c.run_at-3.ensures
    ∙ gone-on (λ (u : Unit). rows_of c.announced_rows_at-rows.result) c.judge_table.result (c.judge_table.ensures ∙ c.announced_rows_at-rows.ensures)
    (look_at c.args.known c.args.runs.now c.args.jd1.now c.args.jd2.now c.args.numbers.now) tt
    (not-refused c.judge_table.result c.in_default.not-Err))

pub returns-in-Err-look : goal.returns-in-Err-look
returns-in-Err-look c =
    code-back c.refused-in-Err-look.type_inv ∙ c.refused-in-Err-look.ensures
    ∙ ap code (sym (handed c.in-Err-look.is) ∙ c.look.ensures
    ∙ X.taken-on c.announced_rows_at-rows.result (is-taken _ c.announced_rows_at-rows.result c.judge_table.result c.judge_table.ensures
    c.announced_rows_at-rows.ensures c.in_default.not-Err) _
    ∙ X.look_taken c.args.known c.args.runs.now c.args.jd1.now c.args.jd2.now c.args.numbers.now (rows_of c.announced_rows_at-rows.result)
    c.judge_runs.result c.judge_runs.ensures
    c.in_default-judge_runs.not-Err _ _ _ _ _ c.u64_at.ensures c.u64_at-2.ensures c.run_at.ensures c.run_at-2.ensures c.run_at-3.ensures
    ∙ gone-on (λ (u : Unit). rows_of c.announced_rows_at-rows.result) c.judge_table.result (c.judge_table.ensures ∙ c.announced_rows_at-rows.ensures)
    (look_at c.args.known c.args.runs.now c.args.jd1.now c.args.jd2.now c.args.numbers.now) tt
    (not-refused c.judge_table.result c.in_default.not-Err))
