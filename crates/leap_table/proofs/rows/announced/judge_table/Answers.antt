-- `leap_table::rows::announced::judge_table` meets its contract: each branch is a test of the definition. Assumes nothing.
use Rattle.std.proofs.Common.{sym, ◌∙◌}
use borrow.Author.Tests.{not-true, not-false}
use Rattle.refusals.specs.Refusal.{refusal_number}
use Rattle.refusals.specs.Outcome.{number_said}
use Rattle.leap_table.proofs.rows.TablesTaken.{sizes-differ, sizes-large, not_rising, not_by_seconds, all_right}
use Rattle.leap_table.proofs.rows.announced.judge_table.Goals as goal

pub returns-then-size-table : goal.returns-then-size-table
unfolding number_said refusal_number
returns-then-size-table c = sizes-differ c.args.table.now c.if-size-table.true

pub returns-then-size-gt16 : goal.returns-then-size-gt16
unfolding number_said refusal_number
returns-then-size-gt16 c = sizes-large c.args.table.now c.if-size-table.false c.if-size-gt16.true

pub returns-then-not-tests : goal.returns-then-not-tests
unfolding number_said refusal_number
returns-then-not-tests c =
    not_rising c.args.table.now c.if-size-table.false c.if-size-gt16.false (sym (not-true _ c.if-not-tests.true) ∙ c.tests_of-tests.ensures.0)

pub returns-then-not-tests-2 : goal.returns-then-not-tests-2
unfolding number_said refusal_number
returns-then-not-tests-2 c =
    not_by_seconds c.args.table.now c.if-size-table.false c.if-size-gt16.false (sym (not-false _ c.if-not-tests.false) ∙ c.tests_of-tests.ensures.0)
    (sym (not-true _ c.if-not-tests-2.true) ∙ c.tests_of-tests.ensures.1)

pub returns : goal.returns
unfolding number_said
returns c =
    all_right c.args.table.now c.if-size-table.false c.if-size-gt16.false (sym (not-false _ c.if-not-tests.false) ∙ c.tests_of-tests.ensures.0)
    (sym (not-false _ c.if-not-tests-2.false) ∙ c.tests_of-tests.ensures.1)
