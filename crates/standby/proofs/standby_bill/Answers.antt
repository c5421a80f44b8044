-- `standby::standby_bill` meets its contract: the table is tested, then the start, the end and the bill. Assumes nothing.
use mathlib.Core.Path.{◌≡◌, sym, ◌∙◌}
use mathlib.Core.List.{List}
use Prim.Native.Nat.{ℕ}
use Rattle.refusals.specs.Outcome.{answer, refusal, onward, seen}
use Rattle.refusals.proofs.Handed.{handed_on}
use Rattle.leap_table.specs.rows.Table.{Row}
use Rattle.leap_table.specs.rows.Announced.{rows_of}
use Rattle.leap_table.proofs.rows.TablesTaken.{table_answered, call_refused, call_taken}
use Rattle.standby.specs.declared.UtcTime.{UtcTime}
use Rattle.standby.specs.Times.{instant}
use Rattle.standby.specs.Bills.{bill_between, standby_bill}
use Rattle.standby.proofs.standby_bill.Goals as goal

-- ---- the ladder
module _ (rows : List Row) (s e : UtcTime) (rate a b : ℕ) where
  start-refused : (k : ℕ) → refusal k ≡ instant rows s → refusal k ≡ standby_bill rows s e rate a b
  unfolding standby_bill onward
  start-refused k p = rw (← p)

  end_refused : (i k : ℕ) → answer i ≡ instant rows s → refusal k ≡ instant rows e → refusal k ≡ standby_bill rows s e rate a b
  unfolding standby_bill onward
  end_refused i k p q = rw (← p, ← q)

  both-given : (i j : ℕ) → answer i ≡ instant rows s → answer j ≡ instant rows e → bill_between i j rate a b ≡ standby_bill rows s e rate a b
  unfolding standby_bill onward
  both-given i j p q = rw (← p, ← q)

pub returns-in_err-judge_table : goal.returns-in_err-judge_table
returns-in_err-judge_table c =
    handed_on _ _ c.from_residual.ensures.1 ∙ call_refused c.args.table c.judge_table.result c.judge_table.ensures _ _ c.in_err-judge_table.was

pub instant_of-requires : goal.instant_of-requires
instant_of-requires c = sym (table_answered c.args.table c.judge_table.result c.judge_table.ensures _ c.in_ok-judge_table.was)

pub instant_of-requires-2 : goal.instant_of-requires-2
instant_of-requires-2 c = sym (table_answered c.args.table c.judge_table.result c.judge_table.ensures _ c.in_ok-judge_table.was)

pub returns-in_err-from : goal.returns-in_err-from
unfolding seen
returns-in_err-from c =
    let a = c.args in
    handed_on _ _ c.from_residual-in_err-from.ensures.1
    ∙ start-refused (rows_of a.table) a.start a.end a.rate a.first_metres a.second_metres _ c.in_err-from.ensures.says
    ∙ call_taken a.table c.judge_table.result c.judge_table.ensures (λ rows. standby_bill rows a.start a.end a.rate a.first_metres a.second_metres) _
    c.in_ok-judge_table.was

pub returns-in_err-to : goal.returns-in_err-to
unfolding seen
returns-in_err-to c =
    let a = c.args in
    handed_on _ _ c.from_residual-in_err-to.ensures.1
    ∙ end_refused (rows_of a.table) a.start a.end a.rate a.first_metres a.second_metres _ _ c.in_ok-from.ensures.says c.in_err-to.ensures.says
    ∙ call_taken a.table c.judge_table.result c.judge_table.ensures (λ rows. standby_bill rows a.start a.end a.rate a.first_metres a.second_metres) _
    c.in_ok-judge_table.was

pub bill_between-requires : goal.bill_between-requires
bill_between-requires c = (c.instant_of.ensures.small _ c.in_ok-from.was, c.instant_of-2.ensures.small _ c.in_ok-to.was)

pub returns : goal.returns
unfolding seen
returns c =
    let a = c.args in
    c.bill_between.ensures
    ∙ both-given (rows_of a.table) a.start a.end a.rate a.first_metres a.second_metres _ _ c.in_ok-from.ensures.says c.in_ok-to.ensures.says
    ∙ call_taken a.table c.judge_table.result c.judge_table.ensures (λ rows. standby_bill rows a.start a.end a.rate a.first_metres a.second_metres) _
    c.in_ok-judge_table.was
