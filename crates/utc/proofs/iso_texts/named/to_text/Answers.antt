-- `utc::iso_texts::named::to_text` meets its contract: the table is tested, and its rows are read. Assumes nothing.
use Rattle.utc.specs.iso_texts.Named.{form_named}
use Rattle.utc.proofs.iso_texts.EachForm.{table-refused, table_taken}
use Rattle.utc.proofs.iso_texts.named.to_text.Goals as goal

pub returns-in_err-judge_table : goal.returns-in_err-judge_table
returns-in_err-judge_table c = table-refused (form_named c.args.textForm) _ _ _ c.judge_table.ensures c.in_err-judge_table.was c.from_residual.ensures.1

pub returns : goal.returns
returns c = table_taken (form_named c.args.textForm) _ _ _ c.judge_table.ensures c.in_ok-judge_table.was c.to_text_by_rows.ensures
