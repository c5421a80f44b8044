-- `capi::text_calls::text_alone` meets its contract. Assumes nothing.
use mathlib.Core.List.{[]}
use Rattle.capi.proofs.TextRules.{count_fits, alone_written, two-refused, text-few}
use Rattle.capi.proofs.text_calls.text_alone.Goals as goal

pub overflow_cast-result : goal.overflow_cast-result
overflow_cast-result c = count_fits _ (text-few _ _ _) c.to_text_by_rows.ensures c.in-Ok.is

pub returns-in-Err : goal.returns-in-Err
returns-in-Err c = two-refused _ (text-few _ _ _) c.to_text_by_rows.ensures [] c.refused.type_inv
    c.in-Err.is c.refused.ensures

pub returns-in-Ok : goal.returns-in-Ok
returns-in-Ok c = alone_written _ (text-few _ _ _) c.to_text_by_rows.ensures c.in-Ok.is
