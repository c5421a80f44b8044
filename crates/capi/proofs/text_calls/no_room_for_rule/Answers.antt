-- `capi::text_calls::no_room_for_rule` meets its contract. Assumes nothing.
use Rattle.capi.proofs.TextRules.{no_room_refused, no_room_written}
use Rattle.capi.proofs.text_calls.no_room_for_rule.Goals as goal

pub returns-in-Err : goal.returns-in-Err
returns-in-Err c = no_room_refused _ c.to_text_by_rows.ensures c.refused.type_inv c.in-Err.is
    c.refused.ensures

pub returns-in-Ok : goal.returns-in-Ok
returns-in-Ok c = no_room_written _ c.to_text_by_rows.ensures c.refused-in-Ok.type_inv c.in-Ok.is
    c.refused-in-Ok.ensures
