-- `capi::offset_calls::put_offset` meets its contract. Assumes nothing.
use Rattle.refusals.proofs.Handed.{answered, handed}
use Rattle.c_answers.specs.rules.RuleFields.{offset_rule_bytes}
use Rattle.c_answers.proofs.Deliveries.{delivered_answer, refused-on}
use Rattle.capi.proofs.offset_calls.put_offset.Goals as goal

pub returns-in-Ok : goal.returns-in-Ok
returns-in-Ok c =
    delivered_answer offset_rule_bytes c.put_offset_by_rule.type_inv _ (answered c.in-Ok.is)
    c.put_offset_by_rule.ensures

pub returns-in-Err : goal.returns-in-Err
returns-in-Err c = refused-on offset_rule_bytes c.refused.type_inv _ (handed c.in-Err.is) c.refused.ensures
