-- `capi::utc_calls::put_by_rule` meets its contract. Assumes nothing.
use Rattle.refusals.proofs.Handed.{answered, handed}
use Rattle.c_answers.specs.rules.RuleFields.{julian_rule_bytes}
use Rattle.c_answers.proofs.Deliveries.{delivered_answer, refused-on}
use Rattle.capi.proofs.utc_calls.put_by_rule.Goals as goal

pub returns-in-Ok : goal.returns-in-Ok
returns-in-Ok c =
    delivered_answer julian_rule_bytes c.put_julian_by_rule.type_inv _ (answered c.in-Ok.is)
    c.put_julian_by_rule.ensures

pub returns-in-Err : goal.returns-in-Err
returns-in-Err c = refused-on julian_rule_bytes c.refused.type_inv _ (handed c.in-Err.is) c.refused.ensures
