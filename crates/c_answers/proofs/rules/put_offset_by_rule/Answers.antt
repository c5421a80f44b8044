-- `c_answers::rules::put_offset_by_rule` meets its contract. Assumes nothing.
use mathlib.Core.Path.{refl}
use Rattle.c_answers.specs.Fields.{float_bytes}
use Rattle.c_answers.specs.rules.RuleFields.{rule_bytes, offset_rule_bytes}
use Rattle.c_answers.proofs.Deliveries.{no_room}
use Rattle.c_answers.proofs.Pieces.{in_two}
use Rattle.c_answers.proofs.rules.put_offset_by_rule.Goals as goal

pub returns-then-out-lt16 : goal.returns-then-out-lt16
unfolding offset_rule_bytes
returns-then-out-lt16 c = no_room (offset_rule_bytes (c.args.seconds, c.args.rule)) c.refused.type_inv c.if-out-lt16.true c.refused.ensures

pub returns : goal.returns
unfolding offset_rule_bytes
returns c =
    let a = c.args in
    in_two (float_bytes a.seconds) (rule_bytes a.rule) a.out.now _ _ 8 16 refl refl c.if-out-lt16.false c.put_float.ensures c.put_rule.ensures
