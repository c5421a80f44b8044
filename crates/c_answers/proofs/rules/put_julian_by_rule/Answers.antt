-- `c_answers::rules::put_julian_by_rule` meets its contract. Assumes nothing.
use mathlib.Core.Path.{refl}
use Rattle.c_answers.specs.Fields.{julian_bytes}
use Rattle.c_answers.specs.rules.RuleFields.{rule_bytes, julian_rule_bytes}
use Rattle.c_answers.proofs.Deliveries.{no_room}
use Rattle.c_answers.proofs.Pieces.{in_two}
use Rattle.c_answers.proofs.rules.put_julian_by_rule.Goals as goal

pub returns-then-out-lt24 : goal.returns-then-out-lt24
unfolding julian_rule_bytes julian_bytes
returns-then-out-lt24 c = no_room (julian_rule_bytes (c.args.date, c.args.rule)) c.refused.type_inv c.if-out-lt24.true c.refused.ensures

pub returns : goal.returns
unfolding julian_rule_bytes julian_bytes
returns c =
    let a = c.args in
    in_two (julian_bytes a.date) (rule_bytes a.rule) a.out.now _ _ 16 24 refl refl c.if-out-lt24.false c.put_julian.ensures c.put_rule.ensures
