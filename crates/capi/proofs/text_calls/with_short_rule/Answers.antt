-- `capi::text_calls::with_short_rule` meets its contract. Assumes nothing.
use Rattle.capi.proofs.TextRules.{none_lent, few-lent}
use Rattle.capi.proofs.text_calls.with_short_rule.Goals as goal

pub returns-then-room-eq0 : goal.returns-then-room-eq0
returns-then-room-eq0 c = λ second e. none_lent _ _ _ second _ c.text_alone.type_inv c.if-room-eq0.true e
    c.text_alone.ensures

pub returns : goal.returns
returns c = λ second e. few-lent _ _ second _ c.no_room_for_rule.type_inv c.requires c.if-room-eq0.false e
    c.no_room_for_rule.ensures
