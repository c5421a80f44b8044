-- `capi::text_calls::put_half_even` meets its contract. Assumes nothing.
use Rattle.capi.proofs.TextRules.{short-lent, count_fits, two-written, two-refused, text-few}
use Rattle.utc.specs.declared.iso_texts.NamedForm.TheVariants.{HalfEven}
use Rattle.utc.specs.iso_texts.Named.{form_named}
use Rattle.capi.proofs.text_calls.put_half_even.Goals as goal

pub returns-then-rule-lt8 : goal.returns-then-rule-lt8
unfolding form_named
returns-then-rule-lt8 c = short-lent _ _ _ _ c.with_short_rule.type_inv c.with_short_rule.ensures

pub overflow_cast-result : goal.overflow_cast-result
unfolding form_named
overflow_cast-result c = count_fits _ (text-few HalfEven _ _)
    c.to_iso8601_half_even_by_rows.ensures
    c.in-Ok.is

pub returns-in-Err : goal.returns-in-Err
unfolding form_named
returns-in-Err c = two-refused _ (text-few HalfEven _ _) c.to_iso8601_half_even_by_rows.ensures _
    c.refused.type_inv c.in-Err.is c.refused.ensures

pub returns-in-Ok : goal.returns-in-Ok
unfolding form_named
returns-in-Ok c =
    two-written _ (text-few HalfEven _ _)
    c.to_iso8601_half_even_by_rows.ensures
    c.in-Ok.is
    c.if-rule-lt8.false c.put_rule.ensures
