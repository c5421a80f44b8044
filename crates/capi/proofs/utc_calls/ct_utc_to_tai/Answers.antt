-- `capi::utc_calls::ct_utc_to_tai` meets its contract. Assumes nothing.
use mathlib.Core.Path.{◌∙◌}
use Rattle.c_answers.specs.rules.RuleFields.{julian_rule_bytes}
use Rattle.std.proofs.Common.{rules}
use Rattle.capi.proofs.scale_calls.Mapped.{mapped}
use Rattle.capi.proofs.Arrays.{lent_refused, with_announced}
use Rattle.capi.proofs.utc_calls.ct_utc_to_tai.Goals as goal

pub returns-in-Err : goal.returns-in-Err
returns-in-Err c =
    lent_refused _ _ _ c.read_table.ensures julian_rule_bytes _ c.refused.type_inv _ c.in-Err.is c.refused.ensures

pub returns : goal.returns
returns c =
    with_announced _ _ _ c.read_table.ensures julian_rule_bytes _ c.put_by_rule.type_inv c.in_default.not-Err
    (mapped (λ p. (p.0.0, p.1)) _ _ c.map.ensures.cases (λ x y p. search rules) ∙ c.utc_to_tai_by_rows.ensures)
    c.put_by_rule.ensures
