-- `capi::reason_calls::ct_date_reason` meets its contract. Assumes nothing.
use mir.Facts.{to_z-of_z}
use Rattle.reasons.specs.declared.Values.TheVariants.{Date}
use Rattle.reasons.specs.Sentence.{sentence}
use Rattle.capi.proofs.Texts.{delivered_on}
use Rattle.capi.proofs.reason_calls.ct_date_reason.Goals as goal

pub returns : goal.returns
returns c =
    delivered_on c.deliver_reason.type_inv
    (λ i. sentence c.args.number (Date (to_z-of_z c.ranges.year i) (to_z-of_z c.ranges.month i) (to_z-of_z c.ranges.day i)))
    c.deliver_reason.ensures
