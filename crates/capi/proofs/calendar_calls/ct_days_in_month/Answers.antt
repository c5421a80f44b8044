-- `capi::calendar_calls::ct_days_in_month` meets its contract. Assumes nothing.
use mathlib.Core.Path.{ap, ◌∙◌}
use native.Mathlib.Omega.{arith}
use lib.IntN.{pos}
use mir.Syntax.{w64}
use mir.Facts.{to_z_pos}
use Rattle.calendar.proofs.Accepted.{read-two}
use Rattle.capi.proofs.calendar_calls.ct_days_in_month.Goals as goal

pub returns : goal.returns
returns c =
    to_z_pos w64 {n = c.days_in_month.result} (omega (arith, c.days_in_month.type_inv))
    ∙ ap pos (c.days_in_month.ensures ∙ read-two c.args.year c.args.month c.ranges.year c.ranges.month)
