-- `capi::gps_week_calls::ct_gps_full_week` meets its contract. Assumes nothing.
use mathlib.Core.Path.{sym, ap, ◌∙◌}
use native.Mathlib.Omega.{arith}
use mir.Syntax.{w64}
use mir.Facts.{to_z_pos}
use Rattle.refusals.proofs.Handed.{answered, handed}
use Rattle.c_answers.specs.Delivery.{code}
use Rattle.c_answers.proofs.Deliveries.{code-back}
use Rattle.capi.proofs.gps_week_calls.ct_gps_full_week.Goals as goal

pub returns-in-Ok : goal.returns-in-Ok
unfolding code
returns-in-Ok c =
    let w = c.in-Ok.week in
    to_z_pos w64 {n = w} (omega arith) ∙ ap code (sym (answered c.in-Ok.is) ∙ c.full_week.ensures)

pub returns-in-Err : goal.returns-in-Err
returns-in-Err c = code-back c.refused.type_inv ∙ c.refused.ensures ∙ ap code (sym (handed c.in-Err.is) ∙ c.full_week.ensures)
