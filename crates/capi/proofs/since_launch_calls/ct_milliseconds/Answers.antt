-- `capi::since_launch_calls::ct_milliseconds` meets its contract: an answer is below 2 ^ 40, so that it fits. Assumes nothing.
use mathlib.Core.Path.{sym, ap, ◌∙◌}
use native.Mathlib.Omega.{arith}
use mir.Syntax.{w64}
use mir.Facts.{to_z_pos}
use Rattle.refusals.proofs.Handed.{answered, handed}
use Rattle.since_launch.proofs.laws.Anywhere.{answer-small}
use Rattle.c_answers.specs.Delivery.{code}
use Rattle.c_answers.proofs.Deliveries.{code-back}
use Rattle.capi.proofs.since_launch_calls.ct_milliseconds.Goals as goal

pub overflow_cast-result : goal.overflow_cast-result
overflow_cast-result c = record { sfits = omega (arith, answer-small _ _ _ (sym c.milliseconds.ensures ∙ answered c.in-Ok.is)) }

pub returns-in-Ok : goal.returns-in-Ok
unfolding code
returns-in-Ok c =
    let e = sym (answered c.in-Ok.is) ∙ c.milliseconds.ensures in
    to_z_pos w64 {n = c.in-Ok.millis} (omega (arith, answer-small _ _ _ (sym e))) ∙ ap code e

pub returns-in-Err : goal.returns-in-Err
returns-in-Err c = code-back c.refused.type_inv ∙ c.refused.ensures ∙ ap code (sym (handed c.in-Err.is) ∙ c.milliseconds.ensures)
