-- `runs::put_answer` meets its contract. Assumes nothing.
use Rattle.std.proofs.Common.{◌∙◌}
use Rattle.refusals.proofs.Handed.{answered, handed, number_in_byte}
use Rattle.runs.proofs.by_formula.Puts.{put_refused, put-patterns}
use Rattle.runs.proofs.put_answer.Goals as goal

pub returns-in-Err : goal.returns-in-Err
returns-in-Err c =
    let a = c.args in
    put_refused _ _ a.i _ a.out1.now a.out2.now (handed c.in-Err.is) (c.byte.ensures ∙ number_in_byte _)

pub returns-in-Ok : goal.returns-in-Ok
returns-in-Ok c =
    let a = c.args in
    put-patterns _ _ a.i a.out1.now a.out2.now _ _ _ _ (answered c.in-Ok.is) c.to_bits.ensures c.to_bits-in-Ok.ensures
    c.put_pattern.ensures c.put_pattern-in-Ok.ensures
