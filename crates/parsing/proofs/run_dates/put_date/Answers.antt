-- `parsing::run_dates::put_date` meets its contract. Assumes nothing.
use mathlib.Core.Path.{ap, ◌∙◌}
use Rattle.refusals.specs.Outcome.{outcome}
use Rattle.refusals.proofs.Handed.{number_in_byte}
use Rattle.numerals.proofs.little_endian.Puts.{put-64-is}
use Rattle.runs.proofs.by_formula.Puts.{put_refused, put-patterns}
use Rattle.parsing.proofs.run_dates.put_date.Goals as goal

pub returns-in-Err : goal.returns-in-Err
unfolding outcome
returns-in-Err c =
    let a = c.args in
    put_refused (outcome a.found) _ a.i _ a.out1.now a.out2.now (ap outcome c.in-Err.is) (c.byte.ensures ∙ number_in_byte _)

pub returns-in-Ok : goal.returns-in-Ok
unfolding outcome
returns-in-Ok c =
    let a = c.args in
    put-patterns (outcome a.found) _ a.i a.out1.now a.out2.now _ _ _ _ (ap outcome c.in-Ok.is)
    c.to_bits.ensures c.to_bits-in-Ok.ensures
    (c.put_nth_u64.ensures ∙ put-64-is a.out1.now a.i _ c.requires.0)
    (c.put_nth_u64-in-Ok.ensures ∙ put-64-is a.out2.now a.i _ c.requires.1)
