-- `capi::line_up_calls::ct_line_up` meets its contract. Assumes nothing.
use native.Mathlib.Omega.{arith}
use lib.ListN.{length}
use Rattle.line_up.specs.LineUp.{lined_up}
use Rattle.capi.proofs.LineUps.{line-ordered, line_refused}
use Rattle.capi.proofs.line_up_calls.ct_line_up.Goals as goal

pub returns-in-Ok : goal.returns-in-Ok
returns-in-Ok c =
    let a = c.args in
    line-ordered (lined_up a.jd1.now a.jd2.now a.numbers.now a.first_count a.second_count a.out.now (length a.tails.now)
    (length a.ranks.now)) _ _ c.line_up.result c.line_up.ensures _ c.in-Ok.is (omega arith)

pub returns-in-Err : goal.returns-in-Err
returns-in-Err c =
    let a = c.args in
    line_refused (lined_up a.jd1.now a.jd2.now a.numbers.now a.first_count a.second_count a.out.now (length a.tails.now)
    (length a.ranks.now)) _ _ c.line_up.result c.line_up.ensures _ c.refused.type_inv c.in-Err.is c.refused.ensures
