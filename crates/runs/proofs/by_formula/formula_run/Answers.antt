-- `runs::by_formula::formula_run` meets its contract. Assumes nothing.
use Rattle.std.proofs.Common.{true, false, sym, ap}
use Rattle.refusals.specs.Outcome.{number_said}
use Rattle.runs.specs.by_formula.Asked.{kind_number, change_of}
use Rattle.runs.proofs.by_formula.KindLaws.{no_offset, last_change}
use Rattle.runs.proofs.by_formula.Calls.{run-refused, roomy, offsets-there, ends-by-offsets, ends-by-change}
use Rattle.runs.proofs.by_formula.formula_run.Goals as goal

pub returns-in_err-judge_formula : goal.returns-in_err-judge_formula
unfolding number_said
returns-in_err-judge_formula c = run-refused _ _ _ _ _ _ _ _ _ _ c.formula_of-found.ensures _ _ c.from_residual.ensures.1 c.in_err-judge_formula.ensures

pub offset_all-requires : goal.offset_all-requires
unfolding number_said
offset_all-requires c =
    let f = c.formula_of-found.ensures in
    let z = c.in_ok-judge_formula.ensures in
    (roomy _ _ _ _ _ _ _ _ _ _ f z, offsets-there _ _ _ _ _ _ _ _ _ _ f z (rw c.in-Later.is))

pub offset_all-requires-in-Earlier : goal.offset_all-requires-in-Earlier
unfolding number_said
offset_all-requires-in-Earlier c =
    let f = c.formula_of-found.ensures in
    let z = c.in_ok-judge_formula.ensures in
    (roomy _ _ _ _ _ _ _ _ _ _ f z, offsets-there _ _ _ _ _ _ _ _ _ _ f z (rw c.in-Earlier.is))

pub change_all-requires : goal.change_all-requires
unfolding number_said
change_all-requires c =
    let f = c.formula_of-found.ensures in
    let z = c.in_ok-judge_formula.ensures in
    roomy _ _ _ _ _ _ _ _ _ _ f z

pub change_all-requires-in-TtToTcg : goal.change_all-requires-in-TtToTcg
unfolding number_said
change_all-requires-in-TtToTcg c =
    let f = c.formula_of-found.ensures in
    let z = c.in_ok-judge_formula.ensures in
    roomy _ _ _ _ _ _ _ _ _ _ f z

pub change_all-requires-in-TcgToTt : goal.change_all-requires-in-TcgToTt
unfolding number_said
change_all-requires-in-TcgToTt c =
    let f = c.formula_of-found.ensures in
    let z = c.in_ok-judge_formula.ensures in
    roomy _ _ _ _ _ _ _ _ _ _ f z

pub change_all-requires-in-TcbToTdb : goal.change_all-requires-in-TcbToTdb
unfolding number_said
change_all-requires-in-TcbToTdb c =
    let f = c.formula_of-found.ensures in
    let z = c.in_ok-judge_formula.ensures in
    roomy _ _ _ _ _ _ _ _ _ _ f z

pub change_all-requires-in_default : goal.change_all-requires-in_default
unfolding number_said
change_all-requires-in_default c =
    let f = c.formula_of-found.ensures in
    let z = c.in_ok-judge_formula.ensures in
    roomy _ _ _ _ _ _ _ _ _ _ f z

pub returns-in-Later : goal.returns-in-Later
unfolding number_said
returns-in-Later c =
    let f = c.formula_of-found.ensures in
    let z = c.in_ok-judge_formula.ensures in
    ends-by-offsets _ _ _ _ _ _ _ _ _ _ f z false (rw c.in-Later.is) (rw c.in-Later.is) _ _ _ _ c.offset_all.ensures

pub returns-in-Earlier : goal.returns-in-Earlier
unfolding number_said
returns-in-Earlier c =
    let f = c.formula_of-found.ensures in
    let z = c.in_ok-judge_formula.ensures in
    ends-by-offsets _ _ _ _ _ _ _ _ _ _ f z true (rw c.in-Earlier.is) (rw c.in-Earlier.is) _ _ _ _ c.offset_all-in-Earlier.ensures

pub returns-in-Shift : goal.returns-in-Shift
unfolding number_said
returns-in-Shift c =
    let f = c.formula_of-found.ensures in
    let z = c.in_ok-judge_formula.ensures in
    ends-by-change _ _ _ _ _ _ _ _ _ _ f z _ (ap (λ k. change_of (kind_number k) c.formula_of-found.result.days) (sym c.in-Shift.is))
    (rw c.in-Shift.is) _ _ _ _ c.change_all.ensures

pub returns-in-TtToTcg : goal.returns-in-TtToTcg
unfolding number_said
returns-in-TtToTcg c =
    let f = c.formula_of-found.ensures in
    let z = c.in_ok-judge_formula.ensures in
    ends-by-change _ _ _ _ _ _ _ _ _ _ f z _ (ap (λ k. change_of (kind_number k) c.formula_of-found.result.days) (sym c.in-TtToTcg.is))
    (rw c.in-TtToTcg.is) _ _ _ _ c.change_all-in-TtToTcg.ensures

pub returns-in-TcgToTt : goal.returns-in-TcgToTt
unfolding number_said
returns-in-TcgToTt c =
    let f = c.formula_of-found.ensures in
    let z = c.in_ok-judge_formula.ensures in
    ends-by-change _ _ _ _ _ _ _ _ _ _ f z _ (ap (λ k. change_of (kind_number k) c.formula_of-found.result.days) (sym c.in-TcgToTt.is))
    (rw c.in-TcgToTt.is) _ _ _ _ c.change_all-in-TcgToTt.ensures

pub returns-in-TcbToTdb : goal.returns-in-TcbToTdb
unfolding number_said
returns-in-TcbToTdb c =
    let f = c.formula_of-found.ensures in
    let z = c.in_ok-judge_formula.ensures in
    ends-by-change _ _ _ _ _ _ _ _ _ _ f z _ (ap (λ k. change_of (kind_number k) c.formula_of-found.result.days) (sym c.in-TcbToTdb.is))
    (rw c.in-TcbToTdb.is) _ _ _ _ c.change_all-in-TcbToTdb.ensures

pub returns-in_default : goal.returns-in_default
unfolding number_said change_of
returns-in_default c =
    let f = c.formula_of-found.ensures in
    let z = c.in_ok-judge_formula.ensures in
    let k = c.in_default in
    ends-by-change _ _ _ _ _ _ _ _ _ _ f z _ (sym (last_change _ _ k.not-Shift k.not-TtToTcg k.not-TcgToTt k.not-TcbToTdb))
    (no_offset _ k.not-Later k.not-Earlier) _ _ _ _ c.change_all-in_default.ensures
