-- `since_launch::run_from` meets its contract. Assumes nothing.
use Rattle.refusals.specs.Outcome.{number_said}
use Rattle.since_launch.proofs.Calls.{run-refused, roomy, run_ends}
use Rattle.since_launch.proofs.run_from.Goals as goal

pub returns-in_err-judge_lengths : goal.returns-in_err-judge_lengths
unfolding number_said
returns-in_err-judge_lengths c = run-refused _ _ _ _ _ _ _ c.from_residual.ensures.1 c.in_err-judge_lengths.ensures

pub put_all-requires : goal.put_all-requires
unfolding number_said
put_all-requires c = (c.requires, roomy c.args.launch _ _ _ _ c.in_ok-judge_lengths.ensures)

pub returns : goal.returns
unfolding number_said
returns c = run_ends c.args.launch _ _ _ _ c.in_ok-judge_lengths.ensures _ _ _ c.put_all.ensures
