-- `listing::next_part` meets its contract: the table is tested, and its rows are read. Assumes nothing.
use Rattle.stamps.proofs.Parts.{part-refused, part-taken}
use Rattle.stamps.proofs.listing.next_part.Goals as goal

pub returns-in_err-judge_table : goal.returns-in_err-judge_table
returns-in_err-judge_table c =
    part-refused _ _ _ c.judge_table.ensures _ _ _ _ c.in_err-judge_table.was _ c.from_residual.ensures.1

pub returns : goal.returns
returns c = part-taken _ _ _ c.judge_table.ensures _ _ _ _ c.in_ok-judge_table.was _ _ c.next_part_by_rows.ensures
