-- `utc_reading::put_answer` is safe: what was written is within its array. Assumes nothing.
use Rattle.readings.proofs.Lines.{line-within}
use Rattle.utc_reading.proofs.put_answer.Goals as goal

pub slice_bounds-out-end : goal.slice_bounds-out-end
slice_bounds-out-end c = (line-within c.answer_line.ensures _ c.in-Ok.is).0

pub slice_bounds-write_all-end : goal.slice_bounds-write_all-end
slice_bounds-write_all-end c = (line-within c.answer_line.ensures _ c.in-Ok.is).1
