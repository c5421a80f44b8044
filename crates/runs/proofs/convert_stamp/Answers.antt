-- `runs::convert_stamp` meets its contract. Assumes nothing.
use mathlib.Core.Path.{ap, ◌∙◌}
use Rattle.leap_table.specs.rows.Announced.{rows_of}
use Rattle.runs.specs.ways.Ways.{way_of}
use Rattle.runs.proofs.by_formula.Puts.{put_same}
use Rattle.runs.proofs.convert_stamp.Goals as goal

pub returns : goal.returns
returns c =
    let a = c.args in (
      put_same
          (c.convert_with-found.ensures ∙ ap (way_of (rows_of a.table.now) a.from a.to)
          c.stamp_of-jd.ensures)
          c.put_answer-number.ensures,
      c.next_day-next.ensures,
    )
