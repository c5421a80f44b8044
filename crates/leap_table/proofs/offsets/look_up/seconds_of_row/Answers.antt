-- `leap_table::offsets::look_up::seconds_of_row` meets its contract: a row stands in the fixed table or among the announced ones. Assumes nothing.
use Rattle.std.proofs.Common.{◌≡◌, ℕ, ◌+◌, ◌-◌, ◌<◌, get_or, sym, ap, ◌∙◌, arith}
use Rattle.leap_table.specs.rows.Announced.{announced_size, rows_of}
use Rattle.leap_table.specs.rows.Table.{none, fixed_rows}
use Rattle.leap_table.specs.offsets.Offset.{seconds_of}
use Rattle.leap_table.proofs.rows.Tables.{at_most_16, fixed-place, announced_place}
use Rattle.leap_table.proofs.offsets.look_up.seconds_of_row.Goals as goal

-- the row after the fixed ones is the first announced one
place : (k : ℕ) → fixed_rows < k → fixed_rows + (k - fixed_rows - 1) ≡ k - 1
place k h = omega arith

pub returns-then-rows-le-FIXED_SIZE : goal.returns-then-rows-le-FIXED_SIZE
returns-then-rows-le-FIXED_SIZE c =
    let t = c.args.table.now in
    c.whole_seconds.ensures ∙ ap seconds_of (sym (fixed-place t (announced_size t) (c.args.rows - 1) (omega arith)))

pub seconds_at-requires : goal.seconds_at-requires
seconds_at-requires c = omega (arith, c.requires.1, at_most_16 c.args.table.now)

pub returns : goal.returns
returns c =
    let t = c.args.table.now in
    c.seconds_at.ensures
    ∙ ap seconds_of (sym (announced_place t (announced_size t) (c.args.rows - fixed_rows - 1)
    (omega (arith, c.if-rows-le-FIXED_SIZE.false, c.requires.1))))
    ∙ ap (λ (k : ℕ). seconds_of (get_or (rows_of t) k none)) (place c.args.rows c.if-rows-le-FIXED_SIZE.false)
