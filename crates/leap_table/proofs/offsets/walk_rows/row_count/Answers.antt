-- `leap_table::offsets::walk_rows::row_count` meets its contract. Assumes nothing.
use Rattle.std.proofs.Common.{ℕ, ◌+◌, sym, ap, ◌∙◌}
use Rattle.leap_table.specs.rows.Table.{fixed_rows}
use Rattle.leap_table.specs.rows.Announced.{announced_size}
use Rattle.leap_table.proofs.rows.Tables.{table-length}
use Rattle.leap_table.proofs.offsets.walk_rows.row_count.Goals as goal

pub returns : goal.returns
returns c =
    let t = c.args.table in
    ap (λ (k : ℕ). fixed_rows + k) c.announced_size.ensures.0 ∙ sym (table-length t (announced_size t))
