-- `leap_table::walk::at_start` meets its contract. Assumes nothing.
use Rattle.std.proofs.Common.{refl, arith}
use Rattle.leap_table.specs.rows.Announced.{announced_size}
use Rattle.leap_table.proofs.rows.Tables.{table-length, at_most_16}
use Rattle.leap_table.proofs.walk.at_start.Goals as goal

pub returns : goal.returns
returns c =
    let s = c.args in
    record {
      stands = record {
        all = c.row_count.ensures;
        most = omega arith;
        small =
            omega (arith, table-length s.table (announced_size s.table), at_most_16 s.table);
        next = c.row_start.ensures;
        terms =
            c.row_terms.ensures;
      };
      none = refl;
      nothing = refl;
    }
