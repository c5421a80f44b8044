-- `leap_table::rows::no_rows` meets its contract. Assumes nothing.
use Rattle.std.proofs.Common.{refl}
use Rattle.leap_table.proofs.rows.TablesTaken.{table_none}
use Rattle.leap_table.proofs.rows.no_rows.Goals as goal

pub returns : goal.returns
returns c = table_none _ refl refl
