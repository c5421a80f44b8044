-- A table that lends no row, by which a law of every table is one of the fixed table. Assumes nothing.
use Rattle.std.proofs.Common.{◌≡◌, [], refl}
use Rattle.refusals.specs.Outcome.{answer}
use Rattle.leap_table.specs.declared.rows.AnnouncedRows.{AnnouncedRows}
use Rattle.leap_table.specs.rows.Table.{fixed}
use Rattle.leap_table.specs.rows.Announced.{table_of}
use Rattle.leap_table.proofs.rows.TablesTaken.{table_none}

abbrev pub none-announced : AnnouncedRows
none-announced = record { months_size = 0; seconds_size = 0; months = []; seconds = [] }

pub fixed-taken : table_of none-announced ≡ answer fixed
fixed-taken = table_none none-announced refl refl
