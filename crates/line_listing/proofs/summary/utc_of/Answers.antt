-- `summary::utc_of` meets its contract. Assumes nothing.
use Rattle.std.proofs.Common.{List, ap, ◌∙◌}
use Rattle.leap_table.specs.rows.Table.{Row}
use Rattle.utc_scales.specs.UtcTai.{tai_to_utc}
use Rattle.line_listing.proofs.summary.utc_of.Goals as goal

pub returns : goal.returns
returns c =
    c.tai_to_utc_by_rows.ensures
