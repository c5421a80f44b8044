-- `summary::compose` meets its contract. Assumes nothing.
use Rattle.std.proofs.Common.{arith}
use Rattle.leap_table.specs.rows.Announced.{rows_of}
use Rattle.line_listing.proofs.head.Pieces.{and_then, in_as, at_most}
use Rattle.line_listing.proofs.summary.Pieces as Y
use Rattle.line_listing.proofs.summary.compose.Goals as goal

pub returns : goal.returns
returns c =
    let p0 = c.place_runs-a.ensures in
    let p1 = c.place_table-b.ensures in
    let p2 = c.place_looks.ensures in in_as
    (Y.summary_is (rows_of c.args.table) c.args.known c.args.gps c.args.tai c.args.utc _ _ _ _ _ _
    c.runs_of-runs.ensures _ c.look_of-look.ensures.0)
    (at_most (omega (arith, c.requires)) (and_then (and_then p0 p1 (omega (arith, c.requires))) p2 (omega (arith, c.requires))))
