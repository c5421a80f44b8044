-- The first i stamps are counted. Assumes nothing.
use Rattle.std.specs.Prelude.{◌≡◌, ◌≤◌, List}
use Rattle.leap_table.specs.rows.Table.{Row}
use Rattle.stamps.specs.Listing.{refused_in}
use Rattle.stamps.proofs.listing.refused_stamps.Given as goal

abbrev pub invariant-loop-i : goal.invariant-loop-i
invariant-loop-i l = ((rows : List Row) → l.refused ≡ refused_in rows l.block l.stamps l.i) × (l.refused ≤ l.i)
