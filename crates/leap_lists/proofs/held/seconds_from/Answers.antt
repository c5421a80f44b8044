-- `leap_lists::held::seconds_from` meets its contract. Assumes nothing.
use native.Mathlib.Omega.{arith}
use Prim.Native.Nat.{◌+◌, ◌/◌, ◌%◌}
use mathlib.Core.Path.{ap, ◌∙◌}
use lib.IntN.{ℤ}
use mir.Syntax.{w32}
use mir.Facts.{to_z_pos}
use Rattle.leap_table.specs.rows.Announced.{rows_of}
use Rattle.leap_table.specs.offsets.WholeSeconds.{whole_seconds}
use Rattle.leap_lists.proofs.held.Tests.{own-seconds}
use Rattle.leap_lists.proofs.held.seconds_from.Goals as goal

pub returns : goal.returns
returns c =
    let t = c.no_rows-none.result in
    let m = c.args.month in (
      c.whole_seconds_by_rows.ensures.0
          ∙ ap (λ (y : ℤ). whole_seconds (rows_of t) y (m % 12 + 1)) (to_z_pos w32 {n = m / 12} (omega arith))
          ∙ own-seconds t m c.no_rows-none.ensures,
      c.whole_seconds_by_rows.ensures.1,
    )
