-- `leap_table::offsets::fixed_rows::start_at` meets its contract: each constant of the table is the float nearest to its decimal. Assumes nothing.
use Rattle.std.proofs.Common.{take, ap, ◌∙◌, get_or-take}
use lib.Ieee.{Float, round, of_bits}
use Rattle.leap_table.specs.rows.Table.{Row, fixed, none}
use Rattle.leap_table.specs.offsets.Offset.{seconds_of, start_of, rate_of}
use Rattle.leap_table.proofs.rows.Rows.{place}
use Rattle.leap_table.proofs.offsets.fixed_rows.start_at.Goals as goal

pub returns : goal.returns
unfolding fixed seconds_of start_of rate_of round of_bits
returns c =
    ap (λ (t : Float × Float × Float). t.1) (place (λ (r : Row). (seconds_of r, start_of r, rate_of r)) _ (take 14 fixed) c.args.i c.requires)
    ∙ ap start_of (get_or-take 14 fixed c.args.i none c.requires)
