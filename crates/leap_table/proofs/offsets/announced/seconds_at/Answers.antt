-- `leap_table::offsets::announced::seconds_at` meets its contract: whole seconds are their own float. Assumes nothing.
use Rattle.std.proofs.Common.{get_or, pos, sym, ap, ◌∙◌, rules}
use Rattle.leap_table.specs.offsets.Offset.{whole_f}
use Rattle.leap_table.proofs.rows.Naturals.{read-natural}
use Rattle.leap_table.proofs.offsets.ByParts.{announced_seconds}
use Rattle.leap_table.proofs.offsets.announced.seconds_at.Goals as goal

pub returns : goal.returns
returns c =
    let t = c.args.table.now in
    ap whole_f (c.natural.ensures.0 ∙ read-natural (get_or t.seconds c.args.i (pos 0)) (search rules)) ∙ sym (announced_seconds t c.args.i)
