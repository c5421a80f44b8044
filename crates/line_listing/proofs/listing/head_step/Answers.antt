-- `listing::head_step` meets its contract. Assumes nothing.
use Rattle.line_listing.specs.lines.StampLine.{stamps}
use Rattle.line_listing.proofs.listing.Steps.{head_stepped}
use Rattle.line_listing.proofs.listing.head_step.Goals as goal

pub returns : goal.returns
returns c =
    head_stepped c.args.gps c.args.tai c.args.utc (stamps c.args.jd1s.now c.args.jd2s.now c.args.numbers.now c.args.first c.args.second)
    c.args.textless _ _ _ c.requires c.compose-written.ensures
