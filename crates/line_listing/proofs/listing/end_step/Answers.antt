-- `listing::end_step` meets its contract: the ordered stamps are counted. Assumes nothing.
use Rattle.line_listing.specs.lines.StampLine.{stamps}
use Rattle.line_listing.proofs.listing.Steps.{end-stepped}
use Rattle.line_listing.proofs.listing.end_step.Goals as goal

pub returns : goal.returns
returns c =
    end-stepped (stamps c.args.jd1s.now c.args.jd2s.now c.args.numbers.now c.args.first c.args.second)
    c.args.line c.args.textless _ _ _ _ c.count_of-ordered.ensures.0 c.requires.1 c.compose_end-written.ensures
