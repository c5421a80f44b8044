-- `utc::text::year::negative` meets its contract. Assumes nothing.
use Rattle.utc.proofs.text.Sign.{is_negative}
use Rattle.utc.proofs.text.year.negative.Goals as goal

pub returns : goal.returns
returns c = is_negative _ c.ranges.year
