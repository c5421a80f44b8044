-- `listing::judge_listing` meets its contract: places, then room. Assumes nothing.
use Rattle.std.proofs.Common.{refl}
use Rattle.refusals.specs.Outcome.{number_said}
use Rattle.line_listing.proofs.listing.Steps.{no_lines_yet, gone-on, all_there}
use Rattle.line_listing.proofs.listing.judge_listing.Goals.{then-line-ne0+in_ok-judge_places, else-line-ne0}
use Rattle.line_listing.proofs.listing.judge_listing.Goals as goal

pub returns-in_err-judge_places : goal.returns-in_err-judge_places
returns-in_err-judge_places c =
    let a = c.args in
    gone-on a.sentences a.stamps a.order.now a.line a.room _ _ c.if-line-ne0.true c.in_err-judge_places.ensures c.from_residual.ensures.1

pub returns : goal.returns
unfolding number_said
returns c =
    let a = c.args in
    elim c.if-line-ne0.branch [
      | then-line-ne0+in_ok-judge_places w ↦ all_there a.sentences a.stamps a.order.now a.line a.room _ _ w.if-line-ne0.true
          w.in_ok-judge_places.ensures refl c.judge_room.ensures
      | else-line-ne0 w ↦ no_lines_yet a.sentences a.stamps a.order.now a.line a.room _ w.if-line-ne0.false c.judge_room.ensures
    ]
