-- `lines::judge_places` meets its contract: the lines of the part are looked at. Assumes nothing.
use Rattle.std.proofs.Common.{◌/◌, true, false, length, sym, ◌∙◌}
use native.Mathlib.Omega.{arith}
use Rattle.refusals.specs.Refusal.{refusal_number}
use Rattle.refusals.specs.Outcome.{number_said}
use Rattle.line_listing.specs.lines.Parts.{lines_of_order, listed_count}
use Rattle.line_listing.proofs.lines.Whole.{few-lines, places-by, places-none}
use Rattle.line_listing.proofs.lines.judge_places.Goals.{else-count-ne0-via-then-count-ne0+else-not-places_there, else-count-ne0-via-else-count-ne0}
use Rattle.line_listing.proofs.lines.judge_places.Goals as goal

pub returns-then-not-places_there : goal.returns-then-not-places_there
unfolding number_said refusal_number listed_count lines_of_order
returns-then-not-places_there c =
    places-by c.args.order.now _ c.args.line c.args.sentences c.args.room _ false c.part_lines-count.ensures
    (sym c.if-not-places_there.true ∙ c.places_there.ensures)

pub returns : goal.returns
unfolding number_said listed_count lines_of_order
returns c =
    elim c.else-count-ne0.branch [
      | else-count-ne0-via-then-count-ne0+else-not-places_there w ↦
          places-by c.args.order.now _ c.args.line c.args.sentences c.args.room _ true c.part_lines-count.ensures
          (sym w.if-not-places_there.false ∙ w.places_there.ensures)
      | else-count-ne0-via-else-count-ne0 w ↦
          places-none c.args.order.now _ c.args.line c.args.sentences c.args.room _ c.part_lines-count.ensures w.if-count-ne0.false
    ]

pub places_there-requires : goal.places_there-requires
places_there-requires c =
    let e = c.part_lines-count.ensures in
    let f = few-lines c.args.sentences (length c.args.order.now / 4) c.args.line c.args.room _ e in
    omega (arith, f.0, f.1 (omega arith), c.well_formed)
