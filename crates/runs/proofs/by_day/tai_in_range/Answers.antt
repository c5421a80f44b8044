-- `runs::by_day::tai_in_range` meets its contract. Assumes nothing.
use Rattle.std.proofs.Common.{sym, ap, subst, ◌∙◌}
use lib.Ieee.{binary64, add, of_bits, neg}
use Rattle.refusals.specs.Outcome.{answer}
use Rattle.floats.proofs.Laws.{yes}
use Rattle.julian.specs.JulianDate.{julian}
use Rattle.julian.specs.day_number.DayNumber.{accepted}
use Rattle.julian.proofs.day_number.Steps.{from-min}
use Rattle.julian.specs.day_number.Midnights.{Midnight}
use Rattle.runs.specs.by_day.Hand.{InDayOf, FindsFraction, RightTaiByHand, FindsTaiOf}
use Rattle.runs.proofs.by_day.Days.{tai-by-hand, kept}
use Rattle.runs.proofs.by_day.tai_in_range.Goals as goal

pub returns-then-sum-2 : goal.returns-then-sum-2
unfolding FindsTaiOf RightTaiByHand FindsFraction InDayOf accepted of_bits neg
returns-then-sum-2 c rows k e l t =
    let x = c.args.big in
    let y = c.args.small in
    let fx = yes c.well_formed.0.1 in
    let inside = sym (from-min (add binary64 x y) c.if-sum.true) ∙ c.if-sum-2.true in
    let d = c.in_ok-fraction.ensures x fx (subst Midnight (sym e) k.begins) inside in
    let fy = yes c.well_formed.1.0.1 in (
      tai-by-hand rows x y c.args.hand fx fy k e l t c.in_ok-fraction.fraction d ∙ ap answer (ap (julian x) (sym c.tai_part.ensures) ∙ sym c.new.ensures),
      kept rows x y c.args.hand fx fy k e l t c.in_ok-fraction.fraction d,
    )
