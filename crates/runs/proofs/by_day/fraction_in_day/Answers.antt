-- `runs::by_day::fraction_in_day` meets its contract: the short way of `julian::day_number`. Assumes nothing.
use Rattle.std.proofs.Common.{ap}
use lib.Ieee.{binary64, of_bits, neg, sub}
use lib.Ieee.Fits.{sub-fits}
use mir.Syntax.{w64}
use mir.Val.{to_z}
use Rattle.floats.specs.Whole.{nearest_int}
use Rattle.floats.proofs.Laws.{yes}
use Rattle.julian.proofs.day_number.Midnight.{quick, quick_borrowed}
use Rattle.julian.proofs.day_number.PartsOfDay.{same_number, next-number}
use Rattle.runs.specs.by_day.Hand.{InDayOf, FindsFraction}
use Rattle.runs.proofs.by_day.fraction_in_day.Goals as goal

pub returns-then-w-eq0 : goal.returns-then-w-eq0
unfolding FindsFraction InDayOf of_bits
returns-then-w-eq0 c x fx m acc =
    let w = c.nearest_whole-w in
    let y = c.args.small in
    let q = quick (sub binary64 x (nearest_int x)) (sub binary64 y w.result.value) (sub-fits binary64 x _) (sub-fits binary64 y _)
    m.before_noon c.if-fraction.true c.if-fraction-2.true in
    same_number x y fx (yes c.well_formed.0.1) m acc w.result w.ensures _ q (ap (to_z w64) c.if-w-eq0.true)

pub returns-then-w-eq1 : goal.returns-then-w-eq1
unfolding FindsFraction InDayOf of_bits neg
returns-then-w-eq1 c x fx m acc =
    let w = c.nearest_whole-w in
    let y = c.args.small in
    let q = quick_borrowed (sub binary64 x (nearest_int x)) (sub binary64 y w.result.value) (sub-fits binary64 x _) (sub-fits binary64 y _)
    m.before_noon c.if-fraction.false c.if-fraction-3.true c.if-more.true in
    next-number x y fx (yes c.well_formed.0.1) m acc w.result w.ensures _ q (ap (to_z w64) c.if-w-eq1.true)
