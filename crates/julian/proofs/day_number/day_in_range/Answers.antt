-- `day_in_range` meets its contract. Assumes nothing.
use Rattle.floats.proofs.Laws.{yes}
use Rattle.julian.proofs.day_number.DayInRange.{asks, gives}
use Rattle.julian.proofs.day_number.Midnight.{quick, quick_borrowed}
use lib.Ieee.{binary64, of_bits, neg, sub}
use lib.Ieee.Fits.{sub-fits}
use Rattle.julian.proofs.day_number.day_in_range.Goals as goal

pub total_day-day-requires : goal.total_day-day-requires
unfolding of_bits neg
total_day-day-requires c =
    let x = c.args.jd1 in
    let y = c.args.jd2 in
    let q = quick (sub binary64 x c.nearest_whole-first.result.value) (sub binary64 y c.nearest_whole-second.result.value) (sub-fits binary64 x _)
    (sub-fits binary64 y _) c.if-jd1-first.true c.if-fraction.true c.if-fraction-2.true in
    asks x y (yes c.well_formed.0.1) (yes c.well_formed.1.0.1) c.requires c.nearest_whole-first.result c.nearest_whole-second.result
    c.nearest_whole-first.ensures
    c.nearest_whole-second.ensures _ q.summed _ q.normal

pub returns-then-fraction-2 : goal.returns-then-fraction-2
unfolding of_bits neg
returns-then-fraction-2 c =
    let x = c.args.jd1 in
    let y = c.args.jd2 in
    let q = quick (sub binary64 x c.nearest_whole-first.result.value) (sub binary64 y c.nearest_whole-second.result.value) (sub-fits binary64 x _)
    (sub-fits binary64 y _) c.if-jd1-first.true c.if-fraction.true c.if-fraction-2.true in
    gives x y (yes c.well_formed.0.1) (yes c.well_formed.1.0.1) c.requires c.nearest_whole-first.result c.nearest_whole-second.result
    c.nearest_whole-first.ensures
    c.nearest_whole-second.ensures _ q.summed _ q.normal c.total_day-day.result c.total_day-day.ensures

pub total_day-day-requires-then-more : goal.total_day-day-requires-then-more
unfolding of_bits neg
total_day-day-requires-then-more c =
    let x = c.args.jd1 in
    let y = c.args.jd2 in
    let q = quick_borrowed (sub binary64 x c.nearest_whole-first.result.value) (sub binary64 y c.nearest_whole-second.result.value) (sub-fits binary64 x _)
    (sub-fits binary64 y _) c.if-jd1-first.true c.if-fraction.false c.if-fraction-3.true c.if-more.true in
    asks x y (yes c.well_formed.0.1) (yes c.well_formed.1.0.1) c.requires c.nearest_whole-first.result c.nearest_whole-second.result
    c.nearest_whole-first.ensures
    c.nearest_whole-second.ensures _ q.summed _ q.normal

pub returns-then-more : goal.returns-then-more
unfolding of_bits neg
returns-then-more c =
    let x = c.args.jd1 in
    let y = c.args.jd2 in
    let q = quick_borrowed (sub binary64 x c.nearest_whole-first.result.value) (sub binary64 y c.nearest_whole-second.result.value) (sub-fits binary64 x _)
    (sub-fits binary64 y _) c.if-jd1-first.true c.if-fraction.false c.if-fraction-3.true c.if-more.true in
    gives x y (yes c.well_formed.0.1) (yes c.well_formed.1.0.1) c.requires c.nearest_whole-first.result c.nearest_whole-second.result
    c.nearest_whole-first.ensures
    c.nearest_whole-second.ensures _ q.summed _ q.normal c.total_day-day-then-more.result c.total_day-day-then-more.ensures
