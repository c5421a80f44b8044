-- `calendar::gregorian_date` meets its contract: the two ends, and between them the day's date. Assumes nothing.
use mathlib.Core.Path.{ap, sym, ◌∙◌}
use mathlib.Core.Bool.{true, false}
use lib.IntN.{ℤ, pos, ◌+ℤ◌}
use mir.Facts.{to_z-of_z}
use Rattle.calendar.specs.Calendar.{date_of}
use Rattle.calendar.proofs.Signs.{lt_left, lt_right}
use Rattle.calendar.proofs.Gregorian.{shifted_day_is, gregorian_is_date_of_day, gregorian_above, gregorian_below}
use Rattle.calendar.proofs.gregorian_date.Goals as goal

pub returns-then-jd-ltminus68569 : goal.returns-then-jd-ltminus68569
returns-then-jd-ltminus68569 c = sym (gregorian_below c.args.jd (lt_left c.args.jd _ true c.ranges.jd c.if-jd-ltminus68569.true))

pub returns-then-jd-gt1000000000 : goal.returns-then-jd-gt1000000000
unfolding date_of
returns-then-jd-gt1000000000 c =
    c.date_of_shifted_day.ensures
    ∙ sym
    (gregorian_above c.args.jd (lt_left c.args.jd _ false c.ranges.jd c.if-jd-ltminus68569.false)
    (lt_right (pos 1000000000) c.args.jd true c.ranges.jd c.if-jd-gt1000000000.true))

pub returns : goal.returns
returns c =
    c.date_of_shifted_day-2.ensures
    ∙ sym (shifted_day_is c.args.jd c.shifted_day.result (c.shifted_day.ensures.0 ∙ ap (λ (z : ℤ). z +ℤ pos 68569) (to_z-of_z c.ranges.jd)))
    ∙ sym
    (gregorian_is_date_of_day c.args.jd (lt_left c.args.jd _ false c.ranges.jd c.if-jd-ltminus68569.false)
    (lt_right (pos 1000000000) c.args.jd false c.ranges.jd c.if-jd-gt1000000000.false))
