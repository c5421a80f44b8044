-- `day_number_and_fraction` meets its contract. Assumes nothing.
use mathlib.Core.Path.{sym, ap, ◌∙◌}
use mathlib.Core.Bool.{true, false}
use Rattle.refusals.specs.Refusal.{refusal_number}
use Rattle.refusals.specs.Outcome.{answer, outcome}
use Rattle.julian.proofs.day_number.Answer.{answered, refused, tested}
use Rattle.julian.proofs.day_number.day_number_and_fraction.Goals as goal

pub day_in_range-requires : goal.day_in_range-requires
day_in_range-requires c = let s =
    c.args in tested s.jd1 s.jd2 c.check_julian_range.result true c.check_julian_range.ensures c.if-check_julian_range.true

pub returns-then-check_julian_range : goal.returns-then-check_julian_range
unfolding outcome refusal_number
returns-then-check_julian_range c =
    let s = c.args in
    ap answer c.day_in_range.ensures
    ∙ sym (answered s.jd1 s.jd2
    (tested s.jd1 s.jd2 c.check_julian_range.result true c.check_julian_range.ensures c.if-check_julian_range.true))

pub returns-else-check_julian_range : goal.returns-else-check_julian_range
unfolding outcome refusal_number
returns-else-check_julian_range c =
    let s = c.args in
    sym (refused s.jd1 s.jd2 (tested s.jd1 s.jd2 c.check_julian_range.result false c.check_julian_range.ensures c.if-check_julian_range.false))
