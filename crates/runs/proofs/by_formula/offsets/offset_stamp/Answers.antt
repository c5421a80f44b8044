-- `runs::by_formula::offsets::offset_stamp` meets its contract: a not-finite offset is told after a not-finite part, and else the stamp is moved by so many
-- days. Assumes nothing.
use mathlib.Core.Path.{sym, ap, ◌∙◌}
use mathlib.Core.Bool.{cond}
use lib.Ieee.{Float, binary64, of_bits, neg, div}
use Rattle.constants.proofs.Bits.{seconds-per-day}
use Rattle.julian.specs.shifts.Shifts.{days_of}
use Rattle.runs.proofs.by_formula.Puts.{put_refused, put_same}
use Rattle.runs.proofs.by_formula.Judged.{no_nan, offset-not-finite, not_finite_small, offset-moves}
use Rattle.runs.proofs.by_formula.offsets.offset_stamp.Goals as goal

pub returns-then-not-is_number : goal.returns-then-not-is_number
returns-then-not-is_number c =
    let a = c.args in
    put_refused _ _ a.i _ a.out1.now a.out2.now
    (offset-not-finite a.earlier a.jd1s.now a.jd2s.now a.offsets.now a.i _ c.pattern_at-c.ensures
    (sym c.is_number.ensures ∙ c.if-not-is_number.true))
    (c.not_finite_number.ensures ∙ not_finite_small a.earlier a.jd1s.now a.jd2s.now a.offsets.now a.i)

pub float_from_bits-days : goal.float_from_bits-days
float_from_bits-days c = no_nan _ (sym c.is_number.ensures ∙ c.if-not-is_number.false)

pub returns : goal.returns
unfolding days_of
returns c =
    let a = c.args in
    put_same (offset-moves a.earlier a.jd1s.now a.jd2s.now a.offsets.now a.i _ _
    c.pattern_at-c.ensures
    (sym c.is_number.ensures
    ∙ c.if-not-is_number.false)
    (c.turned.ensures
    ∙ ap (λ (z : Float). cond a.earlier
    (neg (div binary64 (of_bits binary64 c.pattern_at-c.result) z))
    (div binary64 (of_bits binary64 c.pattern_at-c.result) z))
    seconds-per-day)) c.change_stamp.ensures
