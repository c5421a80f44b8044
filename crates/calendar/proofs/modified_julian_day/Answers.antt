-- `calendar::modified_julian_day` meets its contract: a refusal is handed on, and else the count is the formula's. Assumes nothing.
use mathlib.Core.Path.{ap, sym, ◌∙◌}
use native.Mathlib.Omega.{arith}
use lib.IntN.{ℤ, pos, negsuc, nat_abs, ◌+ℤ◌}
use lib.Signed.{lt_z}
use mir.Syntax.{w64}
use mir.Facts.{to_z-of_z}
use Rattle.refusals.specs.Outcome.{answer, outcome}
use Rattle.refusals.proofs.Handed.{handed_on}
use Rattle.calendar.specs.Calendar.{leap_year}
use Rattle.calendar.proofs.Signs.{to-unsigned, read_back}
use Rattle.calendar.proofs.Accepted.{short, is-valid, is-refused, by_check}
use Rattle.calendar.proofs.Mjd.{mjd-refused, mjd-given, number_is}
use Rattle.calendar.proofs.modified_julian_day.Goals as goal

pub returns-in_err-validate_calendar_date : goal.returns-in_err-validate_calendar_date
returns-in_err-validate_calendar_date c =
    handed_on _ _ c.from_residual.ensures.1
    ∙ sym
    (mjd-refused _ _ _ _
    (is-refused _ _ _ c.ranges.year c.ranges.month c.ranges.day c.validate_calendar_date.result c.validate_calendar_date.ensures _
    c.in_err-validate_calendar_date.was))

pub raised_year-requires : goal.raised_year-requires
raised_year-requires c =
    let ok = by_check _ _ _ c.ranges.year c.ranges.month c.ranges.day _ c.validate_calendar_date.ensures c.in_ok-validate_calendar_date.was in
    ap (λ (z : ℤ). lt_z z (negsuc 4798)) (to_z-of_z c.ranges.year) ∙ ok.year

pub overflow_cast-month : goal.overflow_cast-month
overflow_cast-month c =
    let ok = by_check _ _ _ c.ranges.year c.ranges.month c.ranges.day _ c.validate_calendar_date.ensures c.in_ok-validate_calendar_date.was in
    to-unsigned _ c.ranges.month ok.m-sign

pub overflow_cast-day : goal.overflow_cast-day
overflow_cast-day c =
    let ok = by_check _ _ _ c.ranges.year c.ranges.month c.ranges.day _ c.validate_calendar_date.ensures c.in_ok-validate_calendar_date.was in
    to-unsigned _ c.ranges.day ok.d_sign

pub civil_count-requires : goal.civil_count-requires
civil_count-requires c =
    let ok = by_check _ _ _ c.ranges.year c.ranges.month c.ranges.day _ c.validate_calendar_date.ensures c.in_ok-validate_calendar_date.was in
    let m = read_back c.args.month c.ranges.month in
    let d = read_back c.args.day c.ranges.day in
    let b = short (leap_year c.args.year) (nat_abs c.args.month) ok.m_low ok.m_high in
    (c.raised_year.ensures.1, c.raised_year.ensures.2, omega (arith, m, ok.m_low), omega (arith, m, ok.m_high), omega (arith, d, ok.d_high, b))

pub returns : goal.returns
unfolding outcome
returns c =
    let valid = is-valid _ _ _ c.ranges.year c.ranges.month c.ranges.day _ c.validate_calendar_date.ensures c.in_ok-validate_calendar_date.was in
    ap answer
    (to_z-of_z {w = w64} {z = c.count_to_mjd.result} (record { sfits = c.count_to_mjd.type_inv })
    ∙ c.count_to_mjd.ensures
    ∙ number_is c.args.year c.args.month c.args.day c.raised_year.result c.civil_count.result _ _
    (c.raised_year.ensures.0 ∙ ap (λ (z : ℤ). z +ℤ pos 4800) (to_z-of_z c.ranges.year))
    c.civil_count.ensures.0 (read_back c.args.month c.ranges.month) (read_back c.args.day c.ranges.day))
    ∙ sym (mjd-given _ _ _ valid)
