-- `utc_scales::from_ut1::months::month_of` meets its contract. Assumes nothing.
use Rattle.std.proofs.Common.{rules}
use mathlib.Core.Path.{sym, ap, ◌∙◌}
use lib.IntN.{ℤ}
use mir.Syntax.{w32}
use mir.Facts.{to_z-of_z}
use Rattle.refusals.specs.Outcome.{outcome, seen}
use Rattle.refusals.proofs.Handed.{seen_handed_on}
use Rattle.calendar.specs.declared.CalendarDate.{CalendarDate}
use Rattle.calendar.specs.Gregorian.{gregorian_date}
use Rattle.leap_table.specs.rows.Announced.{rows_of}
use Rattle.leap_table.specs.offsets.Rule.{with_rule}
use Rattle.leap_table.proofs.offsets.Rules.{apart, refused-apart}
use Rattle.utc_scales.specs.days.Dates.{offset_at0h}
use Rattle.utc_scales.specs.days.DateRule.{rule_on}
use Rattle.utc_scales.specs.from_ut1.KnownMonths.{RightMonths}
use Rattle.utc_scales.proofs.Refused.{where_err}
use Rattle.utc_scales.proofs.from_ut1.MonthOffsets.{month-right}
use Rattle.utc_scales.proofs.from_ut1.months.month_of.Goals as goal

pub returns-in_err-offset : goal.returns-in_err-offset
unfolding outcome RightMonths
returns-in_err-offset c =
    let rows = rows_of c.args.table.now in
    let h = c.in_err-offset.ensures
    ∙ ap (λ (z : ℤ). with_rule (offset_at0h rows (gregorian_date z)) (rule_on rows (gregorian_date z))) (to_z-of_z c.ranges.day) in (
      seen_handed_on _ _ _ c.from_residual.ensures.1 ∙ sym (refused-apart _ _ _ (sym h)),
      where_err (RightMonths rows) _ _ c.from_residual.ensures.1 tt,
    )

pub returns : goal.returns
unfolding outcome seen RightMonths
returns c =
    let rows = rows_of c.args.table.now in
    let h = c.in_ok-offset.ensures
    ∙ ap (λ (z : ℤ). with_rule (offset_at0h rows (gregorian_date z)) (rule_on rows (gregorian_date z))) (to_z-of_z c.ranges.day) in
    let g = c.gregorian_date-t.ensures ∙ ap gregorian_date (to_z-of_z c.ranges.day) in
    let p = (apart _ _ _ _ (sym h)).0 in (
      sym p,
      month-right _ c.args.day _ (to_z-of_z {w = w32} {z = c.gregorian_date-t.result.year} (search rules) ∙ ap (λ (t : CalendarDate). t.year) g)
          (ap (λ (t : CalendarDate). t.month) g) p,
    )
