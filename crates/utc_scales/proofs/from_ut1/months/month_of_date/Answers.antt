-- `utc_scales::from_ut1::months::month_of_date` meets its contract. Assumes nothing.
use mathlib.Core.Path.{sym, ap, ◌∙◌}
use lib.IntN.{ℤ}
use Rattle.refusals.specs.Outcome.{outcome}
use Rattle.refusals.proofs.Handed.{seen_handed_on}
use Rattle.floats.proofs.Laws.{yes}
use Rattle.calendar.specs.Gregorian.{gregorian_date}
use Rattle.julian.proofs.day_number.Ranges.{day-range, day-read}
use Rattle.utc_scales.specs.days.Dates.{offset_at0h}
use Rattle.utc_scales.specs.from_ut1.KnownMonths.{RightMonths}
use Rattle.utc_scales.proofs.Refused.{where_err}
use Rattle.utc_scales.proofs.days.Steps.{offset-no-date, offset-of-day}
use Rattle.leap_table.specs.rows.Announced.{rows_of}
use Rattle.utc_scales.proofs.from_ut1.months.month_of_date.Goals as goal

pub returns-in_err-d : goal.returns-in_err-d
unfolding outcome RightMonths
returns-in_err-d c =
    let rows = rows_of c.args.table.now in (
      seen_handed_on _ _ _ c.from_residual.ensures.1 ∙ sym (offset-no-date _ _ _ (sym c.in_err-d.ensures) rows),
      where_err (RightMonths rows) _ _ c.from_residual.ensures.1 tt,
    )

pub returns : goal.returns
unfolding outcome
returns c =
    let rows = rows_of c.args.table.now in
    let e = sym c.in_ok-d.ensures in
    let r = day-range _ _ (yes c.well_formed.0.1) (yes c.well_formed.1.0.1) _ e in (
      c.month_of.ensures.0 ∙ ap (λ (z : ℤ). offset_at0h rows (gregorian_date z)) (day-read _ r) ∙ sym (offset-of-day rows _ _ _ e),
      c.month_of.ensures.1,
    )
