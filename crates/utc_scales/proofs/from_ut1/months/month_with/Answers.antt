-- `utc_scales::from_ut1::months::month_with` meets its contract. Assumes nothing.
use Rattle.std.proofs.Common.{rules}
use mathlib.Core.Path.{sym, ap, ◌∙◌}
use lib.IntN.{pos}
use lib.Signed.{le_z}
use mir.Syntax.{w32}
use mir.Facts.{to_z-of_z}
use Rattle.refusals.specs.Outcome.{seen}
use Rattle.calendar.specs.declared.CalendarDate.{CalendarDate}
use Rattle.calendar.specs.Gregorian.{gregorian_date}
use Rattle.utc_scales.proofs.from_ut1.MonthOffsets.{same_bits}
use Rattle.utc_scales.specs.from_ut1.KnownMonths.{RightMonth, RightMonths}
use Rattle.utc_scales.proofs.from_ut1.months.month_with.Goals as goal

pub returns-then-t-ge1972 : goal.returns-then-t-ge1972
unfolding seen RightMonths RightMonth
returns-then-t-ge1972 c =
    let t = c.gregorian_date-t.ensures ∙ ap gregorian_date (to_z-of_z c.ranges.day) in
    let y = same_bits c.gregorian_date-t.result.year c.args.known.year (search rules) (search rules) c.if-t-known-2.true in
    let l = ap (le_z (pos 1972)) (sym y ∙ sym (to_z-of_z {w = w32} {z = c.gregorian_date-t.result.year} (search rules))) ∙ c.if-t-ge1972.true in
    (sym (c.requires c.args.day (ap (λ (u : CalendarDate). u.year) (sym t) ∙ y) (ap (λ (u : CalendarDate). u.month) (sym t) ∙ c.if-t-known.true) l), c.requires)
