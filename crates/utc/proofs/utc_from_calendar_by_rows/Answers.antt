-- `utc::utc_from_calendar_by_rows` meets its contract: the refusal of the date, of its leap, or of the time of its day. Assumes nothing.
use Rattle.std.proofs.Common.{◌≡◌, ℕ, List, ℤ, pos, Float, sym, ap, ◌∙◌, to_z, to_z-of_z, Fits, w8, w32, arith}
use mir.Facts.{to_z_pos}
use lib.Ieee.{of_bits}
use Rattle.std.specs.Prelude.{Result}
use Rattle.refusals.specs.declared.Refusal.{Refusal}
use Rattle.refusals.specs.Outcome.{answer, onward, outcome, seen}
use Rattle.refusals.proofs.Onward.{went, stopped}
use Rattle.refusals.proofs.Handed.{answered, handed, seen_handed_on}
use Rattle.floats.specs.Whole.{nought}
use Rattle.julian.specs.declared.JulianDate.{JulianDate}
use Rattle.julian.specs.Calendar.{from_calendar}
use Rattle.leap_table.specs.declared.offsets.Rule.{Rule}
use Rattle.leap_table.specs.rows.Table.{Row}
use Rattle.leap_table.specs.rows.Announced.{rows_of}
use Rattle.leap_table.specs.offsets.Leap.{leap_at_end_of_day}
use Rattle.leap_table.specs.offsets.Rule.{forget, leap_by_rule}
use Rattle.leap_table.proofs.offsets.Rules.{leap-forgets}
use Rattle.utc.specs.FromCalendar.{midnight_plus, utc_from_calendar}
use Rattle.utc.proofs.utc_from_calendar_by_rows.Goals as goal

-- the date's midnight
midnight-called : (year y : ℤ) (month day : ℕ) (r : Result JulianDate Refusal) → y ≡ year → outcome r ≡ from_calendar y month day 0 0 nought
    → from_calendar year month day 0 0 nought ≡ outcome r
midnight-called year y month day r e h = sym (h ∙ ap (λ (z : ℤ). from_calendar z month day 0 0 nought) e)

-- the call for the day's leap
leap-called : (rows : List Row) (year y : ℤ) (month day : ℕ) (r : Result (Float × Rule) Refusal) → y ≡ year → Fits w8 month → Fits w8 day
    → outcome r ≡ leap_by_rule rows y (to_z w32 month) (to_z w32 day) → leap_at_end_of_day rows year (pos month) (pos day) ≡ forget (outcome r)
leap-called rows year y month day r e m d h =
    sym (ap forget (h ∙ (λ i. leap_by_rule rows (e i) (to_z_pos w32 {n = month} (omega (arith, m.fits)) i) (to_z_pos w32 {n = day} (omega (arith, d.fits)) i)))
    ∙ leap-forgets rows year (pos month) (pos day))

pub returns-in_err-midnight : goal.returns-in_err-midnight
unfolding utc_from_calendar of_bits
returns-in_err-midnight c =
    let a = c.args in
    seen_handed_on _ _ _ c.from_residual.ensures.1
    ∙ sym (stopped _ (midnight-called a.year _ a.month a.day _ (to_z-of_z c.ranges.year) c.from_calendar.ensures ∙ handed c.in_err-midnight.was))

pub returns-in_err-leap : goal.returns-in_err-leap
unfolding utc_from_calendar onward forget of_bits
returns-in_err-leap c =
    let a = c.args in
    let m = midnight-called a.year _ a.month a.day _ (to_z-of_z c.ranges.year) c.from_calendar.ensures ∙ answered c.in_ok-midnight.was in
    let l = leap-called (rows_of a.table.now) a.year _ a.month a.day _ (to_z-of_z c.ranges.year) c.ranges.month c.ranges.day
    c.leap_at_end_of_day_by_rows.ensures ∙ ap forget (handed c.in_err-leap.was) in
    seen_handed_on _ _ _ c.from_residual-in_err-leap.ensures.1 ∙ sym (went _ m ∙ stopped _ l)

pub returns-in_err-fraction : goal.returns-in_err-fraction
unfolding utc_from_calendar midnight_plus onward forget of_bits
returns-in_err-fraction c =
    let a = c.args in
    let m = midnight-called a.year _ a.month a.day _ (to_z-of_z c.ranges.year) c.from_calendar.ensures ∙ answered c.in_ok-midnight.was in
    let l = leap-called (rows_of a.table.now) a.year _ a.month a.day _ (to_z-of_z c.ranges.year) c.ranges.month c.ranges.day
    c.leap_at_end_of_day_by_rows.ensures ∙ ap forget (answered c.in_ok-leap.was) in
    seen_handed_on _ _ _ c.from_residual-in_err-fraction.ensures.1
    ∙ sym (went _ m ∙ went _ l ∙ stopped _ (sym c.day_fraction.ensures ∙ handed c.in_err-fraction.was))

pub returns : goal.returns
unfolding utc_from_calendar midnight_plus seen onward forget of_bits
returns c =
    let a = c.args in
    let m = midnight-called a.year _ a.month a.day _ (to_z-of_z c.ranges.year) c.from_calendar.ensures ∙ answered c.in_ok-midnight.was in
    let l = leap-called (rows_of a.table.now) a.year _ a.month a.day _ (to_z-of_z c.ranges.year) c.ranges.month c.ranges.day
    c.leap_at_end_of_day_by_rows.ensures ∙ ap forget (answered c.in_ok-leap.was) in
    ap answer c.new.ensures ∙ sym (went _ m ∙ went _ l ∙ went _ (sym c.day_fraction.ensures ∙ answered c.in_ok-fraction.was))
