-- `utc_scales::from_ut1::scan_day` meets its contract. Assumes nothing.
use mathlib.Core.Path.{sym, ap, ◌∙◌}
use lib.Ieee.Fits.{add-fits}
use lib.Ieee.{Float, binary64, of_int, of_bits, sub, lt}
use lib.IntN.{ℤ, pos, ◌-ℤ◌}
use Rattle.refusals.specs.Outcome.{answer, outcome, seen}
use Rattle.refusals.proofs.Handed.{seen_handed_on}
use Rattle.floats.specs.Whole.{half}
use Rattle.floats.proofs.Laws.{yes}
use Rattle.constants.specs.Constants.{mjd_zero_point}
use Rattle.calendar.specs.Gregorian.{gregorian_date}
use Rattle.julian.proofs.day_number.Ranges.{day-range, day-read}
use Rattle.julian.specs.JulianDate.{julian}
use Rattle.leap_table.specs.rows.Announced.{rows_of}
use Rattle.utc_scales.specs.days.Dates.{offset_at0h}
use Rattle.utc_scales.specs.from_ut1.KnownMonths.{RightMonths, RightScan}
use Rattle.utc_scales.specs.from_ut1.Ut1Utc.{step, scanned, near_step}
use Rattle.utc_scales.proofs.Refused.{where_err}
use Rattle.utc_scales.proofs.days.Midnights.{day-asked}
use Rattle.utc_scales.proofs.from_ut1.Steps.{scan-no-date, scan-no-offset, scan-no-step, scan_step}
use Rattle.utc_scales.proofs.from_ut1.scan_day.Goals as goal

pub mjd_of-requires : goal.mjd_of-requires
unfolding outcome
mjd_of-requires c =
    let r = day-range _ _ (yes c.well_formed.0.1) (add-fits binary64 c.args.small c.args.i) _ (sym c.in_ok-d.ensures) in
    day-asked _ r

pub returns-in_err-d : goal.returns-in_err-d
unfolding outcome RightScan
returns-in_err-d c =
    let rows = rows_of c.args.table.now in (
      seen_handed_on _ _ _ c.from_residual.ensures.1 ∙ sym (scan-no-date rows _ _ _ _ _ _ (sym c.in_err-d.ensures)),
      where_err (RightScan rows) _ _ c.from_residual.ensures.1 tt,
    )

pub returns-in_err-k : goal.returns-in_err-k
unfolding outcome seen RightScan
returns-in_err-k c =
    let rows = rows_of c.args.table.now in
    let e = sym c.in_ok-d.ensures in
    let r = day-range _ _ (yes c.well_formed.0.1) (add-fits binary64 c.args.small c.args.i) _ e in
    let h = c.in_err-k.ensures.0 ∙ ap (λ (z : ℤ). offset_at0h rows (gregorian_date z)) (day-read _ r) in (
      seen_handed_on scanned _ _ c.from_residual-in_err-k.ensures.1 ∙ sym (scan-no-offset rows _ _ _ _ _ _ e _ (sym h)),
      where_err (RightScan rows) _ _ c.from_residual-in_err-k.ensures.1 tt,
    )

pub returns-then-fabs : goal.returns-then-fabs
unfolding outcome seen scanned RightScan RightMonths of_bits
returns-then-fabs c =
    let rows = rows_of c.args.table.now in
    let e = sym c.in_ok-d.ensures in
    let r = day-range _ _ (yes c.well_formed.0.1) (add-fits binary64 c.args.small c.args.i) _ e in
    let h = c.in_ok-k.ensures.0 ∙ ap (λ (z : ℤ). offset_at0h rows (gregorian_date z)) (day-read _ r) in (
      sym (scan-no-step rows _ _ _ _ _ _ e _ (sym h) (ap (λ (z : Float). lt z half) (sym c.fabs.ensures) ∙ c.if-fabs.true)),
      c.in_ok-k.ensures.1,
    )

pub returns : goal.returns
unfolding outcome seen scanned RightScan of_bits
returns c =
    let rows = rows_of c.args.table.now in
    let e = sym c.in_ok-d.ensures in
    let r = day-range _ _ (yes c.well_formed.0.1) (add-fits binary64 c.args.small c.args.i) _ e in
    let h = c.in_ok-k.ensures.0 ∙ ap (λ (z : ℤ). offset_at0h rows (gregorian_date z)) (day-read _ r) in
    let w = c.mjd_of.ensures ∙ ap (λ (z : ℤ). of_int binary64 (z -ℤ pos 2400001)) (day-read _ r) in (
      ap (λ (z : Float). answer (step z))
          (c.near_step.ensures ∙ ap (λ (z : Float). near_step c.args.big c.args.small c.args.dut1
          (sub binary64 c.in_ok-k.k.seconds c.args.before.seconds) (julian mjd_zero_point z)) w)
          ∙ sym (scan_step rows _ _ _ _ _ _ e _ (sym h) r (ap (λ (z : Float). lt z half) (sym c.fabs.ensures) ∙ c.if-fabs.false)),
      tt,
    )
