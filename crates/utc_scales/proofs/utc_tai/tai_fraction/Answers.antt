-- `utc_scales::utc_tai::tai_fraction` meets its contract. Assumes nothing.
use mathlib.Core.Path.{sym, ap, ◌∙◌}
use lib.Ieee.{Float, binary64, of_int}
use lib.IntN.{ℤ, pos, ◌-ℤ◌}
use Rattle.refusals.specs.Outcome.{answer, outcome, seen}
use Rattle.refusals.proofs.Handed.{seen_handed_on}
use Rattle.floats.proofs.Laws.{yes}
use Rattle.constants.specs.Constants.{mjd_zero_point}
use Rattle.calendar.specs.Gregorian.{gregorian_date}
use Rattle.julian.proofs.day_number.Ranges.{day-range, day-read}
use Rattle.julian.specs.JulianDate.{julian}
use Rattle.leap_table.specs.rows.Announced.{rows_of}
use Rattle.leap_table.proofs.offsets.Rules.{apart, refused-apart}
use Rattle.utc_scales.specs.Known.{read_on, RightDay, DayOfDate}
use Rattle.utc_scales.specs.UtcTai.{tai_from_midnight}
use Rattle.utc_scales.proofs.Refused.{where_err}
use Rattle.utc_scales.proofs.days.Midnights.{day-asked}
use Rattle.utc_scales.proofs.Steps.{offsets-first, tai-no-date, tai-no-offsets, tai-of-day}
use Rattle.utc_scales.proofs.days.Steps.{offset-of-day}
use Rattle.utc_scales.proofs.days.Rules.{rule-of-day}
use Rattle.utc_scales.proofs.utc_tai.tai_fraction.Goals as goal

pub mjd_of-requires : goal.mjd_of-requires
unfolding outcome
mjd_of-requires c =
    let r = day-range _ _ (yes c.well_formed.0.1) (yes c.well_formed.1.0.1) _ (sym c.in_ok-d.ensures) in
    day-asked _ r

pub returns-in_err-d : goal.returns-in_err-d
unfolding outcome DayOfDate
returns-in_err-d c =
    let rows = rows_of c.args.table.now in (
      seen_handed_on _ _ _ c.from_residual.ensures.1 ∙ sym (tai-no-date _ _ _ (sym c.in_err-d.ensures) rows),
      where_err (DayOfDate rows c.args.big c.args.small) _ _ c.from_residual.ensures.1 tt,
    )

pub returns-in_err-offsets : goal.returns-in_err-offsets
unfolding outcome DayOfDate read_on
returns-in_err-offsets c =
    let rows = rows_of c.args.table.now in
    let e = sym c.in_ok-d.ensures in
    let r = day-range _ _ (yes c.well_formed.0.1) (yes c.well_formed.1.0.1) _ e in
    let h = c.in_err-offsets.ensures ∙ ap (λ (z : ℤ). read_on rows (gregorian_date z)) (day-read _ r) in (
      seen_handed_on _ _ _ c.from_residual-in_err-offsets.ensures.1 ∙ sym (tai-no-offsets rows _ _ _ e _ (refused-apart _ _ _ (sym h))),
      where_err (DayOfDate rows c.args.big c.args.small) _ _ c.from_residual-in_err-offsets.ensures.1 tt,
    )

pub returns : goal.returns
unfolding outcome seen DayOfDate RightDay read_on
returns c =
    let rows = rows_of c.args.table.now in
    let e = sym c.in_ok-d.ensures in
    let r = day-range _ _ (yes c.well_formed.0.1) (yes c.well_formed.1.0.1) _ e in
    let g = sym c.in_ok-offsets.ensures in
    let q = apart _ _ _ _ (ap (λ (z : ℤ). read_on rows (gregorian_date z)) (sym (day-read _ r)) ∙ g) in
    let m = c.mjd_of.ensures ∙ ap (λ (z : ℤ). of_int binary64 (z -ℤ pos 2400001)) (day-read _ r) in (
      ap answer (c.tai_from_midnight-part.ensures
          ∙ ap (λ (z : Float). tai_from_midnight c.args.big (julian mjd_zero_point z) c.in_ok-offsets.offsets c.in_ok-d.d.fraction) m)
          ∙ sym (tai-of-day rows _ _ _ e r _ q.0),
      record {
        right = g;
        same = record {
          offset = offset-of-day rows _ _ _ e ∙ offsets-first rows _ _ q.0;
          by_rule = rule-of-day rows _ _ _ e ∙ ap answer q.1;
        };
      },
    )
