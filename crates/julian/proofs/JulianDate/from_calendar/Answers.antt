-- `julian::JulianDate::from_calendar` meets its contract. Assumes nothing.
use mathlib.Core.Path.{◌≡◌, ◌∙◌}
use native.Mathlib.Omega.{arith}
use lib.IntN.{ℤ, pos}
use lib.Ieee.{of_bits}
use Prim.Native.Nat.{ℕ, ◌<◌}
use mir.Syntax.{w32}
use mir.Val.{SFits, to_z, of_z}
use mir.Facts.{to_z-of_z, to_z_pos}
use Rattle.refusals.specs.Outcome.{Outcome, answer, outcome}
use Rattle.refusals.proofs.Handed.{stops, goes}
use Rattle.floats.specs.Whole.{nought}
use Rattle.julian.specs.declared.JulianDate.{JulianDate}
use Rattle.julian.specs.JulianDate.{julian, rounded_sum}
use Rattle.julian.specs.Calendar.{calendar_to_julian, from_calendar, at_time}
use Rattle.julian.specs.DayFraction.{day_fraction}
use Rattle.julian.proofs.JulianDate.from_calendar.Goals as goal

-- the midnight of the date as it was read
read : {o : Outcome JulianDate} {y : ℤ} {m d : ℕ} → SFits w32 y → m < 256 → d < 256
    → o ≡ calendar_to_julian (to_z w32 (of_z w32 y)) (to_z w32 m) (to_z w32 d) → o ≡ calendar_to_julian y (pos m) (pos d)
read {m = m} {d = d} f g h e =
    e ∙ (λ i. calendar_to_julian (to_z-of_z f i) (to_z_pos w32 {n = m} (omega (arith, g)) i) (to_z_pos w32 {n = d} (omega (arith, h)) i))

pub returns-in_err-midnight : goal.returns-in_err-midnight
unfolding from_calendar
returns-in_err-midnight c =
    stops _ _ _ _ c.from_residual.ensures.1 (read c.ranges.year c.ranges.month.fits c.ranges.day.fits c.in_err-midnight.ensures)

pub returns-in_err-fraction : goal.returns-in_err-fraction
unfolding from_calendar at_time of_bits
returns-in_err-fraction c =
    stops _ _ _ _ c.from_residual-in_err-fraction.ensures.1 c.in_err-fraction.ensures
    ∙ goes _ _ (λ (midnight : JulianDate). at_time midnight (day_fraction c.args.hour c.args.minute c.args.second nought))
    (read c.ranges.year c.ranges.month.fits c.ranges.day.fits c.in_ok-midnight.ensures)

pub returns : goal.returns
unfolding outcome from_calendar at_time of_bits
returns c =
    rw (c.new.ensures, c.to_f64.ensures)
    (goes _ _ (λ f. answer (julian (rounded_sum c.in_ok-midnight.midnight) f)) c.in_ok-fraction.ensures
    ∙ goes _ _ (λ (midnight : JulianDate). at_time midnight (day_fraction c.args.hour c.args.minute c.args.second nought))
    (read c.ranges.year c.ranges.month.fits c.ranges.day.fits c.in_ok-midnight.ensures))
