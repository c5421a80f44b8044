-- UTC to TAI without the rule that it passes on is the conversion of before, refusals included. Assumes nothing.
use mathlib.Core.Path.{◌≡◌, refl}
use mathlib.Core.List.{List}
use Prim.Native.Nat.{ℕ}
use lib.Ieee.{Float}
use Rattle.refusals.specs.Outcome.{Outcome, answer, refusal}
use Rattle.refusals.proofs.Onward.{went, stopped}
use Rattle.julian.specs.declared.CalendarFields.{CalendarFields}
use Rattle.julian.specs.declared.JulianDate.{JulianDate}
use Rattle.julian.specs.Calendar.{julian_to_calendar}
use Rattle.leap_table.specs.rows.Table.{Row}
use Rattle.leap_table.specs.offsets.Rule.{forget}
use Rattle.utc_scales.specs.days.LargerPart.{kept_parts, change_smaller}
use Rattle.utc_scales.specs.days.DateRule.{rule_of_date, pass_on}
use Rattle.utc_scales.proofs.days.Rules.{passed_forgets, refused-forgets}
use Rattle.utc_scales.specs.UtcTai.{tai_fraction, utc_to_tai}
use Rattle.utc_scales.specs.ByRule.{utc_to_tai_by_rule}

module _ (rows : List Row) (d : JulianDate) where
  abbrev big : Float
  big = (kept_parts d).larger

  abbrev small : Float
  small = (kept_parts d).smaller

  no_date : (k : ℕ) → julian_to_calendar big small ≡ refusal k → utc_to_tai rows d ≡ refusal k
  unfolding utc_to_tai change_smaller tai_fraction
  no_date k e = stopped _ (stopped _ e)

  pub utc-to-tai-forgets : forget (utc_to_tai_by_rule rows d) ≡ utc_to_tai rows d
  unfolding utc_to_tai_by_rule rule_of_date
  utc-to-tai-forgets = go (julian_to_calendar big small) refl
    where
      go : (w : Outcome CalendarFields) → julian_to_calendar big small ≡ w → forget (pass_on (utc_to_tai rows d) (rule_of_date rows big small))
          ≡ utc_to_tai rows d
      go (answer c) e = passed_forgets _ _ _ (went _ e)
      go (refusal k) e = refused-forgets _ _ k (no_date k e)
