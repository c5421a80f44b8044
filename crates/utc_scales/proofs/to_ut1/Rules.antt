-- UTC to UT1 without the rule that it passes on is the conversion of before, refusals included. Assumes nothing.
use mathlib.Core.Path.{◌≡◌, refl}
use mathlib.Core.List.{List}
use Prim.Native.Nat.{ℕ}
use lib.Ieee.{Float}
use Rattle.refusals.specs.Outcome.{Outcome, answer, refusal, onward}
use Rattle.refusals.proofs.Onward.{went, stopped}
use Rattle.julian.specs.declared.CalendarFields.{CalendarFields}
use Rattle.julian.specs.declared.JulianDate.{JulianDate}
use Rattle.julian.specs.Calendar.{julian_to_calendar}
use Rattle.julian.specs.Finite.{finite_arg}
use Rattle.leap_table.specs.rows.Table.{Row}
use Rattle.leap_table.specs.offsets.Rule.{forget}
use Rattle.utc_scales.specs.days.Dates.{offset_of_date}
use Rattle.utc_scales.specs.days.DateRule.{rule_of_date, pass_on}
use Rattle.utc_scales.proofs.days.Rules.{passed_forgets, refused-forgets}
use Rattle.utc_scales.specs.UtcTai.{utc_to_tai}
use Rattle.utc_scales.specs.to_ut1.UtcUt1.{utc_to_ut1}
use Rattle.utc_scales.specs.to_ut1.ByRule.{utc_to_ut1_by_rule}

module _ (rows : List Row) (d : JulianDate) where
  -- refused after two others, it is refused
  late : {A B C D : Type 0} (o : Outcome A) (p : Outcome B) (q : Outcome C) (f : B → C → Outcome D) (k : ℕ) → q ≡ refusal k → (j : ℕ)
      × (onward o (λ _. onward p (λ b. onward q (f b))) ≡ refusal j)
  unfolding onward
  late (refusal j) p q f k e = (j, refl)
  late (answer a) (refusal j) q f k e = (j, refl)
  late (answer a) (answer b) q f k e = (k, stopped (f b) e)

  pub utc-to-ut1-forgets : (dut1 : Float) → forget (utc_to_ut1_by_rule rows d dut1) ≡ utc_to_ut1 rows d dut1
  unfolding utc_to_ut1_by_rule rule_of_date utc_to_ut1 offset_of_date
  utc-to-ut1-forgets dut1 = go (julian_to_calendar d.jd1 d.jd2) refl
    where
      go : (w : Outcome CalendarFields) → julian_to_calendar d.jd1 d.jd2 ≡ w
          → forget (pass_on (utc_to_ut1 rows d dut1) (rule_of_date rows d.jd1 d.jd2)) ≡ utc_to_ut1 rows d dut1
      go (answer c) e = passed_forgets _ _ _ (went _ e)
      go (refusal k) e =
          let (j, h) = late (finite_arg dut1) (utc_to_tai rows d) (offset_of_date rows d.jd1 d.jd2) _ k (stopped _ e) in
          refused-forgets _ _ j h
