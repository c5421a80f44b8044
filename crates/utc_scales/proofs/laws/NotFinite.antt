-- WHAT IS NOT FINITE IS REFUSED, for any rows: a part that is not finite by 6 in UTC to TAI, TAI to UTC and UTC to UT1 and by 9 in UT1 to UTC, and a DUT1 that
-- is not finite by 10. Assumes nothing.
use mathlib.Core.Path.{◌≡◌, refl, ap, ◌∙◌, subst}
use mathlib.Core.Bool.{Bool, true, false, cond, ◌&&◌}
use mathlib.Core.List.{List}
use lib.Dec.{T}
use lib.Ieee.{Float}
use lib.Ieee.Scale.{finite}
use Rattle.refusals.specs.Outcome.{answer, refusal}
use Rattle.julian.specs.day_number.DayNumber.{accepted}
use Rattle.julian.proofs.day_number.Answer.{refused}
use Rattle.julian.proofs.day_number.JulianRange.{accepted-finite}
use Rattle.julian.specs.declared.JulianDate.{JulianDate}
use Rattle.julian.specs.JulianDate.{julian}
use Rattle.julian.specs.Finite.{both_finite, finite_parts, finite_jd, finite_arg}
use Rattle.leap_table.specs.rows.Table.{Row}
use Rattle.refusals.proofs.Onward.{went, stopped}
use Rattle.utc_scales.specs.days.LargerPart.{first_is_kept, kept_as, kept_parts, change_smaller}
use Rattle.utc_scales.specs.UtcTai.{utc_to_tai, refined, rounds, refine_utc_fraction, tai_to_utc}
use Rattle.utc_scales.specs.to_ut1.UtcUt1.{utc_to_ut1}
use Rattle.utc_scales.specs.from_ut1.Ut1Utc.{ut1_to_utc}
use Rattle.utc_scales.proofs.Steps.{tai-no-date}

-- a pair that passes the range test is finite
not_accepted : (x y : Float) → both_finite x y ≡ false → accepted x y ≡ false
not_accepted x y e = go (accepted x y) refl
  where
    both : (a b : Bool) → T a → T b → (a && b) ≡ false → ⊥
    both true true f g h = subst T h tt
    both true false f g h = g
    both false b f g h = f

    go : (b : Bool) → accepted x y ≡ b → accepted x y ≡ false
    go true h = let f = accepted-finite x y h in absurd (both (finite x) (finite y) f.0 f.1 e)
    go false h = h

turned : (a b : Bool) → (b && a) ≡ (a && b)
turned true true = refl
turned true false = refl
turned false true = refl
turned false false = refl

parts-not : (d : JulianDate) → finite_parts d ≡ false → both_finite (kept_parts d).larger (kept_parts d).smaller ≡ false
unfolding kept_parts
parts-not d e = go (first_is_kept d)
  where
    go : (b : Bool) → both_finite (kept_as d b).larger (kept_as d b).smaller ≡ false
    go true = e
    go false = turned (finite d.jd1) (finite d.jd2) ∙ e

pub utc-to-tai-not-finite : (rows : List Row) (d : JulianDate) → finite_parts d ≡ false → utc_to_tai rows d ≡ refusal 6
unfolding utc_to_tai change_smaller
utc-to-tai-not-finite rows d e = let p =
    kept_parts d in stopped _ (tai-no-date p.larger p.smaller 6
    (refused p.larger p.smaller (not_accepted p.larger p.smaller (parts-not d e))) rows)

pub tai-to-utc-not-finite : (rows : List Row) (d : JulianDate) → finite_parts d ≡ false → tai_to_utc rows d ≡ refusal 6
unfolding tai_to_utc change_smaller refine_utc_fraction rounds refined
tai-to-utc-not-finite rows d e = let p =
    kept_parts d in stopped _ (stopped _ (stopped _ (utc-to-tai-not-finite rows (julian p.larger p.smaller) (parts-not d e))))

-- ---- DUT1
offset-finite : (x : Float) (b : Bool) → finite x ≡ b → finite_arg x ≡ cond b (answer x) (refusal 10)
unfolding finite_arg
offset-finite x b e = rw e

module _ (rows : List Row) (d : JulianDate) (dut1 : Float) where
  pub utc-to-ut1-no-offset : finite dut1 ≡ false → utc_to_ut1 rows d dut1 ≡ refusal 10
  unfolding utc_to_ut1
  utc-to-ut1-no-offset e = stopped _ (offset-finite dut1 false e)

  pub ut1-to-utc-no-offset : finite dut1 ≡ false → ut1_to_utc rows d dut1 ≡ refusal 10
  unfolding ut1_to_utc
  ut1-to-utc-no-offset e = stopped _ (offset-finite dut1 false e)

  pub utc-to-ut1-not-finite : finite dut1 ≡ true → finite_parts d ≡ false → utc_to_ut1 rows d dut1 ≡ refusal 6
  unfolding utc_to_ut1
  utc-to-ut1-not-finite e h = went _ (offset-finite dut1 true e) ∙ stopped _ (utc-to-tai-not-finite rows d h)

  pub ut1-to-utc-not-finite : finite dut1 ≡ true → finite_parts d ≡ false → ut1_to_utc rows d dut1 ≡ refusal 9
  unfolding ut1_to_utc finite_jd
  ut1-to-utc-not-finite e h = went _ (offset-finite dut1 true e) ∙ stopped _ (ap (λ (b : Bool). cond b (answer d) (refusal 9)) h)
