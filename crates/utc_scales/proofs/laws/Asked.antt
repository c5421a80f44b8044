-- A PART OR AN OFFSET THAT IS NOT FINITE is refused by all twenty conversions, and the rule that two of them pass on is that of the calendar's date, for every
-- table that is taken. Assumes nothing.
use mathlib.Core.Path.{◌≡◌, ap, refl, ◌∙◌}
use mathlib.Core.Bool.{Bool, ◌&&◌, false, true, true≢false}
use mathlib.Core.List.{List}
use Prim.Native.Nat.{ℕ}
use lib.Ieee.{Float}
use lib.Ieee.Scale.{finite}
use Rattle.refusals.specs.Outcome.{Outcome, answer, refusal}
use Rattle.julian.specs.declared.JulianDate.{JulianDate}
use Rattle.julian.specs.Finite.{finite_parts}
use Rattle.julian.specs.shifts.SmallerPart.{map_smaller_part}
use Rattle.leap_table.specs.declared.rows.AnnouncedRows.{AnnouncedRows}
use Rattle.leap_table.specs.declared.offsets.Rule.{Rule}
use Rattle.leap_table.specs.rows.Table.{Row}
use Rattle.leap_table.specs.rows.Announced.{table_of}
use Rattle.leap_table.proofs.rows.TablesTaken.{table_none}
use Rattle.scales.specs.Formulas.{tcg_to_tt}
use Rattle.scales.specs.Conversions.{Conversion, answer_of, gps-tai, offset_of, tai-gps, tai-tcg, tai-tt, tai-ut1, tcb-tdb, tcg-tai, tcg-tt, tdb-tcb, tdb-tt}
use Rattle.scales.specs.Conversions.{tt-tai, tt_tcg, tt-tdb, tt-ut1, ut1-tai, ut1-tt}
use Rattle.scales.specs.Refusals.{DecidedFinite, tested_finite}
use Rattle.scales.specs.laws.Ranges.{Held}
use Rattle.scales.proofs.laws.Refuses.{refuses}
use Rattle.utc_scales.specs.UtcTai.{utc_to_tai}
use Rattle.utc_scales.specs.ByRule.{utc_to_tai_by_rule}
use Rattle.utc_scales.specs.days.DateRule.{rule_of_date}
use Rattle.utc_scales.specs.days.LargerPart.{kept_parts}
use Rattle.utc_scales.specs.to_ut1.UtcUt1.{utc_to_ut1}
use Rattle.utc_scales.specs.to_ut1.ByRule.{utc_to_ut1_by_rule}
use Rattle.utc_scales.specs.from_ut1.Ut1Utc.{ut1_to_utc}
use Rattle.utc_scales.specs.laws.Twenty.{Twenty, answer_of_any, by-formula, given_offset, tai_utc, ut1-utc, utc_tai, utc-ut1}
use Rattle.utc_scales.specs.laws.Asked.{ConversionRefuses, NoRowsSame, ScalesPassOn}
use Rattle.utc_scales.proofs.Rules.{utc-to-tai-forgets}
use Rattle.utc_scales.proofs.days.Rules.{taken-apart}
use Rattle.utc_scales.proofs.to_ut1.Rules.{utc-to-ut1-forgets}
use Rattle.utc_scales.proofs.laws.NotFinite.{tai-to-utc-not-finite, ut1-to-utc-not-finite, utc-to-tai-not-finite, utc-to-ut1-not-finite}
use Rattle.utc_scales.proofs.laws.NotFinite.{ut1-to-utc-no-offset, utc-to-ut1-no-offset}
use Rattle.utc_scales.proofs.laws.AnnouncedCalls.{announced_none, by-its-rows}

-- ---- a part or an offset that is not finite

-- who answers has finite parts and a finite offset
not_tested : (k : Conversion) (d : JulianDate) → finite_parts d ≡ false → tested_finite k d ≡ false
unfolding tested_finite
not_tested gps-tai d h = h
not_tested tai-gps d h = h
not_tested tai-tt d h = h
not_tested tt-tai d h = h
not_tested tcg-tt d h = h
not_tested tt_tcg d h = h
not_tested tcb-tdb d h = h
not_tested tdb-tcb d h = h
not_tested tai-tcg d h = h
not_tested tcg-tai d h = ap (λ (b : Bool). b && finite_parts (map_smaller_part tcg_to_tt d)) h
not_tested (tai-ut1 s) d h = h
not_tested (ut1-tai s) d h = h
not_tested (ut1-tt s) d h = h
not_tested (tt-ut1 s) d h = h
not_tested (tt-tdb s) d h = h
not_tested (tdb-tt s) d h = h

abbrev Refuses : Outcome JulianDate → Type 0
Refuses o = (n : ℕ) × (o ≡ refusal n)

by_tests : (b c : Bool) (o : Outcome JulianDate) → b && c ≡ false → DecidedFinite b c o → Refuses o
by_tests false c o h e = (9, e)
by_tests true false o h e = (10, e)
by_tests true true o h e = absurd (true≢false h)

both_false : (b b' c : Bool) → (b ≡ false → b' ≡ false) → b && c ≡ false → b' && c ≡ false
both_false false b' c f h = ap (λ (x : Bool). x && c) (f refl)
both_false true false c f h = refl
both_false true true c f h = h

formula_refuses : (k : Conversion) (d : JulianDate) → Held d → finite_parts d && finite (offset_of k) ≡ false → Refuses (answer_of k d)
formula_refuses k d held h = by_tests (tested_finite k d) (finite (offset_of k)) (answer_of k d)
    (both_false (finite_parts d) (tested_finite k d) (finite (offset_of k)) (not_tested k d) h) (refuses k d held)

by-offset : (b c : Bool) (n : ℕ) (o : Outcome JulianDate) → b && c ≡ false → (c ≡ false → o ≡ refusal 10) → (c ≡ true → b ≡ false → o ≡ refusal n) → Refuses o
by-offset b false n o h f g = (10, f refl)
by-offset false true n o h f g = (n, g refl refl)
by-offset true true n o h f g = absurd (true≢false h)

-- the offset 0.0 is finite
parts-false : (b : Bool) → b && true ≡ false → b ≡ false
parts-false false h = refl
parts-false true h = h

module _ (rows : List Row) (d : JulianDate) where
  four-refuse : (k : Twenty) → Held d → finite_parts d && finite (given_offset k) ≡ false → Refuses (answer_of_any rows k d)
  unfolding answer_of_any given_offset
  four-refuse (by-formula k) held h = formula_refuses k d held h
  four-refuse utc_tai held h = (6, utc-to-tai-not-finite rows d (parts-false (finite_parts d) h))
  four-refuse tai_utc held h = (6, tai-to-utc-not-finite rows d (parts-false (finite_parts d) h))
  four-refuse (utc-ut1 s) held h = by-offset (finite_parts d) (finite s) 6 (utc_to_ut1 rows d s) h (utc-to-ut1-no-offset rows d s)
      (utc-to-ut1-not-finite rows d s)
  four-refuse (ut1-utc s) held h = by-offset (finite_parts d) (finite s) 9 (ut1_to_utc rows d s) h (ut1-to-utc-no-offset rows d s)
      (ut1-to-utc-not-finite rows d s)

pub no_rows_same : (t : AnnouncedRows) (k : Twenty) (d : JulianDate) → NoRowsSame t k d
no_rows_same t k d p q = (table_none t p q, announced_none t p q k d)

pub conversion_refuses : (t : AnnouncedRows) (rows : List Row) → table_of t ≡ answer rows → (k : Twenty) (d : JulianDate) → ConversionRefuses t k d
conversion_refuses t rows e k d held h = let r = four-refuse rows d k held h in (r.0, by-its-rows t rows e k d ∙ r.1)

-- ---- a rule passed on is that of the calendar's date
module _ (rows : List Row) (d : JulianDate) where
  tai-passes-on : (x : JulianDate) (r : Rule) → utc_to_tai_by_rule rows d ≡ answer (x, r)
      → rule_of_date rows (kept_parts d).larger (kept_parts d).smaller ≡ answer r
  unfolding utc_to_tai_by_rule
  tai-passes-on x r e = (taken-apart (utc_to_tai rows d) (rule_of_date rows (kept_parts d).larger (kept_parts d).smaller) x r e).1

  ut1-passes-on : (s : Float) (x : JulianDate) (r : Rule) → utc_to_ut1_by_rule rows d s ≡ answer (x, r) → rule_of_date rows d.jd1 d.jd2 ≡ answer r
  unfolding utc_to_ut1_by_rule
  ut1-passes-on s x r e = (taken-apart (utc_to_ut1 rows d s) (rule_of_date rows d.jd1 d.jd2) x r e).1

  pub scales-pass-on : (s : Float) → ScalesPassOn rows d s
  scales-pass-on s = ((utc-to-tai-forgets rows d, tai-passes-on), (utc-to-ut1-forgets rows d s, ut1-passes-on s))
