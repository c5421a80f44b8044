-- THE RULE THAT UTC TO TAI AND UTC TO UT1 PASS ON, by computation: in the leap second of 2016-12-31 the row of that day, on 1971-12-31 the last row that
-- drifts, in 1959 none, and under an announced row that row. Each date is said by its bits. Assumes nothing.
use mathlib.Core.Path.{◌≡◌, refl, sym, ◌∙◌}
use mathlib.Core.Bool.{false}
use mathlib.Core.List.{List}
use Prim.Native.Nat.{ℕ}
use lib.Ieee.{Float, binary64, round, of_bits, of_int, add, sub, div, neg, lt, le, eq, to_signed}
use Rattle.refusals.specs.Outcome.{Outcome, answer, onward}
use Rattle.refusals.proofs.Onward.{went}
use Rattle.floats.specs.Whole.{abs, to_whole, nearest_int}
use Rattle.constants.specs.Constants.{decimal}
use Rattle.julian.specs.day_number.Answer.{day_number_and_fraction}
use Rattle.julian.specs.declared.JulianDate.{JulianDate}
use Rattle.julian.specs.JulianDate.{julian}
use Rattle.julian.specs.Calendar.{fields, julian_to_calendar}
use Rattle.julian.proofs.laws.Divisions.{divided_date, divided-date}
use Rattle.leap_table.specs.declared.offsets.Rule.{Rule}
use Rattle.leap_table.specs.declared.offsets.Rule.TheVariants.{Absent, Drifting, Whole}
use Rattle.leap_table.specs.rows.Table.{Row, fixed, month_number, reached}
use Rattle.leap_table.specs.rows.Announced.{table_of}
use Rattle.leap_table.specs.offsets.Rule.{rule_by, rule_of, rule_at, rule_on}
use Rattle.utc_scales.specs.days.LargerPart.{first_is_kept, kept_parts}
use Rattle.utc_scales.specs.days.DateRule.{rule_of_date}
use Rattle.utc_scales.specs.ByRule.{utc_to_tai_by_rule}
use Rattle.utc_scales.specs.to_ut1.ByRule.{utc_to_ut1_by_rule}
use Rattle.utc_scales.proofs.days.Rules.{passed}
use Rattle.utc_scales.specs.laws.Twenty.{Twenty, utc_tai, utc-ut1, answer_of_any}
use Rattle.utc_scales.specs.laws.ShortTable.{short_table, short_rows, short_place}
use Rattle.utc_scales.proofs.laws.Computed.{computed, as_computed}
use Rattle.utc_scales.proofs.laws.Worked.{leap-second, step-noon, drift-ut1}
use Rattle.utc_scales.proofs.laws.ShortDay.{short-taken}

abbrev bits : ℕ → Float
bits n = of_bits binary64 n

-- ---- the rule of the day of two parts, its date by the Rust's divisions
unfoldable ruled : List Row → Float → Float → Outcome Rule
unfolding day_number_and_fraction divided_date onward rule_on rule_at rule_of rule_by fixed month_number reached abs to_whole nearest_int round of_bits of_int
    add sub div
    neg lt le eq to_signed
ruled rows x y = onward (onward (day_number_and_fraction x y) (λ n. answer (fields (divided_date n.day) n.fraction))) (λ c. answer (rule_on rows c.date))

as_ruled : (rows : List Row) (x y : Float) → rule_of_date rows x y ≡ ruled rows x y
unfolding ruled rule_of_date julian_to_calendar
as_ruled rows x y = (λ i. onward (onward (day_number_and_fraction x y) (λ n. answer (fields (divided-date n.day i) n.fraction)))
    (λ c. answer (rule_on rows c.date)))

-- ---- the two conversions with it
tai-by-rule : (rows : List Row) (d x : JulianDate) (r : Rule) → answer_of_any rows utc_tai d ≡ answer x
    → ruled rows (kept_parts d).larger (kept_parts d).smaller ≡ answer r → utc_to_tai_by_rule rows d ≡ answer (x, r)
unfolding utc_to_tai_by_rule answer_of_any
tai-by-rule rows d x r e p = sym (passed _ _ x r e (as_ruled rows (kept_parts d).larger (kept_parts d).smaller ∙ p))

ut1-by-rule : (rows : List Row) (d : JulianDate) (dut1 : Float) (x : JulianDate) (r : Rule) → answer_of_any rows (utc-ut1 dut1) d ≡ answer x
    → ruled rows d.jd1 d.jd2 ≡ answer r → utc_to_ut1_by_rule rows d dut1 ≡ answer (x, r)
unfolding utc_to_ut1_by_rule answer_of_any
ut1-by-rule rows d dut1 x r e p = sym (passed _ _ x r e (as_ruled rows d.jd1 d.jd2 ∙ p))

given : (rows : List Row) (c : Twenty) (d x : JulianDate) → computed rows c d ≡ answer x → answer_of_any rows c d ≡ answer x
given rows c d x e = as_computed rows c d ∙ e

-- ---- 2016-12-31 23:59:60: row 40, though TAI's date is of 2017
abbrev last-of-2016 : Float → JulianDate
last-of-2016 x = julian (decimal 24577535 1) x

abbrev second-60 : Float
second-60 = round binary64 false 86400 86401

pub leap-second-tai : utc_to_tai_by_rule fixed (last-of-2016 second-60) ≡ answer (last-of-2016 (bits 0x3ff0_01b4_e81b_4e82), Whole 40)
unfolding ruled round of_bits first_is_kept kept_parts
leap-second-tai = tai-by-rule fixed (last-of-2016 second-60) _ (Whole 40) leap-second refl

pub leap-second-ut1 : utc_to_ut1_by_rule fixed (last-of-2016 second-60) (neg (decimal 4082 4)) ≡ answer (last-of-2016 (bits 0x3fef_fff6_1788_92f2), Whole 40)
unfolding ruled computed round of_bits neg
leap-second-ut1 =
    ut1-by-rule fixed (last-of-2016 second-60) (neg (decimal 4082 4)) _ (Whole 40)
    (given fixed (utc-ut1 (neg (decimal 4082 4))) (last-of-2016 second-60) (last-of-2016 (bits 0x3fef_fff6_1788_92f2)) refl) refl

-- ---- in the years of drift: noon of 1971-12-31, and 6h of 1966-06-15
pub step-day-tai : utc_to_tai_by_rule fixed (julian (decimal 24413165 1) (decimal 5 1)) ≡ answer
    (julian (decimal 24413165 1) (bits 0x3fe0_00f1_62fd_d4fe), Drifting 13)
unfolding ruled round of_bits first_is_kept kept_parts
step-day-tai = tai-by-rule fixed (julian (decimal 24413165 1) (decimal 5 1)) _ (Drifting 13) step-noon refl

pub drift-day-ut1 : utc_to_ut1_by_rule fixed (julian (decimal 24392915 1) (decimal 25 2)) (decimal 1 1) ≡ answer
    (julian (decimal 24392915 1) (bits 0x3fd0_0004_e2cf_4f58), Drifting 12)
unfolding ruled round of_bits
drift-day-ut1 = ut1-by-rule fixed (julian (decimal 24392915 1) (decimal 25 2)) (decimal 1 1) _ (Drifting 12) drift-ut1 refl

-- ---- noon of 1959-06-15, before the first row: TAI, and UT1 by a DUT1 of 0.0, are UTC
abbrev in_1959 : JulianDate
in_1959 = julian (decimal 24367345 1) (decimal 5 1)

pub before-rows-tai : utc_to_tai_by_rule fixed in_1959 ≡ answer (in_1959, Absent)
unfolding ruled computed round of_bits first_is_kept kept_parts
before-rows-tai = tai-by-rule fixed in_1959 in_1959 Absent (given fixed utc_tai in_1959 in_1959 refl) refl

pub before-rows-ut1 : utc_to_ut1_by_rule fixed in_1959 (decimal 0 0) ≡ answer (in_1959, Absent)
unfolding ruled computed round of_bits
before-rows-ut1 = ut1-by-rule fixed in_1959 (decimal 0 0) in_1959 Absent (given fixed (utc-ut1 (decimal 0 0)) in_1959 in_1959 refl) refl

-- ---- 2030-01-01 0h under the first announced row, of 36 s
abbrev first-of-2030 : Float → JulianDate
first-of-2030 x = julian (decimal 24625025 1) x

pub announced_row_tai : onward (table_of short_table) (λ rows. utc_to_tai_by_rule rows (first-of-2030 (decimal 0 0))) ≡ answer
    (first-of-2030 (bits 0x3f3b_4e81_b4e8_1b4f), Whole short_place)
unfolding ruled computed round of_bits first_is_kept kept_parts
announced_row_tai =
    went _ short-taken
    ∙ tai-by-rule short_rows (first-of-2030 (decimal 0 0)) _ (Whole short_place)
    (given short_rows utc_tai (first-of-2030 (decimal 0 0)) (first-of-2030 (bits 0x3f3b_4e81_b4e8_1b4f)) refl) refl

pub announced_row_ut1 : onward (table_of short_table) (λ rows. utc_to_ut1_by_rule rows (first-of-2030 (decimal 0 0)) (decimal 0 0)) ≡ answer
    (first-of-2030 (decimal 0 0), Whole short_place)
unfolding ruled computed round of_bits
announced_row_ut1 =
    went _ short-taken
    ∙ ut1-by-rule short_rows (first-of-2030 (decimal 0 0)) (decimal 0 0) _ (Whole short_place)
    (given short_rows (utc-ut1 (decimal 0 0)) (first-of-2030 (decimal 0 0)) (first-of-2030 (decimal 0 0)) refl) refl
