-- WORKED RUNS, by computation: by a fixed offset with a stamp that is refused, by the offsets of the stamps, through TAI, and single dates by a rate. The
-- answers are said by their bits, from the same sums in 64-bit floats by another program. Assumes nothing.
use Prim.Native.Nat.{ℕ, zero, suc}
use mathlib.Core.Path.{◌≡◌, refl, ◌∙◌}
use mathlib.Core.List.{List, [], ◌∷◌, ◌++◌}
use lib.Ieee.{binary64, of_bits, to_bits, round, add, sub, mul, div, neg, lt}
use Rattle.refusals.specs.Outcome.{Outcome, answer, refusal, onward}
use Rattle.numerals.specs.little_endian.LittleEndian.{u64_at, four_at, eight_bytes}
use Rattle.floats.specs.Whole.{abs, nought}
use Rattle.constants.specs.Constants.{seconds_per_day, mjd_zero_point, gps_to_tai_offset_seconds, tt_tai_offset, tcg_rate_lg, tcb_rate_lb, tdb_offset1977}
use Rattle.constants.specs.Constants.{mjd1977_jan1}
use Rattle.constants.specs.Constants.{tcg_reference_epoch, ratio, tcg_rate_ratio, tcb_rate_ratio}
use Rattle.julian.specs.declared.JulianDate.{JulianDate}
use Rattle.julian.specs.JulianDate.{julian}
use Rattle.julian.specs.Finite.{finite_jd, finite_arg}
use Rattle.julian.specs.shifts.SmallerPart.{first_is_larger, parts_of, put_back, map_smaller_part}
use Rattle.julian.specs.shifts.Shifts.{plus, minus, days_of, changed, converted, finite_offset, finite_both, converted_by}
use Rattle.julian.specs.stamp_lists.Stamps.{stamp_of}
use Rattle.leap_table.specs.rows.Table.{fixed}
use Rattle.scales.specs.Formulas.{since, gps_days, tt_days, tdb0, jd1977, tcg_to_tt, tt_to_tcg, tcb_to_tdb, tdb_to_tcb}
use Rattle.scales.specs.Conversions.{answer_of}
use Rattle.utc_scales.specs.laws.Twenty.{utc_tai, answer_of_any}
use Rattle.utc_scales.proofs.laws.Computed.{computed, as_computed}
use Rattle.runs.specs.ways.Ways.{is_run_scale, into_tai, out_of_tai, between, way_of}
use Rattle.runs.specs.by_formula.Run.{number_byte, with_part, with_parts, with_numbers, refused_among, RunCall, run_call, run_written}
use Rattle.runs.specs.by_formula.Formula.{formula_of, by_formula, takes_offset, lengths_refusal, formula_refusal, formula_run}
use Rattle.runs.specs.Run.{run_refusal, run_by, converted_run}
use Rattle.runs.proofs.laws.EachWay.{each_way}

-- the patterns of 2457754.5, which is the midnight of 2017-01-01, of a quarter and a half of a day, of a NaN, and of a place that holds no date yet
abbrev midnight : ℕ
midnight = 0x4142_c04d_4000_0000

abbrev quarter : ℕ
quarter = 0x3fd0_0000_0000_0000

abbrev half : ℕ
half = 0x3fe0_0000_0000_0000

abbrev not_a_number : ℕ
not_a_number = 0x7ff8_0000_0000_0000

abbrev spare : ℕ
spare = 0x0101_0101_0101_0101

-- the bytes of two numbers, and of three
abbrev two : ℕ → ℕ → List ℕ
two a b = eight_bytes a ++ eight_bytes b

abbrev three : ℕ → ℕ → ℕ → List ℕ
three a b c = eight_bytes a ++ two b c

-- GPS TO TAI, three stamps, of which the second is refused: 0.25 + 19 s and 0.5 + 19 s, the refused one's places as they were, the numbers 0, 9 and 0, one
-- refused
pub gps-run : formula_run 4 1 (three midnight not_a_number midnight) (three quarter quarter half) [] (three spare spare spare) (three spare spare spare)
    (7 ∷ 7 ∷ 7 ∷ []) ≡ run_call (answer 1) (three midnight spare midnight) (three 0x3fd0_039a_5bc7_dea0 spare 0x3fe0_01cd_2de3_ef50) (0 ∷ 9 ∷ 0 ∷ [])
unfolding formula_run formula_refusal formula_of lengths_refusal takes_offset by_formula run_written refused_among with_parts with_part with_numbers number_byte
    stamp_of u64_at four_at answer_of converted finite_jd finite_arg onward changed map_smaller_part parts_of put_back first_is_larger plus days_of gps_days
    seconds_per_day
    gps_to_tai_offset_seconds abs lt of_bits to_bits round add div
gps-run = refl

-- TAI TO UT1, two stamps by 43,200 s and 86,400 s: 0.25 + 0.5 and 0.5 + 1.0
pub ut1-run : formula_run 1 2 (two midnight midnight) (two quarter half) (two 0x40e5_1800_0000_0000 0x40f5_1800_0000_0000) (two spare spare) (two spare spare)
    (7 ∷ 7 ∷ []) ≡ run_call (answer 0) (two midnight midnight) (two 0x3fe8_0000_0000_0000 0x3ff8_0000_0000_0000) (0 ∷ 0 ∷ [])
unfolding formula_run formula_refusal formula_of lengths_refusal takes_offset by_formula run_written refused_among with_parts with_part with_numbers number_byte
    stamp_of u64_at four_at answer_of converted_by finite_both finite_offset finite_jd finite_arg onward changed map_smaller_part parts_of put_back
    first_is_larger plus
    minus days_of seconds_per_day abs lt of_bits to_bits round add sub div
ut1-run = refl

-- a stamp whose second part and whose offset are both a NaN is refused by 9, before 10
pub nine-before-ten : formula_run 1 2 (eight_bytes midnight) (eight_bytes not_a_number) (eight_bytes not_a_number) (eight_bytes spare) (eight_bytes spare)
    (7 ∷ [])
    ≡ run_call (answer 1) (eight_bytes spare) (eight_bytes spare) (9 ∷ [])
unfolding formula_run formula_refusal formula_of lengths_refusal takes_offset by_formula run_written refused_among with_parts with_part with_numbers number_byte
    stamp_of u64_at four_at answer_of converted_by finite_both finite_offset finite_jd finite_arg onward of_bits
nine-before-ten = refl

-- its offsets are asked for: without them 12
pub offsets-asked : formula_refusal 1 2 8 8 0 8 8 1 ≡ 12
unfolding formula_refusal formula_of lengths_refusal takes_offset
offsets-asked = refl

-- the quarter of that day by single formulas: TAI to GPS, TCG to TT, TDB to TCB
abbrev at_six : JulianDate
at_six = julian (of_bits binary64 midnight) (of_bits binary64 quarter)

abbrev beside : ℕ → Outcome JulianDate
beside n = answer (julian (of_bits binary64 midnight) (of_bits binary64 n))

pub tai-gps-six : by_formula 1 4 nought at_six ≡ beside 0x3fcf_f8cb_4870_42c0
unfolding formula_of by_formula answer_of converted finite_jd finite_arg onward changed map_smaller_part parts_of put_back first_is_larger plus minus days_of
    gps_days seconds_per_day gps_to_tai_offset_seconds abs lt of_bits round add sub div
tai-gps-six = refl

pub tcg-tt-six : by_formula 5 3 nought at_six ≡ beside 0x3fcf_ffaa_95a9_9b15
unfolding formula_of by_formula answer_of converted finite_jd finite_arg onward changed map_smaller_part parts_of put_back first_is_larger tcg_to_tt tt_to_tcg
    since
    mjd_zero_point tcg_reference_epoch mjd1977_jan1 tt_tai_offset seconds_per_day tcg_rate_lg tcg_rate_ratio ratio abs lt of_bits round add sub mul div
tcg-tt-six = refl

pub tdb_tcb_six : by_formula 7 6 nought at_six ≡ beside 0x3fd0_03b6_28b7_6590
unfolding formula_of by_formula answer_of converted finite_jd finite_arg onward changed map_smaller_part parts_of put_back first_is_larger tcb_to_tdb tdb_to_tcb
    since
    jd1977 tdb0 tt_days days_of seconds_per_day tt_tai_offset mjd_zero_point mjd1977_jan1 tdb_offset1977 tcb_rate_ratio tcb_rate_lb ratio abs lt of_bits round
    add sub
    mul div neg
tdb_tcb_six = refl

-- TT TO GPS, two stamps through TAI: 32.184 s less and then 19 s less
pub tt_gps_run : converted_run (answer fixed) 3 4 (two midnight midnight) (two quarter half) (two spare spare) (two spare spare) (7 ∷ 7 ∷ [])
    ≡ run_call (answer 0) (two midnight midnight) (two 0x3fcf_ec96_86c7_9664 0x3fdf_f64b_4363_cb32) (0 ∷ 0 ∷ [])
unfolding converted_run run_by run_refusal is_run_scale way_of between into_tai out_of_tai run_written refused_among with_parts with_part with_numbers
    number_byte stamp_of
    u64_at four_at answer_of converted finite_jd finite_arg onward changed map_smaller_part parts_of put_back first_is_larger plus minus days_of gps_days
    tt_days
    seconds_per_day gps_to_tai_offset_seconds tt_tai_offset abs lt of_bits to_bits round add sub div
tt_gps_run = refl

-- TT to TCG one second after that midnight: through TAI the last digits would be another
pub tt_tcg_second : way_of fixed 3 5 (julian (of_bits binary64 midnight) (of_bits binary64 0x3ee8_45c8_a0ce_5129)) ≡ beside 0x3ef6_d023_2428_7dce
unfolding way_of between into_tai out_of_tai answer_of converted finite_jd finite_arg onward changed map_smaller_part parts_of put_back first_is_larger plus
    minus days_of
    tt_days tt_tai_offset seconds_per_day tt_to_tcg since mjd_zero_point tcg_reference_epoch mjd1977_jan1 tcg_rate_lg tcg_rate_ratio ratio abs lt of_bits round
    add sub
    mul div
tt_tcg_second = refl

-- UTC TO TAI, two stamps: the midnight (-31739.5, 0.0) of -4800-12-31, whose year is before -4799, and the noon of 2016-12-31, to which 36.5 s are added. The
-- first is refused by 1: its places as they were, the numbers 1 and 0, one refused
abbrev before-4799 : ℕ
before-4799 = 0xc0de_fee0_0000_0000

abbrev last-of-2016 : ℕ
last-of-2016 = 0x4142_c04c_c000_0000

abbrev at : ℕ → ℕ → JulianDate
at a b = julian (of_bits binary64 a) (of_bits binary64 b)

before-refused : way_of fixed 0 1 (at before-4799 0) ≡ refusal 1
unfolding answer_of_any computed round of_bits
before-refused = (each_way fixed (at before-4799 0)).utc_tai ∙ as_computed fixed utc_tai (at before-4799 0) ∙ refl

noon_answered : way_of fixed 0 1 (at last-of-2016 half) ≡ answer (at last-of-2016 0x3fe0_0375_f31a_ed6a)
unfolding answer_of_any computed round of_bits
noon_answered = (each_way fixed (at last-of-2016 half)).utc_tai ∙ as_computed fixed utc_tai (at last-of-2016 half) ∙ refl

-- two stamps with these answers
abbrev either_of : Outcome JulianDate → Outcome JulianDate → ℕ → Outcome JulianDate
either_of a b zero = a
either_of a b (suc k) = b

abbrev written-two : Outcome JulianDate → Outcome JulianDate → RunCall
written-two a b = run_written (either_of a b) 2 (two spare spare) (two spare spare) (7 ∷ 7 ∷ [])

two-written : written-two (refusal 1) (answer (at last-of-2016 0x3fe0_0375_f31a_ed6a))
    ≡ run_call (answer 1) (two spare last-of-2016) (two spare 0x3fe0_0375_f31a_ed6a) (1 ∷ 0 ∷ [])
unfolding run_written refused_among with_parts with_part with_numbers number_byte of_bits to_bits round
two-written = refl

pub number-1-written : converted_run (answer fixed) 0 1 (two before-4799 last-of-2016) (two 0 half) (two spare spare) (two spare spare) (7 ∷ 7 ∷ [])
    ≡ run_call (answer 1) (two spare last-of-2016) (two spare 0x3fe0_0375_f31a_ed6a) (1 ∷ 0 ∷ [])
unfolding converted_run run_by run_refusal is_run_scale run_written refused_among with_parts with_numbers stamp_of u64_at four_at
number-1-written = (λ i. written-two (before-refused i) (noon_answered i)) ∙ two-written

-- from TAI to TAI a NaN does not pass
pub nan_same_scale : way_of fixed 1 1 (julian (of_bits binary64 not_a_number) (of_bits binary64 quarter)) ≡ refusal 9
unfolding way_of finite_jd finite_arg onward of_bits
nan_same_scale = refl
