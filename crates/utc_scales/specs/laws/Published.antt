-- SOFA's published check values of the four conversions that read the table, and what it is to meet them. Written from SOFA's t_sofa_c.c: iauUtctai, iauTaiutc,
-- iauUtcut1 and iauUt1utc, with its inputs, its values and its tolerances, 1e-6 for the first part and 1e-12 for the second. Assumes nothing.
use Rattle.std.specs.Prelude.{◌≡◌, T, Float}
use Rattle.std.specs.Float.{binary64}
use Rattle.std.specs.Float.Ieee.{sub, le}
use Rattle.refusals.specs.Outcome.{answer}
use Rattle.floats.specs.Whole.{abs}
use Rattle.constants.specs.Constants.{decimal}
use Rattle.julian.specs.declared.JulianDate.{JulianDate}
use Rattle.julian.specs.JulianDate.{julian}
use Rattle.leap_table.specs.rows.Table.{fixed}
use Rattle.utc_scales.specs.laws.Twenty.{Twenty, utc_tai, tai_utc, utc-ut1, ut1-utc, answer_of_any}

pub record Check : Type 0 where
  pub call : Twenty
  pub given : JulianDate
  pub published : JulianDate

-- SOFA's date is always of jd1 2453750.5, the midnight of 2006-01-15
abbrev pub on2006 : Float → JulianDate
on2006 x = julian (decimal 24537505 1) x

-- DUT1 of 0.3341 s
abbrev pub dut1 : Float
dut1 = decimal 3341 4

unfoldable pub utctai : Check
utctai = record { call = utc_tai; given = on2006 (decimal 892100694 9); published = on2006 (decimal 8924826384444444444 19) }

unfoldable pub taiutc : Check
taiutc = record { call = tai_utc; given = on2006 (decimal 892482639 9); published = on2006 (decimal 8921006945555555556 19) }

unfoldable pub utcut1 : Check
utcut1 = record { call = utc-ut1 dut1; given = on2006 (decimal 892100694 9); published = on2006 (decimal 8921045608981481481 19) }

unfoldable pub ut1utc : Check
ut1utc = record { call = ut1-utc dut1; given = on2006 (decimal 892104561 9); published = on2006 (decimal 8921006941018518519 19) }

-- the answer is the published value, each part the float nearest to its decimal
abbrev pub MetToTheBit : Check → Type 0
MetToTheBit c = answer_of_any fixed c.call c.given ≡ answer c.published

-- the first part is the published one, and the second is within SOFA's tolerance of it
pub record Met (c : Check) : Type 0 where
  pub date : JulianDate
  pub is : answer_of_any fixed c.call c.given ≡ answer date
  pub first : date.jd1 ≡ c.published.jd1
  pub second : T (le (abs (sub binary64 date.jd2 c.published.jd2)) (decimal 1 12))
