-- SOFA'S PUBLISHED CHECK VALUES of UTC to TAI, TAI to UTC, UTC to UT1 and UT1 to UTC are met: three to the bit, and TAI to UTC one unit in the last place,
-- 1.1e-16, from the published value, where SOFA's test allows 1e-12. Assumes nothing.
use mathlib.Core.Path.{◌≡◌, refl, ◌∙◌}
use lib.Ieee.{binary64, round, of_bits, add, sub, neg, lt, le, eq}
use Rattle.refusals.specs.Outcome.{answer}
use Rattle.floats.specs.Whole.{abs}
use Rattle.julian.specs.declared.JulianDate.{JulianDate}
use Rattle.leap_table.specs.rows.Table.{fixed}
use Rattle.utc_scales.specs.laws.Published.{on2006, utctai, taiutc, utcut1, ut1utc, MetToTheBit, Met}
use Rattle.utc_scales.proofs.laws.Computed.{computed, as_computed}

utctai-computed : computed fixed utctai.call utctai.given ≡ answer utctai.published
unfolding utctai computed round
utctai-computed = refl

pub utctai-met : MetToTheBit utctai
utctai-met = as_computed fixed utctai.call utctai.given ∙ utctai-computed

utcut1-computed : computed fixed utcut1.call utcut1.given ≡ answer utcut1.published
unfolding utcut1 computed round
utcut1-computed = refl

pub utcut1-met : MetToTheBit utcut1
utcut1-met = as_computed fixed utcut1.call utcut1.given ∙ utcut1-computed

ut1utc-computed : computed fixed ut1utc.call ut1utc.given ≡ answer ut1utc.published
unfolding ut1utc computed round
ut1utc-computed = refl

pub ut1utc-met : MetToTheBit ut1utc
ut1utc-met = as_computed fixed ut1utc.call ut1utc.given ∙ ut1utc-computed

-- TAI to UTC's answer, by its bits
abbrev utc-answer : JulianDate
utc-answer = on2006 (of_bits binary64 0x3fec_8c16_c17b_5c22)

taiutc-computed : computed fixed taiutc.call taiutc.given ≡ answer utc-answer
unfolding taiutc computed round of_bits
taiutc-computed = refl

pub taiutc-met : Met taiutc
unfolding taiutc round of_bits add sub neg le lt eq abs
taiutc-met = record { date = utc-answer; is = as_computed fixed taiutc.call taiutc.given ∙ taiutc-computed; first = refl; second = tt }
