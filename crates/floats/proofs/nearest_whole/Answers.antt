-- `floats::nearest_whole` meets its contract: the ranges of NearestWholes, and outside them the two plain calls.
use Rattle.std.proofs.Common.{◌≡◌, true, false, ℤ, sym, ap, ◌∙◌, w64, to_z, of_z}
use lib.Ieee.{Float, binary64, add, sub, lt, le, of_bits, neg, to_signed}
use lib.Ieee.Casts.{to_signed_in}
use mir.ValLaws.{to_z-of_z}
use Rattle.floats.specs.Whole.{half, one}
use Rattle.floats.specs.NearestWhole.{nearest_whole}
use Rattle.floats.proofs.UnitSums.{two-52, beside, Floored, before-floored, beside-floored}
use Rattle.floats.proofs.NearestWholes.{large_is, large_plain, small_is}
use Rattle.floats.proofs.nearest_whole.Goals as goal

-- ---- from 0.5 to 2 ^ 52: v is a + 0.5 down to a whole number
module _ (a v : Float) (h : le half a ≡ true) (f : Floored (add binary64 a half) v) where
  whole_is : record { value = v; number = to_z w64 (of_z w64 (to_signed 63 v)) } ≡ nearest_whole a
  unfolding nearest_whole
  whole_is = ap (λ (z : ℤ). record { value = v; number = z }) (to_z-of_z w64 (to_signed 63 v) (record { sfits = to_signed_in 63 v }))
      ∙ ap (λ (x : Float). record { value = x; number = to_signed 63 x }) (f.is ∙ sym (large_is a h))

-- the two ways down from the sum beside t
before : (a : Float) → le half a ≡ true → lt (add binary64 a half) two-52 ≡ true → lt (add binary64 a half) (beside (add binary64 a half)) ≡ true
    → Floored (add binary64 a half) (sub binary64 (beside (add binary64 a half)) one)
before a h l t = before-floored _ (large_plain a h l) l t

at : (a : Float) → le half a ≡ true → lt (add binary64 a half) two-52 ≡ true → lt (add binary64 a half) (beside (add binary64 a half)) ≡ false
    → Floored (add binary64 a half) (beside (add binary64 a half))
at a h l t = beside-floored _ (large_plain a h l) l t

pub float_to_int-result : goal.float_to_int-result
unfolding of_bits
float_to_int-result c = (before c.args.a c.if-a.true c.if-t.true c.if-beside-t.true).whole

pub returns-then-beside-t : goal.returns-then-beside-t
unfolding of_bits
returns-then-beside-t c = whole_is c.args.a _ c.if-a.true (before c.args.a c.if-a.true c.if-t.true c.if-beside-t.true)

pub float_to_int-result-then-t : goal.float_to_int-result-then-t
unfolding of_bits
float_to_int-result-then-t c = (at c.args.a c.if-a.true c.if-t.true c.if-beside-t.false).whole

pub returns-then-t : goal.returns-then-t
unfolding of_bits
returns-then-t c = whole_is c.args.a _ c.if-a.true (at c.args.a c.if-a.true c.if-t.true c.if-beside-t.false)

pub returns-then-a-2 : goal.returns-then-a-2
unfolding of_bits neg nearest_whole to_signed
returns-then-a-2 c = ap (λ (v : Float). record { value = v; number = to_signed 63 v }) (small_is c.args.a c.if-a.false c.if-a-2.true)
