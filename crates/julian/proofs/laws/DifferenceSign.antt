-- The sign of a difference: that of two dates with parts under 2^52 is not above 0.0 where the first is not later, and not below 0.0 where it is not earlier.
-- So a difference that is not 0.0 has the sign of the exact one; 0.0 says nothing (`difference-is-no-order`). Assumes nothing.
use mathlib.Core.Path.{◌≡◌, refl, sym, ap, ◌∙◌}
use mathlib.Core.Bool.{Bool, true, false, not}
use Prim.Native.Nat.{ℕ, ◌+◌, ◌*◌, ◌≤◌}
use native.Mathlib.Nat.{add-mul, mul-le-mul_right}
use native.Mathlib.Omega.{arith}
use lib.Dec.{T, lit≤}
use lib.Ieee.{Float, nan, inf, fin, binary64, round, neg, add, sub, le}
use Rattle.floats.specs.Whole.{nought}
use Rattle.rounding.specs.Value.{Val, Rounds, Under52, L}
use Rattle.rounding.proofs.Value.{L-pos, neg_val, add_rounds, sub_rounds}
use Rattle.rounding.proofs.Signed.{signed-not}
use Rattle.rounding.proofs.Bound.{round_neg, rounds-mono}
use Rattle.rounding.proofs.Compare.{le_says}
use Rattle.rounding.proofs.Sizes.{under-size}
use Rattle.julian.specs.declared.JulianDate.{JulianDate}
use Rattle.julian.specs.JulianDate.{difference}
use Rattle.julian.specs.Worth.{Worth, SmallParts}
use Rattle.julian.proofs.laws.Steps.{step-sub}

-- ---- a rounded number and its opposite

neg_neg : (x : Float) → neg (neg x) ≡ x
unfolding neg
neg_neg nan = refl
neg_neg (inf true) = refl
neg_neg (inf false) = refl
neg_neg (fin true m e) = refl
neg_neg (fin false m e) = refl

turned : (s : Bool) (a D : ℕ) → neg (round binary64 s a D) ≡ round binary64 (not s) a D
turned false a D = sym (round_neg binary64 a D)
turned true a D = ap neg (round_neg binary64 a D) ∙ neg_neg (round binary64 false a D)

rounds-neg : {z : Float} {P N D : ℕ} → Rounds binary64 z P N D → Rounds binary64 (neg z) N P D
rounds-neg {z} {P} {N} {D} r = record {
  sign = not r.sign;
  size = r.size;
  eq = ap neg r.eq ∙ turned r.sign r.size D;
  is =
      signed-not r.sign r.size P N r.is;
}

nought-rounds : Rounds binary64 nought 0 0 L
unfolding round L
nought-rounds = record { sign = false; size = 0; eq = refl; is = refl }

-- ---- the two differences of parts are finite

record Finite (z : Float) : Type 0 where
  p : ℕ
  n : ℕ
  val : Val z p n L

part-less : {x y : Float} → Under52 x → Under52 y → Finite (sub binary64 x y)
part-less {x} {y} a b =
    let s = under-size x 52 a.held a.small in
    let t = under-size y 52 b.held b.small in
    let k = step-sub 54 (lit≤ tt) (omega (arith, s.high, t.low, L-pos)) (omega (arith, s.low, t.high, L-pos)) s.val t.val in
    record { p = k.p; n = k.n; val = k.val }

-- ---- the sum of two rounded numbers whose exact sum is not above 0

times : (P N Q M : ℕ) → P + M ≤ Q + N → P * L + M * L ≤ Q * L + N * L
times P N Q M h = go (P * L + M * L) (Q * L + N * L) ((P + M) * L) ((Q + N) * L) (add-mul P M L) (add-mul Q N L) (mul-le-mul_right L h)
  where
    go : (x y s t : ℕ) → s ≡ x → t ≡ y → s ≤ t → x ≤ y
    go x y s t i j h = omega arith

module _ {x y : Float} {P N Q M : ℕ} (fx : Finite x) (fy : Finite y) (rx : Rounds binary64 x P N L) (ry : Rounds binary64 y Q M L) where
  not_above : P + Q ≤ M + N → T (le (add binary64 x y) nought)
  not_above h =
      let l = le_says L-pos fx.val (neg_val fy.val) (rounds-mono L-pos L-pos (times P N M Q h) rx (rounds-neg ry)) in
      rounds-mono L-pos L-pos (times (fx.p + fy.p) (fx.n + fy.n) 0 0 (low _ _ _ _ l)) (add_rounds binary64 L-pos fx.val fy.val) nought-rounds
    where
      low : (a b c d : ℕ) → a + b ≤ c + d → a + b + 0 ≤ 0 + (d + c)
      low a b c d h = omega arith

  not_below : M + N ≤ P + Q → T (le nought (add binary64 x y))
  not_below h =
      let l = le_says L-pos (neg_val fy.val) fx.val (rounds-mono L-pos L-pos (times M Q P N h) (rounds-neg ry) rx) in
      rounds-mono L-pos L-pos (times 0 0 (fx.p + fy.p) (fx.n + fy.n) (high _ _ _ _ l)) nought-rounds (add_rounds binary64 L-pos fx.val fy.val)
    where
      high : (a b c d : ℕ) → a + b ≤ c + d → 0 + (b + a) ≤ c + d + 0
      high a b c d h = omega arith

-- ---- the difference

module _ (d e : JulianDate) (P N Q M : ℕ) (s : SmallParts d) (t : SmallParts e) (v : Worth d P N L) (w : Worth e Q M L) where
  -- d is not later than e
  pub not_later_not_above : P + M ≤ Q + N → T (le (difference d e) nought)
  unfolding difference
  not_later_not_above h =
      not_above (part-less s.first t.first) (part-less s.second t.second) (sub_rounds binary64 L-pos v.first w.first)
      (sub_rounds binary64 L-pos v.second w.second) (omega (arith, v.total, w.total))

  -- d is not earlier than e
  pub not_earlier_not_below : Q + N ≤ P + M → T (le nought (difference d e))
  unfolding difference
  not_earlier_not_below h =
      not_below (part-less s.first t.first) (part-less s.second t.second) (sub_rounds binary64 L-pos v.first w.first)
      (sub_rounds binary64 L-pos v.second w.second) (omega (arith, v.total, w.total))
