-- Two-sum of parts of at most 2 ^ 1021 in size overflows nowhere: each of its results is near an exact sum that is below 2 ^ 1023. Assumes nothing.
use mathlib.Core.Path.{◌≡◌}
use mathlib.Core.Bool.{true}
use Prim.Native.Nat.{ℕ, ◌+◌, ◌*◌, ◌^◌, ◌≤◌, ◌<◌}
use native.Mathlib.Nat.{mul-le-mul_right}
use native.Mathlib.Omega.{arith}
use lib.Dec.{lit≤, lit<}
use lib.Ieee.{Float, binary64, add, sub}
use lib.Ieee.Scale.{finite}
use Rattle.rounding.specs.Value.{Val, L, Under52}
use Rattle.rounding.proofs.Bound.{SizeWithin, within_more}
use Rattle.rounding.proofs.Near.{NearSum, add_near, sub_near}
use Rattle.rounding.proofs.Range.{power-val, size-at-most, below}
use Rattle.rounding.proofs.Value.{val-finite-true}
use Rattle.julian.specs.same_stamps.TwoSum.{NoOverflow, AtMost1021}

-- |a| and |b| are at most M units, and twice that and some roundings stay below what a rounding may be off by 2 ^ j / 2 for
module _ (a b : Float) (p n q m M j : ℕ) (va : Val a p n L) (vb : Val b q m L) (h1 : p ≤ n + M) (h2 : n ≤ p + M) (h3 : q ≤ m + M) (h4 : m ≤ q + M)
    (most : j ≤ 2044) (room : 2 * M + 8 * 2 ^ j < 2 ^ (53 + j)) where
  sum : NearSum (add binary64 a b) (p + q) (n + m) j
  sum = add_near j most (omega arith) (omega arith) va vb

  second : NearSum (sub binary64 (add binary64 a b) a) (sum.p + n) (sum.n + p) j
  second = sub_near j most (omega (arith, sum.over)) (omega (arith, sum.under)) sum.val va

  first : NearSum (sub binary64 (add binary64 a b) (sub binary64 (add binary64 a b) a)) (sum.p + second.n) (sum.n + second.p) j
  first = sub_near j most (omega (arith, second.under)) (omega (arith, second.over)) sum.val second.val

  lost_first : NearSum (sub binary64 a (sub binary64 (add binary64 a b) (sub binary64 (add binary64 a b) a))) (p + first.n) (n + first.p) j
  lost_first = sub_near j most (omega (arith, second.over, first.under)) (omega (arith, second.under, first.over)) va first.val

  lost_second : NearSum (sub binary64 b (sub binary64 (add binary64 a b) a)) (q + second.n) (m + second.p) j
  lost_second = sub_near j most (omega (arith, sum.under, second.under)) (omega (arith, sum.over, second.over)) vb second.val

  -- each loss is at most two roundings
  first-high : lost_first.p ≤ lost_first.n + 2 * 2 ^ j
  first-high = omega (arith, second.over, first.under, lost_first.over)

  first-low : lost_first.n ≤ lost_first.p + 2 * 2 ^ j
  first-low = omega (arith, second.under, first.over, lost_first.under)

  second-high : lost_second.p ≤ lost_second.n + 2 * 2 ^ j
  second-high = omega (arith, sum.under, second.under, lost_second.over)

  second-low : lost_second.n ≤ lost_second.p + 2 * 2 ^ j
  second-low = omega (arith, sum.over, second.over, lost_second.under)

  error : NearSum (add binary64 (sub binary64 a (sub binary64 (add binary64 a b) (sub binary64 (add binary64 a b) a)))
      (sub binary64 b (sub binary64 (add binary64 a b) a))) (lost_first.p + lost_second.p) (lost_first.n + lost_second.n) j
  error = add_near j most (omega (arith, first-high, second-high)) (omega (arith, first-low, second-low)) lost_first.val lost_second.val

  finite-throughout : NoOverflow a b
  finite-throughout = record {
    sum = val-finite-true sum.val;
    second = val-finite-true second.val;
    first = val-finite-true first.val;
    lost_first = val-finite-true lost_first.val;
    lost_second = val-finite-true lost_second.val;
    error = val-finite-true error.val;
  }

within : {a b : Float} (M : ℕ) → 2 * M + 8 * 2 ^ 2044 < 2 ^ 2097 → SizeWithin a M → SizeWithin b M → NoOverflow a b
within {a} {b} M room x y = finite-throughout a b x.p x.n y.p y.n M 2044 x.val y.val x.high x.low y.high y.low (lit≤ tt) room

within-1021 : {x : Float} → AtMost1021 x → SizeWithin x (2 ^ 1021 * L)
within-1021 x = size-at-most x.held (power-val 1021 L) x.small

within-52 : {x : Float} → Under52 x → SizeWithin x (2 ^ 52 * L)
within-52 x = below x.held (power-val 52 L) x.small

pub at_most_finite : {x : Float} → AtMost1021 x → finite x ≡ true
at_most_finite x = val-finite-true (within-1021 x).val

pub under-finite : {x : Float} → Under52 x → finite x ≡ true
under-finite x = val-finite-true (within-52 x).val

large : 2 * (2 ^ 1021 * L) + 8 * 2 ^ 2044 < 2 ^ 2097
unfolding L
large = lit< tt

pub no_overflow : {a b : Float} → AtMost1021 a → AtMost1021 b → NoOverflow a b
no_overflow x y = within (2 ^ 1021 * L) large (within-1021 x) (within-1021 y)

-- document 01's range for dates
pub no_overflow_under : {a b : Float} → Under52 a → Under52 b → NoOverflow a b
no_overflow_under x y = within (2 ^ 1021 * L) large (within_more (wider 1021 (lit≤ tt)) (within-52 x)) (within_more (wider 1021 (lit≤ tt)) (within-52 y))
  where
    wider : (k : ℕ) → 2 ^ 52 ≤ 2 ^ k → 2 ^ 52 * L ≤ 2 ^ k * L
    wider k h = mul-le-mul_right L h
