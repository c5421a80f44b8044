-- "The two-sum does not overflow" is one thing in both words that the project has for it: document 02's, every one of its six results is finite (`NoOverflow`),
-- and `julian`'s, its sum and its error are (`FiniteSums`). Assumes nothing.
use mathlib.Core.Path.{◌≡◌, refl}
use mathlib.Core.Bool.{Bool, true, false}
use lib.Dec.{T}
use lib.Ieee.{Float, binary64, add, sub, fits}
use lib.Ieee.Scale.{finite}
use Rattle.rounding.proofs.TwoSumFinite.{add_finite_parts, sub_finite_parts}
use Rattle.julian.specs.declared.JulianDate.{JulianDate}
use Rattle.julian.specs.Equality.{two_sum_error, exact_sum, sums, FiniteSums}
use Rattle.julian.specs.same_stamps.TwoSum.{NoOverflow}

is_true : (b : Bool) → T b → b ≡ true
is_true true h = refl
is_true false h = absurd h

finite-true : (x : Float) → T (finite x) → finite x ≡ true
finite-true x h = is_true (finite x) h

holds : {b : Bool} → b ≡ true → T b
holds e = rw e tt

-- a result that is not finite makes the error so
pub by-sum-and-error : (d : JulianDate) → FiniteSums d → NoOverflow d.jd1 d.jd2
unfolding sums exact_sum two_sum_error
by-sum-and-error d s =
    let sum = add binary64 d.jd1 d.jd2 in
    let bb = sub binary64 sum d.jd1 in
    let a = sub binary64 sum bb in
    let c = sub binary64 d.jd1 a in
    let f = sub binary64 d.jd2 bb in
    let e = add_finite_parts c f s.error in
    let w = sub_finite_parts d.jd1 a e.0 in
    let v = sub_finite_parts sum bb w.1 in
    record {
      sum = finite-true sum s.sum;
      second = finite-true bb v.1;
      first = finite-true a w.1;
      lost_first = finite-true c e.0;
      lost_second = finite-true f e.1;
      error = finite-true (add binary64 c f) s.error;
    }

pub by-all-six : (d : JulianDate) → T (fits binary64 d.jd1) → T (fits binary64 d.jd2) → NoOverflow d.jd1 d.jd2 → FiniteSums d
unfolding sums exact_sum two_sum_error
by-all-six d f g n = record { first_float = f; second_float = g; sum = holds n.sum; error = holds n.error }
