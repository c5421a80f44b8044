-- The cases of the tests, for the proofs of the functions. Assumes nothing.
use mathlib.Core.Path.{◌≡◌}
use mathlib.Core.Bool.{true, false}
use lib.Ieee.Scale.{finite}
use Rattle.refusals.specs.Outcome.{answer, refusal}
use Rattle.julian.specs.declared.JulianDate.{JulianDate}
use Rattle.julian.specs.declared.ExactSum.{ExactSum}
use Rattle.julian.specs.Equality.{exact_sum, sums}
use Rattle.julian.specs.order.Order.{Order, comes_before, same_sum, comes_after, sooner, date_order, comparison}

-- s and t are the two-sums of d and e
module _ (d e : JulianDate) (s t : ExactSum) (p : s ≡ exact_sum d.jd1 d.jd2) (q : t ≡ exact_sum e.jd1 e.jd2) where
  s_is : s ≡ sums d
  unfolding sums
  s_is = p

  t-is : t ≡ sums e
  unfolding sums
  t-is = q

  pub first-refused : finite s.error ≡ false → refusal 9 ≡ comparison d e
  unfolding comparison
  first-refused h =
      let k : finite (sums d).error ≡ false = rw s_is at h in
      rw k

  pub second-refused : finite s.error ≡ true → finite t.error ≡ false → refusal 9 ≡ comparison d e
  unfolding comparison
  second-refused h i =
      let k : finite (sums d).error ≡ true = rw s_is at h in
      let l : finite (sums e).error ≡ false = rw t-is at i in
      rw (k, l)

  both : (o : Order) → finite s.error ≡ true → finite t.error ≡ true → o ≡ date_order d e → answer o ≡ comparison d e
  unfolding comparison
  both o h i j =
      let k : finite (sums d).error ≡ true = rw s_is at h in
      let l : finite (sums e).error ≡ true = rw t-is at i in
      rw (k, l, j)

  pub is-before : finite s.error ≡ true → finite t.error ≡ true → sooner s t ≡ true → answer comes_before ≡ comparison d e
  unfolding date_order
  is-before h i j =
      let k : sooner (sums d) (sums e) ≡ true = rw (s_is, t-is) at j in
      both comes_before h i (rw k)

  pub is-after : finite s.error ≡ true → finite t.error ≡ true → sooner s t ≡ false → sooner t s ≡ true → answer comes_after ≡ comparison d e
  unfolding date_order
  is-after h i j j' =
      let k : sooner (sums d) (sums e) ≡ false = rw (s_is, t-is) at j in
      let k' : sooner (sums e) (sums d) ≡ true = rw (s_is, t-is) at j' in
      both comes_after h i (rw (k, k'))

  pub is-equal : finite s.error ≡ true → finite t.error ≡ true → sooner s t ≡ false → sooner t s ≡ false → answer same_sum ≡ comparison d e
  unfolding date_order
  is-equal h i j j' =
      let k : sooner (sums d) (sums e) ≡ false = rw (s_is, t-is) at j in
      let k' : sooner (sums e) (sums d) ≡ false = rw (s_is, t-is) at j' in
      both same_sum h i (rw (k, k'))
