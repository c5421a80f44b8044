-- How the same stamp stands to document 01's equality. Finite stamps that are the same are equal, but where the sum is finite and two-sum's error is a NaN;
-- that takes an overflow on the way, so none is left for parts of at most 2 ^ 1021 in size. Assumes nothing.
use mathlib.Core.Path.{◌≡◌, refl, sym, ap, ◌∙◌}
use mathlib.Core.Bool.{true, false, not, cond, ◌&&◌}
use Prim.Native.Nat.{◌*◌}
use borrow.Author.Tests.{eq-eqb}
use lib.Ieee.{Float, nan, inf, fin, up, down, is_nan, eq}
use lib.Ieee.Scale.{finite}
use Rattle.julian.specs.declared.JulianDate.{JulianDate}
use Rattle.julian.specs.Finite.{both_finite, finite_parts}
use Rattle.julian.specs.Equality.{two_sum_error, exact_sum, sums, same_pair, equal}
use Rattle.julian.specs.Worth.{SmallParts}
use Rattle.julian.specs.declared.same_stamps.Stamp.{Stamp}
use Rattle.julian.specs.same_stamps.Same.{same, julian_of}
use Rattle.julian.specs.same_stamps.TwoSum.{NoOverflow, AtMost1021}
use Rattle.julian.proofs.same_stamps.Same.{same_is, split}
use Rattle.julian.proofs.same_stamps.TwoSum.{no_overflow, no_overflow_under, at_most_finite, under-finite}

-- ---- a float against itself
eq-itself : (x : Float) → eq x x ≡ not (is_nan x)
unfolding eq is_nan
eq-itself nan = refl
eq-itself (inf true) = refl
eq-itself (inf false) = refl
eq-itself (fin true m e) = rw (eq-eqb (m * up e * down e) (m * up e * down e) refl)
eq-itself (fin false m e) = rw (eq-eqb (m * up e * down e) (m * up e * down e) refl)

finite-no-nan : (x : Float) → finite x ≡ true → is_nan x ≡ false
unfolding is_nan
finite-no-nan nan h = sym h
finite-no-nan (inf s) h = refl
finite-no-nan (fin s m e) h = refl

-- ---- a date against itself
pub equal-itself : (d : JulianDate) → finite_parts d ≡ true → equal d d ≡ not (finite (sums d).sum && is_nan (sums d).error)
unfolding equal is_nan
equal-itself d h = go (sums d).sum (sums d).error
  where
    parts : (finite d.jd1 ≡ true) × (finite d.jd2 ≡ true)
    parts = split (finite d.jd1) (finite d.jd2) h

    by_parts : same_pair d.jd1 d.jd2 d.jd1 d.jd2 ≡ true
    by_parts = rw (eq-itself d.jd1, eq-itself d.jd2, finite-no-nan d.jd1 parts.0, finite-no-nan d.jd2 parts.1)

    go : (s e : Float) → cond (both_finite s s) (same_pair s e s e) (same_pair d.jd1 d.jd2 d.jd1 d.jd2) ≡ not (finite s && is_nan e)
    go nan e = by_parts
    go (inf s) e = by_parts
    go (fin s m k) e = rw (eq-itself (fin s m k), eq-itself e)

both : (d : JulianDate) → finite d.jd1 ≡ true → finite d.jd2 ≡ true → finite_parts d ≡ true
both d h k = rw (h, k)

no_error : (d : JulianDate) → NoOverflow d.jd1 d.jd2 → finite (sums d).sum && is_nan (sums d).error ≡ false
unfolding sums exact_sum two_sum_error
no_error d n = rw (n.sum, finite-no-nan (sums d).error n.error)

-- ---- the same stamp and document 01's equality
-- finite and the same, they are unequal exactly where the sum is finite and the error a NaN
pub same-equal : (a b : Stamp) → same a b ≡ true → finite_parts (julian_of a) ≡ true
    → equal (julian_of a) (julian_of b) ≡ not (finite (sums (julian_of a)).sum && is_nan (sums (julian_of a)).error)
same-equal a b e h = ap (λ (s : Stamp). equal (julian_of a) (julian_of s)) (sym (same_is a b e)) ∙ equal-itself (julian_of a) h

-- document 02: "Equal by this test and finite implies equal by 01's wherever 01's two-sum doesn't overflow"
pub same-implies-equal : (a b : Stamp) → same a b ≡ true → finite_parts (julian_of a) ≡ true → NoOverflow (julian_of a).jd1 (julian_of a).jd2
    → equal (julian_of a) (julian_of b) ≡ true
same-implies-equal a b e h n = same-equal a b e h ∙ ap not (no_error (julian_of a) n)

-- so wherever both parts are at most 2 ^ 1021 in size
pub same-equal-1021 : (a b : Stamp) → same a b ≡ true → AtMost1021 (julian_of a).jd1 → AtMost1021 (julian_of a).jd2 → equal (julian_of a) (julian_of b) ≡ true
same-equal-1021 a b e x y = same-implies-equal a b e (both (julian_of a) (at_most_finite x) (at_most_finite y)) (no_overflow x y)

-- and under 2 ^ 52, document 01's range
pub same-equal-under : (a b : Stamp) → same a b ≡ true → SmallParts (julian_of a) → equal (julian_of a) (julian_of b) ≡ true
same-equal-under a b e s = same-implies-equal a b e (both (julian_of a) (under-finite s.first) (under-finite s.second))
    (no_overflow_under s.first s.second)
