-- What `==` on dates has to be: symmetric and transitive, whatever the parts are. It is not reflexive, since a date with a NaN equals none. It stands here and
-- not in proofs/, as the code cites it. Assumes nothing.
use mathlib.Core.Path.{sym}
use mathlib.Core.Bool.{true≢false}
use Rattle.std.specs.Prelude.{◌≡◌, refl, Bool, true, false, cond, ◌&&◌, Float}
use Rattle.std.specs.Float.Ieee.{eq}
use Rattle.std.specs.Float.Ieee.Scale.{finite}
use Rattle.std.specs.Cmp.{IsPartialEquivalence}
use Rattle.std.proofs.lemmas.Float.{floats_per}
use Rattle.rounding.proofs.EqualSums.{equal-sums-finite}
use Rattle.julian.specs.declared.JulianDate.{JulianDate}
use Rattle.julian.specs.Equality.{exact_sum, sums, same_pair, equal}

true_first : (a b : Bool) → a && b ≡ true → a ≡ true
true_first true b h = refl
true_first false b h = absurd (true≢false (sym h))

true_second : (a b : Bool) → a && b ≡ true → b ≡ true
true_second true b h = h
true_second false b h = absurd (true≢false (sym h))

and_turned : (a b : Bool) → a && b ≡ b && a
and_turned true true = refl
and_turned true false = refl
and_turned false true = refl
and_turned false false = refl

pair_turned : (a b c d : Float) → same_pair a b c d ≡ same_pair c d a b
pair_turned a b c d = λ i. floats_per.symm a c i && floats_per.symm b d i

pair_on : (a b c d x y : Float) → same_pair a b c d ≡ true → same_pair c d x y ≡ true → same_pair a b x y ≡ true
pair_on a b c d x y h k =
    let p = floats_per.trans a c x (true_first (eq a c) (eq b d) h) (true_first (eq c x) (eq d y) k) in
    let q = floats_per.trans b d y (true_second (eq a c) (eq b d) h) (true_second (eq c x) (eq d y) k) in
    rw (p, q)

by_cases : (a b s t : Bool) → cond (a && b) s t ≡ true → (t ≡ true → a ≡ b) → a ≡ b
by_cases true true s t h f = refl
by_cases true false s t h f = f h
by_cases false b s t h f = f h

chained : (a b c s t u v x y : Bool) → a ≡ b → b ≡ c → cond (a && b) s t ≡ true → cond (b && c) u v ≡ true → (s ≡ true → u ≡ true → x ≡ true)
    → (t ≡ true → v ≡ true → y ≡ true) → cond (a && c) x y ≡ true
chained true true true s t u v x y p q h k f g = f h k
chained true true false s t u v x y p q h k f g = absurd (true≢false q)
chained true false c s t u v x y p q h k f g = absurd (true≢false p)
chained false true c s t u v x y p q h k f g = absurd (true≢false (sym p))
chained false false c s t u v x y p q h k f g = g h k

-- Two floats are compared, s and r, where both s are finite, and else two others, a and b. Where a and b are equal, both s are finite or both not.
module _ (s r a b : JulianDate → Float)
    (alike : (d e : JulianDate) → same_pair (a d) (b d) (a e) (b e) ≡ true → finite (s d) ≡ finite (s e)) where
  abbrev test : JulianDate → JulianDate → Bool
  test d e = cond (finite (s d) && finite (s e)) (same_pair (s d) (r d) (s e) (r e)) (same_pair (a d) (b d) (a e) (b e))

  symmetric : (d e : JulianDate) → test d e ≡ test e d
  symmetric d e =
      λ i. cond (and_turned (finite (s d)) (finite (s e)) i) (pair_turned (s d) (r d) (s e) (r e) i) (pair_turned (a d) (b d) (a e) (b e) i)

  sums_alike : (d e : JulianDate) → test d e ≡ true → finite (s d) ≡ finite (s e)
  sums_alike d e h =
      by_cases (finite (s d)) (finite (s e)) (same_pair (s d) (r d) (s e) (r e)) (same_pair (a d) (b d) (a e) (b e)) h (alike d e)

  transitive : (d e f : JulianDate) → test d e ≡ true → test e f ≡ true → test d f ≡ true
  transitive d e f h k =
      chained (finite (s d)) (finite (s e)) (finite (s f)) (same_pair (s d) (r d) (s e) (r e)) (same_pair (a d) (b d) (a e) (b e))
      (same_pair (s e) (r e) (s f) (r f)) (same_pair (a e) (b e) (a f) (b f)) (same_pair (s d) (r d) (s f) (r f)) (same_pair (a d) (b d) (a f) (b f))
      (sums_alike d e h) (sums_alike e f k) h k (pair_on (s d) (r d) (s e) (r e) (s f) (r f)) (pair_on (a d) (b d) (a e) (b e) (a f) (b f))

-- dates with equal parts have sums that are both finite or both not
parts_alike : (d e : JulianDate) → same_pair d.jd1 d.jd2 e.jd1 e.jd2 ≡ true → finite (sums d).sum ≡ finite (sums e).sum
unfolding sums exact_sum
parts_alike d e h =
    equal-sums-finite d.jd1 e.jd1 d.jd2 e.jd2 (true_first (eq d.jd1 e.jd1) (eq d.jd2 e.jd2) h) (true_second (eq d.jd1 e.jd1) (eq d.jd2 e.jd2) h)

pub equal_laws : IsPartialEquivalence equal
unfolding equal
equal_laws = record {
  symm = symmetric (λ d. (sums d).sum) (λ d. (sums d).error) (λ d. d.jd1) (λ d. d.jd2) parts_alike;
  trans = transitive (λ d. (sums d).sum) (λ d. (sums d).error) (λ d. d.jd1) (λ d. d.jd2) parts_alike;
}
