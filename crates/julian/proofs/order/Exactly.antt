-- Every answer of the order of dates is the order of the exact sums, so that it is total and transitive and agrees with equality. Assumes nothing.
use mathlib.Core.Path.{◌≡◌, refl, sym, ap, ◌∙◌}
use Prim.Native.Nat.{ℕ, ◌+◌, ◌*◌, ◌≤◌, ◌<◌}
use native.Mathlib.Nat.{add-mul, mul-le-mul_right}
use native.Mathlib.Omega.{arith}
use mathlib.Core.Bool.{Bool, true, false, cond, ◌&&◌, true≢false}
use mathlib.Core.Logic.{◌⊎◌, inl, inr}
use lib.Dec.{T, eqb, ltb}
use lib.Ieee.{binary64, fits, add, sub}
use lib.Ieee.Scale.{finite}
use borrow.Author.Tests.{lt-ltb, le-ltb, ltb-true, ltb-false, eq-eqb, ne_eqb}
use Rattle.refusals.specs.Outcome.{answer, refusal}
use Rattle.rounding.specs.Value.{L}
use Rattle.rounding.proofs.Value.{L-pos}
use Rattle.rounding.proofs.Own.{own, own_val}
use Rattle.rounding.proofs.Compare.{lt_val, le_says}
use Rattle.rounding.proofs.Bound.{rounds-mono}
use Rattle.rounding.proofs.TwoSumFinite.{add_finite_parts, sub_finite_parts}
use Rattle.julian.specs.declared.JulianDate.{JulianDate}
use Rattle.julian.specs.Equality.{two_sum_error, exact_sum, sums, FiniteSums}
use Rattle.julian.specs.Equality as E
use Rattle.julian.specs.Worth.{Worth, SmallParts}
use Rattle.julian.proofs.Equality.{SumAndError, sums-of, small-sums, equal-sums}
use Rattle.julian.specs.order.Order.{Order, comes_before, same_sum, comes_after, sooner, date_order, comparison, order_of, not_after, is_equal}
use Rattle.julian.specs.order.Order.{PartNotFinite, first_not_finite, second_not_finite}
use Rattle.julian.specs.order.Places.{has_place}

-- ---- the error is finite only where the parts and the sum are
pub finite-error : (d : JulianDate) → T (finite (sums d).error) → T (finite d.jd1) × (T (finite d.jd2) × T (finite (sums d).sum))
unfolding sums exact_sum two_sum_error
finite-error d h =
    let sum = add binary64 d.jd1 d.jd2 in
    let bb = sub binary64 sum d.jd1 in
    let p = add_finite_parts (sub binary64 d.jd1 (sub binary64 sum bb)) (sub binary64 d.jd2 bb) h in
    let q = sub_finite_parts d.jd1 (sub binary64 sum bb) p.0 in
    let r = sub_finite_parts d.jd2 bb p.1 in
    let s = sub_finite_parts sum bb q.1 in
    (q.0, (r.0, s.0))

-- ---- the rounded sums keep the order
sums-rise : {d e : JulianDate} {P N Q M : ℕ} (x : SumAndError d P N) (y : SumAndError e Q M) → P + M ≤ Q + N → x.sp + y.sn ≤ y.sp + x.sn
sums-rise {d} {e} {P} {N} {Q} {M} x y h =
    let k : P * L + M * L ≤ Q * L + N * L = omega (arith, mul-le-mul_right L h, add-mul P M L, add-mul Q N L) in
    le_says L-pos x.sum y.sum (rounds-mono L-pos L-pos k x.rounded y.rounded)

module _ (sp sn ep en tp tn fp fn P N Q M : ℕ) (h : sp + ep + N ≡ sn + en + P) (k : tp + fp + M ≡ tn + fn + Q)
    (up : P + M ≤ Q + N → sp + tn ≤ tp + sn) (down : Q + N ≤ P + M → tp + sn ≤ sp + tn) where
  by-sums : (a b : Bool) → ltb (sp + tn) (tp + sn) ≡ a → ltb (tp + sn) (sp + tn) ≡ b → (c : Bool) → ltb (P + M) (Q + N) ≡ c
      → cond a true (cond b false (ltb (ep + fn) (fp + en))) ≡ c
  by-sums true b p q true r = refl
  by-sums true b p q false r =
      let i : sp + tn < tp + sn = ltb-true (sp + tn) (tp + sn) p in
      let j : Q + N ≤ P + M = ltb-false (P + M) (Q + N) r in
      let z : ⊥ = omega (arith, down j) in
      absurd z
  by-sums false true p q false r = refl
  by-sums false true p q true r =
      let i : tp + sn < sp + tn = ltb-true (tp + sn) (sp + tn) q in
      let j : P + M < Q + N = ltb-true (P + M) (Q + N) r in
      let j' : P + M ≤ Q + N = omega arith in
      let z : ⊥ = omega (arith, up j') in
      absurd z
  by-sums false false p q true r =
      let i : tp + sn ≤ sp + tn = ltb-false (sp + tn) (tp + sn) p in
      let i' : sp + tn ≤ tp + sn = ltb-false (tp + sn) (sp + tn) q in
      let j : P + M < Q + N = ltb-true (P + M) (Q + N) r in
      lt-ltb (ep + fn) (fp + en) (omega arith)
  by-sums false false p q false r =
      let i : tp + sn ≤ sp + tn = ltb-false (sp + tn) (tp + sn) p in
      let i' : sp + tn ≤ tp + sn = ltb-false (tp + sn) (sp + tn) q in
      let j : Q + N ≤ P + M = ltb-false (P + M) (Q + N) r in
      le-ltb (ep + fn) (fp + en) (omega arith)

pub sooner-exactly : (d e : JulianDate) (P N Q M : ℕ) → FiniteSums d → FiniteSums e → Worth d P N L → Worth e Q M L
    → sooner (sums d) (sums e) ≡ ltb (P + M) (Q + N)
unfolding sooner
sooner-exactly d e P N Q M s t v w =
    let x = sums-of s v in
    let y = sums-of t w in
    rw (lt_val L-pos x.sum y.sum, lt_val L-pos y.sum x.sum, lt_val L-pos x.error y.error)
    (by-sums x.sp x.sn x.ep x.en y.sp y.sn y.ep y.en P N Q M x.total y.total (sums-rise x y) (sums-rise y x)
    (ltb (x.sp + y.sn) (y.sp + x.sn)) (ltb (y.sp + x.sn) (x.sp + y.sn)) refl refl (ltb (P + M) (Q + N)) refl)

-- the order of two dates whose two-sums do not overflow is that of P - N and Q - M
pub order-exactly : (d e : JulianDate) (P N Q M : ℕ) → FiniteSums d → FiniteSums e → Worth d P N L → Worth e Q M L → date_order d e ≡ order_of (P + M) (Q + N)
unfolding date_order order_of
order-exactly d e P N Q M s t v w = rw (sooner-exactly d e P N Q M s t v w, sooner-exactly e d Q M P N t s w v)

-- ---- what an answer says
both_true : (a b : Bool) (o u : Order) → cond (a && b) (answer u) (refusal 9) ≡ answer o → T a × (T b × (u ≡ o))
both_true true true o u h = (tt, (tt, (let z : u ≡ o = cc in z)))
both_true true false o u h = let z : ◌≡◌ {A = ℕ} 0 1 = cc in let w : ⊥ = omega arith in absurd w
both_true false b o u h = let z : ◌≡◌ {A = ℕ} 0 1 = cc in let w : ⊥ = omega arith in absurd w

module _ (d e : JulianDate) (f1 : T (fits binary64 d.jd1)) (f2 : T (fits binary64 d.jd2)) (g1 : T (fits binary64 e.jd1))
    (g2 : T (fits binary64 e.jd2))
    (o : Order) (is : comparison d e ≡ answer o) where
  told : T (finite (sums d).error) × (T (finite (sums e).error) × (date_order d e ≡ o))
  unfolding comparison
  told = both_true (finite (sums d).error) (finite (sums e).error) o (date_order d e) is

  -- both two-sums are finite
  pub answered-sums : FiniteSums d × FiniteSums e
  answered-sums = (
    record { first_float = f1; second_float = f2; sum = (finite-error d told.0).1.1; error = told.0 },
    record { first_float = g1; second_float = g2; sum = (finite-error e told.1.0).1.1; error = told.1.0 },
  )

  -- THE ORDER: every answer is the order of the exact sums (P - N) / L and (Q - M) / L
  pub exactly-ordered : (P N Q M : ℕ) → Worth d P N L → Worth e Q M L → o ≡ order_of (P + M) (Q + N)
  exactly-ordered P N Q M v w = sym told.1.1 ∙ order-exactly d e P N Q M answered-sums.0 answered-sums.1 v w

-- ---- which dates are answered
refused-by : (a b : Bool) (u : Order) (n : ℕ) → cond (a && b) (answer u) (refusal 9) ≡ refusal n → (n ≡ 9) × ((a ≡ false) ⊎ (b ≡ false))
refused-by true true u n h = let z : ◌≡◌ {A = ℕ} 0 1 = cc in let w : ⊥ = omega arith in absurd w
refused-by true false u n h = ((let z : n ≡ 9 = cc in z), inr refl)
refused-by false b u n h = ((let z : n ≡ 9 = cc in z), inl refl)

-- 9 is the only refusal, and says that the two-sum of one of the dates is not finite
pub refused-nine : (d e : JulianDate) (n : ℕ) → comparison d e ≡ refusal n → (n ≡ 9) × ((finite (sums d).error ≡ false) ⊎ (finite (sums e).error ≡ false))
unfolding comparison
refused-nine d e n h = refused-by (finite (sums d).error) (finite (sums e).error) (date_order d e) n h

as_true : (b : Bool) → T b → b ≡ true
as_true true h = refl
as_true false h = absurd h

-- all dates with parts under 2^52 in size are answered
pub small-answered : (d e : JulianDate) → SmallParts d → SmallParts e → comparison d e ≡ answer (date_order d e)
unfolding comparison
small-answered d e s t =
    let x = as_true (finite (sums d).error) (small-sums d s).error in
    let y = as_true (finite (sums e).error) (small-sums e t).error in
    rw (x, y)

-- a part that is not finite is 9, in any of the four places
not_both : (a b : Bool) → (T a → ⊥) ⊎ (T b → ⊥) → a && b ≡ false
not_both true true (inl h) = absurd (h tt)
not_both true true (inr h) = absurd (h tt)
not_both true false h = refl
not_both false b h = refl

nine : (d e : JulianDate) → (T (finite (sums d).error) → ⊥) ⊎ (T (finite (sums e).error) → ⊥) → comparison d e ≡ refusal 9
unfolding comparison
nine d e h = rw (not_both (finite (sums d).error) (finite (sums e).error) h)

no : (b : Bool) → b ≡ false → T b → ⊥
no true e h = true≢false e
no false e h = h

not_finite_error : (d : JulianDate) → PartNotFinite d → T (finite (sums d).error) → ⊥
not_finite_error d (first_not_finite e) h = no (finite d.jd1) e (finite-error d h).0
not_finite_error d (second_not_finite e) h = no (finite d.jd2) e (finite-error d h).1.0

pub not_finite_first : (d e : JulianDate) → PartNotFinite d → comparison d e ≡ refusal 9
not_finite_first d e h = nine d e (inl (not_finite_error d h))

pub not_finite_second : (d e : JulianDate) → PartNotFinite e → comparison d e ≡ refusal 9
not_finite_second d e h = nine d e (inr (not_finite_error e h))

not_true : (b : Bool) → (T b → ⊥) → b ≡ false
not_true true h = absurd (h tt)
not_true false h = refl

-- NO PLACE: a date with a part that is not finite has none in the order
pub place-not-finite : (d : JulianDate) → PartNotFinite d → has_place d ≡ false
place-not-finite d h = not_true (has_place d) (not_finite_error d h)

-- ---- hence it is a total order of the exact sums
-- every date whose two-sum is finite has an exact sum
pub sum-worth : (d : JulianDate) → FiniteSums d → (P : ℕ) × (N : ℕ) × Worth d P N L
sum-worth d s =
    let f = finite-error d s.error in
    let a = own_val d.jd1 (own d.jd1 s.first_float f.0) in
    let b = own_val d.jd2 (own d.jd2 s.second_float f.1.0) in
    (_, _, record { p = _; n = _; q = _; m = _; first = a; second = b; total = refl })

of_numbers : (a b : ℕ) (s t : Bool) → ltb a b ≡ s → ltb b a ≡ t → not_after (cond s comes_before (cond t comes_after same_sum)) ≡ true → a ≤ b
unfolding not_after
of_numbers a b true t p q h = let i : a < b = ltb-true a b p in omega arith
of_numbers a b false true p q h = absurd (true≢false (sym h))
of_numbers a b false false p q h = ltb-false b a q

to-numbers : (a b : ℕ) (s t : Bool) → ltb a b ≡ s → ltb b a ≡ t → a ≤ b → not_after (cond s comes_before (cond t comes_after same_sum)) ≡ true
unfolding not_after
to-numbers a b true t p q h = refl
to-numbers a b false true p q h = let i : b < a = ltb-true b a q in let z : ⊥ = omega arith in absurd z
to-numbers a b false false p q h = refl

not_after_le : (a b : ℕ) → not_after (order_of a b) ≡ true → a ≤ b
unfolding order_of
not_after_le a b h = of_numbers a b (ltb a b) (ltb b a) refl refl h

le_not_after : (a b : ℕ) → a ≤ b → not_after (order_of a b) ≡ true
unfolding order_of
le_not_after a b h = to-numbers a b (ltb a b) (ltb b a) refl refl h

-- of three dates, if the first is not after the second and that not after the third, the first is not after the third
pub order-transitive : (d e f : JulianDate) → FiniteSums d → FiniteSums e → FiniteSums f → not_after (date_order d e) ≡ true → not_after (date_order e f) ≡ true
    → not_after (date_order d f) ≡ true
order-transitive d e f s t u h k =
    let v = sum-worth d s in
    let w = sum-worth e t in
    let x = sum-worth f u in
    let i = not_after_le (v.0 + w.1) (w.0 + v.1) (ap not_after (sym (order-exactly d e v.0 v.1 w.0 w.1 s t v.2 w.2)) ∙ h) in
    let j = not_after_le (w.0 + x.1) (x.0 + w.1) (ap not_after (sym (order-exactly e f w.0 w.1 x.0 x.1 t u w.2 x.2)) ∙ k) in
    ap not_after (order-exactly d f v.0 v.1 x.0 x.1 s u v.2 x.2) ∙ le_not_after (v.0 + x.1) (x.0 + v.1) (omega (arith, i, j))

equal-numbers : (a b : ℕ) (s t : Bool) → ltb a b ≡ s → ltb b a ≡ t → is_equal (cond s comes_before (cond t comes_after same_sum)) ≡ eqb a b
unfolding is_equal
equal-numbers a b true t p q = let i : a < b = ltb-true a b p in sym (ne_eqb a b (λ r. omega arith))
equal-numbers a b false true p q = let i : b < a = ltb-true b a q in sym (ne_eqb a b (λ r. omega arith))
equal-numbers a b false false p q =
    let i : b ≤ a = ltb-false a b p in
    let j : a ≤ b = ltb-false b a q in
    sym (eq-eqb a b (omega arith))

number-equal : (a b : ℕ) → is_equal (order_of a b) ≡ eqb a b
unfolding order_of
number-equal a b = equal-numbers a b (ltb a b) (ltb b a) refl refl

-- equal by the order exactly where equal by document 01's test
pub equal-agrees : (d e : JulianDate) → FiniteSums d → FiniteSums e → is_equal (date_order d e) ≡ E.equal d e
equal-agrees d e s t =
    let v = sum-worth d s in
    let w = sum-worth e t in
    ap is_equal (order-exactly d e v.0 v.1 w.0 w.1 s t v.2 w.2)
    ∙ number-equal (v.0 + w.1) (w.0 + v.1)
    ∙ sym (equal-sums d e v.0 v.1 w.0 w.1 s t v.2 w.2)
