-- Two Julian dates whose two-sums do not overflow, as those with parts under 2^52 in size, are equal exactly if their exact sums are. Assumes nothing.
use mathlib.Core.Path.{◌≡◌, refl, sym, ap, ◌∙◌, subst}
use Prim.Native.Nat.{ℕ, ◌+◌}
use native.Mathlib.Omega.{arith}
use mathlib.Core.Bool.{Bool, true, false, ◌&&◌}
use lib.Dec.{T, eqb, eqb→eq, lit≤}
use lib.Ieee.{Float, binary64, round}
use borrow.Author.Tests.{eq-eqb}
use Rattle.rounding.specs.Value.{Signed, Val, Rounds, L}
use Rattle.rounding.proofs.Value.{add_rounds, rounds-move, val-unique, val-finite, val-finite-true, L-is, L-pos}
use Rattle.rounding.proofs.Own.{val-rep}
use Rattle.floats.proofs.Fields.{same_test}
use Rattle.rounding.proofs.Compare.{eq_val}
use Rattle.julian.specs.declared.ExactSum.{ExactSum}
use Rattle.julian.specs.Finite.{both_finite}
use Rattle.julian.specs.Equality.{same_pair}
use Rattle.rounding.proofs.Exact.{rounds-exact}
use Rattle.rounding.proofs.Sizes.{under-size}
use Rattle.rounding.proofs.TwoSumFloat.{two-sum-under}
use Rattle.rounding.proofs.TwoSumFinite.{two-sum-finite}
use Rattle.julian.specs.declared.JulianDate.{JulianDate}
use Rattle.julian.specs.Equality.{two_sum_error, exact_sum, sums, FiniteSums, equal}
use Rattle.julian.specs.Worth.{Worth, SmallParts}

-- ---- one number has one nearest float, as far as its value goes

zero_stays : {z : Float} {P N p n : ℕ} → P ≡ N → Rounds binary64 z P N L → Val z p n L → p ≡ n
zero_stays {z} {P} {N} {p} {n} e r v =
    let w = rounds-exact 1074 (lit≤ tt) (omega arith) (omega arith) (subst (Rounds binary64 z P N) L-is r) in
    let u : p + N ≡ P + n = val-unique v (subst (Val z P N) (sym L-is) w) in
    omega arith

same-rounded : {z y : Float} {P N Q M p n q m : ℕ} → Rounds binary64 z P N L → Rounds binary64 y Q M L → P + M ≡ Q + N → Val z p n L → Val y q m L
    → p + m ≡ q + n
same-rounded {z} {y} {P} {N} {Q} {M} {p} {n} {q} {m} r s e v w = go r.sign s.sign r.is s.is r.eq s.eq
  where
    alike : (a : Bool) → r.size ≡ s.size → z ≡ round binary64 a r.size L → y ≡ round binary64 a s.size L → p + m ≡ q + n
    alike a h i j = val-unique v (subst (λ (x : Float). Val x q m L) (j ∙ ap (λ (k : ℕ). round binary64 a k L) (sym h) ∙ sym i) w)

    apart : (P ≡ N) × (Q ≡ M) → p + m ≡ q + n
    apart h =
        let i : p ≡ n = zero_stays h.0 r v in
        let j : q ≡ m = zero_stays h.1 s w in
        omega arith

    go : (a b : Bool) → Signed a r.size P N → Signed b s.size Q M → z ≡ round binary64 a r.size L → y ≡ round binary64 b s.size L → p + m ≡ q + n
    go false false h k i j = alike false (omega arith) i j
    go true true h k i j = alike true (omega arith) i j
    go false true h k i j = apart (omega arith, omega arith)
    go true false h k i j = apart (omega arith, omega arith)

-- ---- the two-sum of a date's parts

-- every date with parts under 2^52 has an exact sum
pub worth : (d : JulianDate) → SmallParts d → (P : ℕ) × (N : ℕ) × Worth d P N L
worth d s =
    let a = under-size d.jd1 52 s.first.held s.first.small in
    let b = under-size d.jd2 52 s.second.held s.second.small in
    (a.p + b.p, a.n + b.n, record { p = a.p; n = a.n; q = b.p; m = b.n; first = a.val; second = b.val; total = refl })

-- and its two-sum does not overflow
pub small-sums : (d : JulianDate) → SmallParts d → FiniteSums d
unfolding sums exact_sum two_sum_error
small-sums d s =
    let w = (worth d s).2 in
    let x = two-sum-under s.first s.second w.first w.second in
    record { first_float = s.first.held; second_float = s.second.held; sum = val-finite x.sum; error = val-finite x.err }

-- the values of the rounded sum and of its error, which together are the exact sum (P - N) / L
pub record SumAndError (d : JulianDate) (P N : ℕ) : Type 0 where
  pub sp : ℕ
  pub sn : ℕ
  pub ep : ℕ
  pub en : ℕ
  pub sum : Val (sums d).sum sp sn L
  pub error : Val (sums d).error ep en L
  pub total : sp + ep + N ≡ sn + en + P
  pub rounded : Rounds binary64 (sums d).sum P N L

pub sums-of : {d : JulianDate} {P N : ℕ} → FiniteSums d → Worth d P N L → SumAndError d P N
unfolding sums exact_sum two_sum_error
sums-of {d} {P} {N} s w =
    let x = two-sum-finite d.jd1 d.jd2 w.p w.n w.q w.m w.first w.second (val-rep s.first_float w.first)
    (val-rep s.second_float w.second) s.sum s.error in
    record {
      sp = x.sp;
      sn = x.sn;
      ep = x.ep;
      en = x.en;
      sum = x.sum;
      error = x.err;
      total = omega (arith, x.total, w.total);
      rounded = rounds-move (add_rounds binary64 L-pos w.first w.second) w.total;
    }

-- ---- the theorem

-- the sums and the errors are equal exactly if the exact sums are
pairs : (sp sn ep en tp tn fp fn P N Q M : ℕ) → sp + ep + N ≡ sn + en + P → tp + fp + M ≡ tn + fn + Q → (P + M ≡ Q + N → sp + tn ≡ tp + sn)
    → eqb (sp + tn) (tp + sn) && eqb (ep + fn) (fp + en) ≡ eqb (P + M) (Q + N)
pairs sp sn ep en tp tn fp fn P N Q M h k r = same_test (eqb (sp + tn) (tp + sn) && eqb (ep + fn) (fp + en)) (eqb (P + M) (Q + N)) to from
  where
    split : (a b : Bool) → T (a && b) → T a × T b
    split true b t = (tt, t)
    split false b t = absurd t

    join : (a b : Bool) → a ≡ true → b ≡ true → T (a && b)
    join a b e f = rw (e, f) tt

    to : T (eqb (sp + tn) (tp + sn) && eqb (ep + fn) (fp + en)) → T (eqb (P + M) (Q + N))
    to t =
        let u = split (eqb (sp + tn) (tp + sn)) (eqb (ep + fn) (fp + en)) t in
        let a : sp + tn ≡ tp + sn = eqb→eq (sp + tn) (tp + sn) u.0 in
        let b : ep + fn ≡ fp + en = eqb→eq (ep + fn) (fp + en) u.1 in
        subst T (sym (eq-eqb (P + M) (Q + N) (omega arith))) tt

    from : T (eqb (P + M) (Q + N)) → T (eqb (sp + tn) (tp + sn) && eqb (ep + fn) (fp + en))
    from t =
        let e : P + M ≡ Q + N = eqb→eq (P + M) (Q + N) t in
        let a : sp + tn ≡ tp + sn = r e in
        join (eqb (sp + tn) (tp + sn)) (eqb (ep + fn) (fp + en)) (eq-eqb (sp + tn) (tp + sn) a) (eq-eqb (ep + fn) (fp + en) (omega arith))

pub equal-sums : (d e : JulianDate) (P N Q M : ℕ) → FiniteSums d → FiniteSums e → Worth d P N L → Worth e Q M L → equal d e ≡ eqb (P + M) (Q + N)
unfolding equal
equal-sums d e P N Q M s t v w =
    let x = sums-of s v in
    let y = sums-of t w in
    rw (val-finite-true x.sum, val-finite-true y.sum, eq_val L-pos x.sum y.sum, eq_val L-pos x.error y.error)
    (pairs x.sp x.sn x.ep x.en y.sp y.sn y.ep y.en P N Q M x.total y.total
    (λ r. same-rounded x.rounded y.rounded r x.sum y.sum))

-- document 01: "Two with parts under 2^52 in size are equal exactly if their exact sums are"
pub equal-exactly : (d e : JulianDate) (P N Q M : ℕ) → SmallParts d → SmallParts e → Worth d P N L → Worth e Q M L → equal d e ≡ eqb (P + M) (Q + N)
equal-exactly d e P N Q M s t v w = equal-sums d e P N Q M (small-sums d s) (small-sums e t) v w

-- ---- the two cases of the test, for sums that are handed in

pub equal-finite : (d e : JulianDate) (s t : ExactSum) → s ≡ sums d → t ≡ sums e → both_finite s.sum t.sum ≡ true
    → same_pair s.sum s.error t.sum t.error ≡ equal d e
unfolding equal
equal-finite d e s t p q h =
    let k : both_finite (sums d).sum (sums e).sum ≡ true = rw (p, q) at h in
    rw (p, q, k)

pub equal-parts : (d e : JulianDate) (s t : ExactSum) → s ≡ sums d → t ≡ sums e → both_finite s.sum t.sum ≡ false
    → same_pair d.jd1 d.jd2 e.jd1 e.jd2 ≡ equal d e
unfolding equal
equal-parts d e s t p q h =
    let k : both_finite (sums d).sum (sums e).sum ≡ false = rw (p, q) at h in
    rw k
