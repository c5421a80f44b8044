-- Knuth's two-sum on f64. With sum = a + b, bb = sum - a and error = (a - (sum - bb)) + (b - bb), each operation rounded once, sum + error is a + b exactly:
-- for |a| and |b| below 2 ^ 52 (`two-sum-under`), and for any that are far enough below the largest f64 (`two-sum-exact`). Assumes nothing.
use mathlib.Core.Path.{◌≡◌, sym, subst}
use Prim.Native.Nat.{ℕ, ◌+◌, ◌*◌, ◌^◌, ◌≤◌, ◌<◌}
use native.Mathlib.Nat.{le_trans, le_of_eq, lt_of_le_of_lt, mul_assoc, mul-le-mul_right}
use lib.Dec.{lit≤, lit<}
use native.Mathlib.Omega.{arith}
use mathlib.Core.Bool.{Bool, true, false}
use lib.Ieee.{Float, binary64, add, sub}
use lib.Ieee.Exact.{HasValue}
use Rattle.rounding.specs.Value.{Signed, Val, Rounds, Under52, L}
use Rattle.rounding.proofs.Value.{add_rounds, sub_rounds, abs-val, L-pos}
use Rattle.rounding.proofs.Signed.{dist_up, signed_le}
use Rattle.rounding.proofs.Own.{Rep}
pub use Rattle.rounding.proofs.Own.{val-rep}
pub use Rattle.rounding.proofs.Value.{has-finite, has-unique, val-unique}
use Rattle.rounding.proofs.Compare.{lt_says}
use Rattle.rounding.proofs.Range.{power-val}
use Rattle.rounding.proofs.Optimal.{step}
use Rattle.rounding.proofs.Relative.{step-relative}
pub use Rattle.rounding.proofs.Relative.{step-has}
use Rattle.rounding.proofs.Nearest.{RN}
use Rattle.rounding.proofs.TwoSum.{dist, two-sum}

-- z is (p - n) / L, which is (P - N) / L rounded, and at most 2 * M / L in size
pub record At (z : Float) (P N M : ℕ) : Type 0 where
  pub p : ℕ
  pub n : ℕ
  pub val : Val z p n L
  pub rn : RN P N p n
  pub high : p ≤ n + 2 * M
  pub low : n ≤ p + 2 * M

at_of : (s : Bool) (z : Float) (a P N M : ℕ) → HasValue z s (step a) L → Signed s a P N → step a ≤ 2 * M → At z P N M
at_of false z a P N M h i l = record {
  p = step a;
  n = 0;
  val = record { sign = false; size = step a; has = h; is = omega arith };
  rn =
      record { sign = false; size = a; is = i; to = omega arith };
  high = omega arith;
  low = omega arith;
}
at_of true z a P N M h i l = record {
  p = 0;
  n = step a;
  val = record { sign = true; size = step a; has = h; is = omega arith };
  rn =
      record { sign = true; size = a; is = i; to = omega arith };
  high = omega arith;
  low = omega arith;
}

twice : (g a M : ℕ) → 2 ^ 53 * g ≤ 2 ^ 53 * a + a → a ≤ M → g ≤ 2 * M
twice g a M h k = omega arith

-- |P - N| ≤ M, with 2 * M below the largest f64: the rounded value is finite, and at most 2 * M
pub rounds-at : {z : Float} {P N M : ℕ} → 2 * M < 2 ^ 2098 → P ≤ N + M → N ≤ P + M → Rounds binary64 z P N L → At z P N M
rounds-at {z} {P} {N} {M} b u l r =
    let g : step r.size ≤ 2 * M = twice (step r.size) r.size M (step-relative r.size).0 (signed_le r.sign r.size P N M r.is u l)
    in at_of r.sign z r.size P N M
    (subst (λ (x : Float). HasValue x r.sign (step r.size) L) (sym r.eq) (step-has r.sign r.size (lt_of_le_of_lt g b))) r.is g

-- s + e = (P - N) / L, exactly
pub record Exact (s e : Float) (P N : ℕ) : Type 0 where
  pub sp : ℕ
  pub sn : ℕ
  pub ep : ℕ
  pub en : ℕ
  pub sum : Val s sp sn L
  pub err : Val e ep en L
  pub total : sp + ep + N ≡ sn + en + P

-- (a - (sum - bb)) + (b - bb)
abbrev pub two-sum-error : Float → Float → Float
two-sum-error a b =
    let sum = add binary64 a b in
    let bb = sub binary64 sum a in
    add binary64 (sub binary64 a (sub binary64 sum bb)) (sub binary64 b bb)

-- a sum, or a difference, of two whose sizes are known
grow : (p n q m x y z : ℕ) → p ≤ n + x → q ≤ m + y → x + y ≤ z → p + q ≤ n + m + z
grow p n q m x y z h k l = omega arith

room : (M k o : ℕ) → k ≤ 500 → 1000 * M < o → 2 * (k * M) < o
room M k o h l = lt_of_le_of_lt (le_trans (le_of_eq (sym (mul_assoc 2 k M))) (mul-le-mul_right M (two k h))) l
  where
    two : (x : ℕ) → x ≤ 500 → 2 * x ≤ 1000
    two x g = omega arith

module _ (a b : Float) (p n q m M : ℕ) (va : Val a p n L) (vb : Val b q m L) (ra : Rep (dist p n)) (rb : Rep (dist q m)) (big : 1000 * M < 2 ^ 2098)
    (h1 : p ≤ n + M) (h2 : n ≤ p + M) (h3 : q ≤ m + M) (h4 : m ≤ q + M) where
  xs : At (add binary64 a b) (p + q) (n + m) (2 * M)
  xs = rounds-at (room M 2 (2 ^ 2098) (lit≤ tt) big) (grow p n q m M M (2 * M) h1 h3 (le_of_eq (e M))) (grow n p m q M M (2 * M) h2 h4 (le_of_eq (e M)))
      (add_rounds binary64 L-pos va vb)
    where
      e : (x : ℕ) → x + x ≡ 2 * x
      e x = omega arith

  xv : At (sub binary64 (add binary64 a b) a) (xs.p + n) (xs.n + p) (5 * M)
  xv = rounds-at (room M 5 (2 ^ 2098) (lit≤ tt) big) (grow xs.p xs.n n p (2 * (2 * M)) M (5 * M) xs.high h2 (e M))
      (grow xs.n xs.p p n (2 * (2 * M)) M (5 * M) xs.low h1 (e M)) (sub_rounds binary64 L-pos xs.val va)
    where
      e : (x : ℕ) → 2 * (2 * x) + x ≤ 5 * x
      e x = omega arith

  xw : At (sub binary64 (add binary64 a b) (sub binary64 (add binary64 a b) a)) (xs.p + xv.n) (xs.n + xv.p) (14 * M)
  xw = rounds-at (room M 14 (2 ^ 2098) (lit≤ tt) big) (grow xs.p xs.n xv.n xv.p (2 * (2 * M)) (2 * (5 * M)) (14 * M) xs.high xv.low (e M))
      (grow xs.n xs.p xv.p xv.n (2 * (2 * M)) (2 * (5 * M)) (14 * M) xs.low xv.high (e M)) (sub_rounds binary64 L-pos xs.val xv.val)
    where
      e : (x : ℕ) → 2 * (2 * x) + 2 * (5 * x) ≤ 14 * x
      e x = omega arith

  xc : At (sub binary64 a (sub binary64 (add binary64 a b) (sub binary64 (add binary64 a b) a))) (p + xw.n) (n + xw.p) (29 * M)
  xc = rounds-at (room M 29 (2 ^ 2098) (lit≤ tt) big) (grow p n xw.n xw.p M (2 * (14 * M)) (29 * M) h1 xw.low (e M))
      (grow n p xw.p xw.n M (2 * (14 * M)) (29 * M) h2 xw.high (e M)) (sub_rounds binary64 L-pos va xw.val)
    where
      e : (x : ℕ) → x + 2 * (14 * x) ≤ 29 * x
      e x = omega arith

  xd : At (sub binary64 b (sub binary64 (add binary64 a b) a)) (q + xv.n) (m + xv.p) (11 * M)
  xd = rounds-at (room M 11 (2 ^ 2098) (lit≤ tt) big) (grow q m xv.n xv.p M (2 * (5 * M)) (11 * M) h3 xv.low (e M))
      (grow m q xv.p xv.n M (2 * (5 * M)) (11 * M) h4 xv.high (e M)) (sub_rounds binary64 L-pos vb xv.val)
    where
      e : (x : ℕ) → x + 2 * (5 * x) ≤ 11 * x
      e x = omega arith

  xe : At (add binary64 (sub binary64 a (sub binary64 (add binary64 a b) (sub binary64 (add binary64 a b) a)))
      (sub binary64 b (sub binary64 (add binary64 a b) a))) (xc.p + xd.p) (xc.n + xd.n) (80 * M)
  xe = rounds-at (room M 80 (2 ^ 2098) (lit≤ tt) big)
      (grow xc.p xc.n xd.p xd.n (2 * (29 * M)) (2 * (11 * M)) (80 * M) xc.high xd.high (e M))
      (grow xc.n xc.p xd.n xd.p (2 * (29 * M)) (2 * (11 * M)) (80 * M) xc.low xd.low (e M)) (add_rounds binary64 L-pos xc.val xd.val)
    where
      e : (x : ℕ) → 2 * (29 * x) + 2 * (11 * x) ≤ 80 * x
      e x = omega arith

  -- |a| and |b| at most M / L, with 1000 * M below the largest f64: sum + error = a + b
  pub two-sum-exact : Exact (add binary64 a b) (two-sum-error a b) (p + q) (n + m)
  two-sum-exact = record {
    sp = xs.p;
    sn = xs.n;
    ep = xe.p;
    en = xe.n;
    sum = xs.val;
    err = xe.val;
    total = two-sum p n q m xs.p xs.n xv.p xv.n xw.p xw.n xc.p xc.n xd.p xd.n xe.p xe.n ra rb xs.rn xv.rn xw.rn
        xc.rn xd.rn xe.rn;
  }

-- ---- for |a| and |b| below 2 ^ 52
enough : 1000 * (2 ^ 52 * L) < 2 ^ 2098
unfolding L
enough = lit< tt

-- by the test |a| < 2 ^ 52
pub two-sum-under : {a b : Float} {p n q m : ℕ} → Under52 a → Under52 b → Val a p n L → Val b q m L
    → Exact (add binary64 a b) (two-sum-error a b) (p + q) (n + m)
two-sum-under {a} {b} {p} {n} {q} {m} ua ub va vb =
    let x = lt_says L-pos (abs-val va) (power-val 52 L) ua.small in
    let y = lt_says L-pos (abs-val vb) (power-val 52 L) ub.small in two-sum-exact a b p n q m (2 ^ 52 * L) va vb (val-rep ua.held va)
    (val-rep ub.held vb) enough
    (near p n (dist p n) (2 ^ 52 * L) x (dist_up p n).0) (near n p (dist p n) (2 ^ 52 * L) x (dist_up p n).1)
    (near q m (dist q m) (2 ^ 52 * L) y (dist_up q m).0) (near m q (dist q m) (2 ^ 52 * L) y (dist_up q m).1)
  where
    near : (p n d K : ℕ) → d + 0 < K + 0 → p ≤ n + d → p ≤ n + K
    near p n d K h k = omega arith
