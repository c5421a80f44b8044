-- The compensated step (Dekker): with |b| ≤ |a| and s the rounded sum of a and b, (a - s) + b, each operation rounded once, is exactly what the sum lost.
-- The day and its fraction are summed with it. Assumes nothing.
use mathlib.Core.Path.{◌≡◌, refl, subst, ◌∙◌}
use Prim.Native.Nat.{ℕ, ◌+◌, ◌*◌, ◌^◌, ◌≤◌, ◌<◌}
use native.Mathlib.Omega.{arith}
use mathlib.Core.Bool.{Bool, true, false, cond}
use lib.Dec.{T}
use lib.Ieee.{Float, binary64, add, sub, le, fits}
use Rattle.floats.specs.Whole.{abs}
use Rattle.rounding.specs.Value.{Val, Rounds, L}
use Rattle.rounding.proofs.Value.{add_rounds, sub_rounds, rounds-move, abs-val, L-pos}
use Rattle.rounding.proofs.Signed.{dist, dist_up, dist_shift, dist_flip}
use Rattle.rounding.proofs.Compare.{le_true, le_false}
use Rattle.rounding.proofs.Own.{Rep, val-rep}
use Rattle.rounding.proofs.Nearest.{rn_exact, error-rep}
use Rattle.rounding.proofs.TwoSum.{dekker}
use Rattle.rounding.proofs.TwoSumFloat.{At, rounds-at, Exact}

module _ {a b s : Float} {p n q m M : ℕ} (fa : T (fits binary64 a)) (fb : T (fits binary64 b)) (va : Val a p n L) (vb : Val b q m L)
    (order : dist q m ≤ dist p n) (most : dist p n ≤ M) (far : 32 * M < 2 ^ 2098)
    (r : Rounds binary64 s (p + q) (n + m) L) where
  xs : At s (p + q) (n + m) (2 * M)
  xs = rounds-at (twice M (2 ^ 2098) far) (join p n q m (dist p n) (dist q m) (dist_up p n).0 (dist_up q m).0 order most)
      (join n p m q (dist p n) (dist q m) (dist_up p n).1 (dist_up q m).1 order most) r
    where
      twice : (M t : ℕ) → 32 * M < t → 2 * (2 * M) < t
      twice M t h = omega arith

      join : (p n q m x y : ℕ) → p ≤ n + x → q ≤ m + y → y ≤ x → x ≤ M → p + q ≤ n + m + 2 * M
      join p n q m x y h k l o = omega arith

  xt : At (sub binary64 a s) (p + xs.n) (n + xs.p) (5 * M)
  xt = rounds-at (twice M (2 ^ 2098) far) (join p n xs.n xs.p (dist p n) (dist_up p n).0 most xs.low)
      (join n p xs.p xs.n (dist p n) (dist_up p n).1 most xs.high) (sub_rounds binary64 L-pos va xs.val)
    where
      twice : (M t : ℕ) → 32 * M < t → 2 * (5 * M) < t
      twice M t h = omega arith

      join : (p n x y d : ℕ) → p ≤ n + d → d ≤ M → x ≤ y + 2 * (2 * M) → p + x ≤ n + y + 5 * M
      join p n x y d h k l = omega arith

  xe : At (add binary64 (sub binary64 a s) b) (xt.p + q) (xt.n + m) (11 * M)
  xe = rounds-at (twice M (2 ^ 2098) far) (join q m xt.p xt.n (dist p n) (dist q m) (dist_up q m).0 order most xt.high)
      (join m q xt.n xt.p (dist p n) (dist q m) (dist_up q m).1 order most xt.low) (add_rounds binary64 L-pos xt.val vb)
    where
      twice : (M t : ℕ) → 32 * M < t → 2 * (11 * M) < t
      twice M t h = omega arith

      join : (q m x y d e : ℕ) → q ≤ m + e → e ≤ d → d ≤ M → x ≤ y + 2 * (5 * M) → x + q ≤ y + m + 11 * M
      join q m x y d e h k l o = omega arith

  -- s + ((a - s) + b) = a + b
  pub compensated : Exact s (add binary64 (sub binary64 a s) b) (p + q) (n + m)
  compensated =
      let f : Rep (dist (xs.p + n) (xs.n + p)) = dekker p n q m xs.p xs.n (val-rep fa va) (val-rep fb vb) xs.rn order in
      let g : Rep (dist (p + q + xs.n) (n + m + xs.p)) = error-rep p n q m xs.p xs.n (val-rep fa va) (val-rep fb vb) xs.rn in
      let e1 : p + xs.n + xt.n ≡ xt.p + (n + xs.p) =
      rn_exact (subst Rep (dist_flip (xs.p + n) (xs.n + p) ∙ dist_shift (xs.n + p) (xs.p + n) (p + xs.n) (n + xs.p) (omega arith)) f) xt.rn in
      let e2 : xt.p + q + xe.n ≡ xe.p + (xt.n + m) =
      rn_exact (subst Rep (dist_shift (p + q + xs.n) (n + m + xs.p) (xt.p + q) (xt.n + m) (omega arith)) g) xe.rn in
      record { sp = xs.p; sn = xs.n; ep = xe.p; en = xe.n; sum = xs.val; err = xe.val; total = omega arith }

-- with the test on the sizes that picks the larger part
pub compensated_either : {a b s : Float} {p n q m M : ℕ} → T (fits binary64 a) → T (fits binary64 b) → Val a p n L → Val b q m L → dist p n ≤ M → dist q m ≤ M
    → 32 * M < 2 ^ 2098 → Rounds binary64 s (p + q) (n + m) L
    → Exact s (cond (le (abs b) (abs a)) (add binary64 (sub binary64 a s) b) (add binary64 (sub binary64 b s) a)) (p + q) (n + m)
compensated_either {a} {b} {s} {p} {n} {q} {m} {M} fa fb va vb ha hb far r =
    go (le (abs b) (abs a)) (λ e. le_true L-pos (abs-val vb) (abs-val va) e) (λ e. le_false L-pos (abs-val vb) (abs-val va) e)
  where
    plain : (x y : ℕ) → x + 0 ≤ y + 0 → x ≤ y
    plain x y h = omega arith

    weak : (x y : ℕ) → x + 0 < y + 0 → x ≤ y
    weak x y h = omega arith

    turned : Exact s (add binary64 (sub binary64 b s) a) (q + p) (m + n) → Exact s (add binary64 (sub binary64 b s) a) (p + q) (n + m)
    turned x = record { sp = x.sp; sn = x.sn; ep = x.ep; en = x.en; sum = x.sum; err = x.err; total = omega (arith, x.total) }

    go : (u : Bool) → (u ≡ true → dist q m + 0 ≤ dist p n + 0) → (u ≡ false → dist p n + 0 < dist q m + 0)
        → Exact s (cond u (add binary64 (sub binary64 a s) b) (add binary64 (sub binary64 b s) a)) (p + q) (n + m)
    go true h k = compensated fa fb va vb (plain (dist q m) (dist p n) (h refl)) ha far r
    go false h k = turned (compensated fb fa vb va (weak (dist p n) (dist q m) (k refl)) hb far (rounds-move r (omega arith)))
