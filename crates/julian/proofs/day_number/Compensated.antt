-- Off the grid, how near: the compensation finds exactly what a sum loses, so that the sum and its correction together are off by 2 ^ -93 for each fraction,
-- and the day's fraction by 5 * 2 ^ -54 at most. Assumes nothing.
use mathlib.Core.Path.{◌≡◌, refl, sym, ap, ◌∙◌, subst}
use mathlib.Core.Bool.{Bool, true, false, cond}
use Prim.Native.Nat.{ℕ, ◌+◌, ◌*◌, ◌^◌, ◌≤◌, ◌<◌}
use native.Mathlib.Omega.{arith}
use lib.Dec.{T, lit≤, lit<}
use lib.Ieee.{Float, binary64, add, sub, lt, le, fits}
use lib.Ieee.Fits.{add-fits}
use Rattle.floats.specs.Whole.{nought, one}
use Rattle.rounding.specs.Value.{Val, L}
use Rattle.rounding.proofs.Value.{L-pos, val-unique, add_rounds}
use Rattle.rounding.proofs.Signed.{dist_le}
use Rattle.rounding.proofs.Compare.{lt_true, le_true}
use Rattle.rounding.proofs.Near.{add_near}
use Rattle.rounding.proofs.Chain.{ValClose, exactly, close_move, close_neg}
use Rattle.rounding.proofs.TwoSumFloat.{Exact}
use Rattle.rounding.proofs.Compensated.{compensated_either}
use Rattle.julian.specs.declared.day_number.Kahan.{Kahan}
use Rattle.julian.specs.declared.day_number.Summed.{Summed}
use Rattle.julian.specs.day_number.DayNumber.{compensation, add_fraction, borrow_sum, borrow_fraction}
use Rattle.julian.proofs.day_number.Units.{W, L-W, W-pos, Z, Z-W, one-L, nought-L}
use Rattle.julian.proofs.day_number.CarryDay.{minus_one}

-- sums of less than K are off by w at most
abbrev pub Law : ℕ → ℕ → Type 0
Law K w = (x y : Float) (p n q m : ℕ) → p + q < n + m + K → n + m < p + q + K → Val x p n L → Val y q m L → ValClose L (add binary64 x y) (p + q) (n + m) w

near : (j K w : ℕ) → j ≤ 2044 → 2 ^ (53 + j) ≡ K → 2 ^ j ≡ 2 * w → Law K w
near j K w b e d x y p n q m u l v z =
    let k = add_near j b (subst (λ (i : ℕ). p + q < n + m + i) (sym e) u) (subst (λ (i : ℕ). n + m < p + q + i) (sym e) l) v z in
    record {
      p = k.p;
      n = k.n;
      val = k.val;
      over = half (k.p + (n + m)) (k.n + (p + q)) (2 ^ j) d k.over;
      under =
          half (k.n + (p + q)) (k.p + (n + m)) (2 ^ j) d k.under;
    }
  where
    half : (a b i : ℕ) → i ≡ 2 * w → 2 * a ≤ 2 * b + i → a ≤ b + w
    half a b i e h = omega arith

pub law2 : Law (2 * L) (2 * W)
unfolding L W
law2 = near 1022 (2 * 2 ^ 1074) (2 * 2 ^ 1020) (lit≤ tt) refl refl

law1 : Law L W
unfolding L W
law1 = near 1021 (2 ^ 1074) (2 ^ 1020) (lit≤ tt) refl refl

law0 : Law (32768 * W) Z
unfolding L W Z
law0 = near 982 (32768 * 2 ^ 1020) (2 ^ 981) (lit≤ tt) refl refl

-- ---- one more fraction: the sum and its correction together, with `up` days carried, are A - B to within e
pub record Tot (k : Summed) (up A B e : ℕ) : Type 0 where
  pub p : ℕ
  pub n : ℕ
  pub a : ℕ
  pub b : ℕ
  pub sum : Val k.kahan.sum p n L
  pub correction : Val k.kahan.correction a b L
  pub over : p + a + (B + up * L) ≤ n + b + A + e
  pub under : n + b + A ≤ p + a + (B + up * L) + e

far : 32 * (2 * L) < 2 ^ 2098
unfolding L
far = lit< tt

module _ (κ : Kahan) (f : Float) (fs : T (fits binary64 κ.sum)) (ff : T (fits binary64 f)) (p n a b Q M : ℕ) (vs : Val κ.sum p n L)
    (vk : Val κ.correction a b L) (vf : Val f Q M L)
    (s1 : p ≤ n + 2 * L) (s2 : n ≤ p + 2 * L) (f1 : Q ≤ M + 2 * L) (f2 : M ≤ Q + 2 * L) (k1 : a ≤ b + 64 * W) (k2 : b ≤ a + 64 * W)
    (t1 : p + Q + 2 * W < n + M + 2 * L) (t2 : n + M < p + Q + 2 * L) where
  abbrev temp : Float
  temp = add binary64 κ.sum f

  -- what is lost is found exactly
  lost : Exact temp (compensation κ.sum f temp) (p + Q) (n + M)
  unfolding compensation
  lost = compensated_either fs ff vs vf (dist_le p n (2 * L) s1 s2) (dist_le Q M (2 * L) f1 f2) far (add_rounds binary64 L-pos vs vf)

  -- and it is small, as is the correction
  fixed : (x y u v : ℕ) → Val temp x y L → Val (compensation κ.sum f temp) u v L → x + u + (n + M) ≡ y + v + (p + Q) → (x < y + 2 * L)
      × ValClose L (add binary64 κ.correction (compensation κ.sum f temp)) (a + u) (b + v) Z
  fixed x y u v w l e =
      let t = law2 κ.sum f p n Q M (omega arith) t2 vs vf in
      let q = val-unique w t.val in (
        omega (arith, t.over),
        law0 κ.correction (compensation κ.sum f temp) a b u v (omega (arith, t.under, W-pos)) (omega (arith, t.over, W-pos)) vk
            l,
      )

  settle : (g : Bool) (c x y u v : ℕ) → le one temp ≡ g → Val temp x y L → x < y + 2 * L → x + u + (n + M) ≡ y + v + (p + Q)
      → ValClose L (add binary64 κ.correction (compensation κ.sum f temp)) (a + u) (b + v) Z
      → (r : Summed) → r ≡ cond g (record
      { carry = c + 1; kahan = record { sum = sub binary64 temp one; correction = add binary64 κ.correction (compensation κ.sum f temp) } })
      (record { carry = c; kahan = record { sum = temp; correction = add binary64 κ.correction (compensation κ.sum f temp) } })
      → (up : ℕ) × (r.carry ≡ c + up) × Tot r up (p + a + Q) (n + b + M) Z
  settle true c x y u v test w h e k r q =
      let o : L + y ≤ x + 0 = le_true L-pos one-L w test in (
        1,
        ap (λ (z : Summed). z.carry) q,
        subst (λ (z : Summed). Tot z 1 (p + a + Q) (n + b + M) Z) (sym q) (record {
          p = x;
          n = y + L;
          a = k.p;
          b = k.n;
          sum = minus_one temp x y (add-fits binary64 κ.sum f) w (omega arith) h;
          correction = k.val;
          over = omega (arith, k.over);
          under = omega (arith, k.under);
        }),
      )
  settle false c x y u v test w h e k r q = (
    0,
    ap (λ (z : Summed). z.carry) q ∙ plain c,
    subst (λ (z : Summed). Tot z 0 (p + a + Q) (n + b + M) Z) (sym q) (record {
      p = x;
      n = y;
      a = k.p;
      b = k.n;
      sum = w;
      correction = k.val;
      over = omega (arith, k.over);
      under = omega (arith, k.under);
    }),
  )
    where
      plain : (c : ℕ) → c ≡ c + 0
      plain c = omega arith

  pub tight : (c : ℕ) → (up : ℕ) × ((add_fraction c κ f).carry ≡ c + up) × Tot (add_fraction c κ f) up (p + a + Q) (n + b + M) Z
  unfolding add_fraction
  tight c =
      let k = fixed lost.sp lost.sn lost.ep lost.en lost.sum lost.err lost.total in
      settle (le one temp) c lost.sp lost.sn lost.ep lost.en refl lost.sum k.0 lost.total k.1 (add_fraction c κ f) refl

-- ---- into [0, 1)
add_with : (K w : ℕ) → Law K w → {x y : Float} {P N Q M e e' : ℕ} → ValClose L x P N e → ValClose L y Q M e' → P + Q + (e + e') < N + M + K
    → N + M + (e + e') < P + Q + K → ValClose L (add binary64 x y) (P + Q) (N + M) (e + e' + w)
add_with K w law {x} {y} {P} {N} {Q} {M} {e} {e'} a b u l =
    let k = law x y a.p a.n b.p b.n (room a.p a.n b.p b.n P N Q M a.over b.over u)
    (room a.n a.p b.n b.p N P M Q a.under b.under l) a.val b.val in
    record {
      p = k.p;
      n = k.n;
      val = k.val;
      over = grow k.p k.n a.p a.n b.p b.n P N Q M k.over a.over b.over;
      under =
          grow k.n k.p a.n a.p b.n b.p N P M Q k.under a.under b.under;
    }
  where
    room : (p n q m P N Q M : ℕ) → p + N ≤ n + P + e → q + M ≤ m + Q + e' → P + Q + (e + e') < N + M + K → p + q < n + m + K
    room p n q m P N Q M x y z = omega arith

    grow : (s t p n q m P N Q M : ℕ) → s + (n + m) ≤ t + (p + q) + w → p + N ≤ n + P + e → q + M ≤ m + Q + e' → s + (N + M) ≤ t + (P + Q) + (e + e' + w)
    grow s t p n q m P N Q M x y z = omega arith

sub_with : (K w : ℕ) → Law K w → {x y : Float} {P N Q M e e' : ℕ} → ValClose L x P N e → ValClose L y Q M e' → P + M + (e + e') < N + Q + K
    → N + Q + (e + e') < P + M + K → ValClose L (sub binary64 x y) (P + M) (N + Q) (e + e' + w)
unfolding sub
sub_with K w law a b u l = add_with K w law a (close_neg b) u l

-- one day borrowed, with s + 1 rounded to x - y
borrow_of : (s z : Float) (p n a b x y : ℕ) → Val s p n L → ValClose L z (p + a) (n + b) W → Val (borrow_sum s) x y L → a ≤ b + 64 * W → b ≤ a + 64 * W
    → x + n ≤ y + (p + L) + 2 * W → y + (p + L) ≤ x + n + 2 * W
    → p < n + 100 * W → n + 100 * W < p + L → ValClose L (borrow_fraction s (sub binary64 z s)) (p + a + L) (n + b) (4 * W + 3 * Z)
borrow_of s z p n a b x y vs cz v3 k1 k2 x1 x2 s1 s2 =
    let r : ValClose L (sub binary64 z s) a b (W + Z) =
    close_move (sub_with (32768 * W) Z law0 cz (exactly vs) (omega (arith, W-pos)) (omega (arith, W-pos))) (omega arith) (omega arith) in
    let i : ValClose L (sub binary64 one (borrow_sum s)) (L + y) (0 + x) W =
    close_move (sub_with L W law1 (exactly one-L) (exactly v3) (omega (arith, W-pos, L-W)) (omega (arith, W-pos, L-W))) refl (omega arith) in
    let c : ValClose L (add binary64 (sub binary64 one (borrow_sum s)) s) (L + y + p) (x + n) (W + Z) =
    close_move (add_with (32768 * W) Z law0 i (exactly vs) (omega (arith, W-pos)) (omega (arith, W-pos))) (omega arith) (omega arith) in
    let k = add_with (32768 * W) Z law0 r c (omega (arith, W-pos, Z-W)) (omega (arith, W-pos, Z-W)) in
    close_move (add_with (2 * L) (2 * W) law2 (exactly v3) k (omega (arith, W-pos, Z-W, L-W)) (omega (arith, W-pos, Z-W, L-W))) (omega arith) (omega arith)

module _ (s k : Float) (p n a b : ℕ) (vs : Val s p n L) (vk : Val k a b L) (k1 : a ≤ b + 64 * W) (k2 : b ≤ a + 64 * W) (s1 : p < n + L + 64 * W)
    (s2 : n + 100 * W < p + L) where
  pub kept_near : ValClose L (add binary64 s k) (p + a) (n + b) (2 * W)
  kept_near = law2 s k p n a b (omega (arith, L-W, W-pos)) (omega (arith, L-W, W-pos)) vs vk

  small : lt (add binary64 s k) nought ≡ true → p + a < n + b + 2 * W
  small test = go kept_near.p kept_near.n kept_near.under (lt_true L-pos kept_near.val nought-L test)
    where
      go : (x y : ℕ) → y + (p + a) ≤ x + (n + b) + 2 * W → x + 0 < 0 + y → p + a < n + b + 2 * W
      go x y u o = omega arith

  pub borrowed_near : lt (add binary64 s k) nought ≡ true
      → ValClose L (borrow_fraction s (sub binary64 (add binary64 s k) s)) (p + a + L) (n + b) (4 * W + 3 * Z)
  borrowed_near test =
      let low : p + a < n + b + 2 * W = small test in
      let z = law1 s k p n a b (omega (arith, L-W, W-pos)) (omega (arith, L-W, W-pos)) vs vk in
      let s3 = law2 s one p n L 0 (omega (arith, L-W, W-pos)) (omega (arith, L-W, W-pos)) vs one-L
      in borrow_of s (add binary64 s k) p n a b s3.p s3.n vs z s3.val k1 k2 (plain s3.p s3.n s3.over) (plain' s3.p s3.n s3.under)
      (omega (arith, W-pos)) s2
    where
      plain : (x y : ℕ) → x + (n + 0) ≤ y + (p + L) + 2 * W → x + n ≤ y + (p + L) + 2 * W
      plain x y h = omega arith

      plain' : (x y : ℕ) → y + (p + L) ≤ x + (n + 0) + 2 * W → y + (p + L) ≤ x + n + 2 * W
      plain' x y h = omega arith
