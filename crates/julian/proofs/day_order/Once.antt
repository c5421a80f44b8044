-- Where the first fraction, added from a half, leaves 0 or a half, the day's fraction is rounded once: with G the exact sum plus one half, day and fraction are
-- T + RN (G - T) for a whole T with 0 ≤ G - T ≤ 1. Assumes nothing.
use mathlib.Core.Path.{◌≡◌, refl, sym, subst}
use mathlib.Core.Logic.{◌⊎◌, inl, inr}
use mathlib.Core.Bool.{Bool, true, false, cond}
use Prim.Native.Nat.{ℕ, ◌+◌, ◌*◌, ◌^◌, ◌≤◌, ◌<◌}
use native.Mathlib.Nat.{add-mul, one-mul, zero-mul}
use native.Mathlib.Omega.{arith}
use lib.Dec.{T, lit≤, lit<}
use lib.Ieee.{Float, binary64, add, sub, lt, le, fits, of_bits}
use lib.Ieee.Fits.{add-fits, sub-fits}
use lib.Ieee.Bits.{of_bits-fits}
use Rattle.floats.specs.Whole.{half, nought, one, abs}
use Rattle.rounding.specs.Value.{Val, Rounds, L}
use Rattle.rounding.proofs.Value.{L-pos, val-move, val-unique, rounds-move, add_rounds, sub_rounds}
use Rattle.rounding.proofs.Signed.{dist, dist_le, signed-dist}
use Rattle.rounding.proofs.Own.{Rep, val-rep, val-small}
use Rattle.rounding.proofs.Sterbenz.{rounds-rep}
use Rattle.rounding.proofs.Nearest.{rn_le, rn_ge}
use Rattle.rounding.proofs.TwoSumFloat.{At, rounds-at, Exact}
use Rattle.rounding.proofs.Compensated.{compensated, compensated_either}
use Rattle.rounding.proofs.Compare.{lt_true, lt_false, le_true}
use Rattle.rounding.proofs.Near.{sum_near}
use Rattle.julian.specs.day_number.DayNumber.{compensation, add_fraction, normalize_fraction, borrow_day, borrow_sum, borrow_fraction, carry_day}
use Rattle.julian.specs.day_number.DayNumber.{kahan_of, beside_borrowed}
use Rattle.julian.proofs.day_number.Units.{H, H-L, W, L-W, W-pos, one-L, half-L, nought-L}
use Rattle.julian.proofs.day_number.CarryDay.{Settled, settled, minus_one}
pub use Rattle.julian.proofs.day_number.Ends.{nought-fits}

-- with A - B the exact sum: z is A - B + down - up rounded once, which lies from 0 to 1, and the fraction is z less the days `more` carried at the end
pub record Once (up more down : ℕ) (fraction : Float) (A B : ℕ) : Type 0 where
  pub z : Float
  pub p : ℕ
  pub n : ℕ
  pub rounds : Rounds binary64 z (A + down * L) (B + up * L) L
  pub val : Val z p n L
  pub left : Val fraction p (n + more * L) L
  pub low : B + up * L ≤ A + down * L
  pub high : A + down * L ≤ B + up * L + L

-- ---- what is exact
-- a value of the format is rounded to itself
pub again : {y z : Float} {P N : ℕ} → T (fits binary64 y) → Val y P N L → Rounds binary64 z P N L → Val z P N L
again {y} {z} {P} {N} f v r =
    let e = signed-dist r.sign r.size P N r.is in
    rounds-rep r (subst Rep e (val-rep f v)) (subst (λ (x : ℕ). x < 2 ^ 2098) e (val-small f v))

pub half-fits : T (fits binary64 half)
unfolding of_bits
half-fits = of_bits-fits binary64 0x3fe0_0000_0000_0000

pub one-fits : T (fits binary64 one)
unfolding of_bits
one-fits = of_bits-fits binary64 0x3ff0_0000_0000_0000

far : 32 * L < 2 ^ 2098
unfolding L
far = lit< tt

pub far2 : 2 * (2 * L) < 2 ^ 2098
unfolding L
far2 = lit< tt

two-L : 2 ^ (53 + 1022) ≡ 2 * L
unfolding L
two-L = refl

four-W : 2 ^ 1022 ≡ 4 * W
unfolding W
four-W = refl

-- a rounded value under 2 is off by 2 ^ -53 at most
pub near : {z : Float} {P N p n : ℕ} → P < N + 2 * L → N < P + 2 * L → Rounds binary64 z P N L → Val z p n L → (p + N ≤ n + P + 2 * W) × (n + P ≤ p + N + 2 * W)
near {z} {P} {N} {p} {n} u l r v =
    let k = sum_near 1022 (lit≤ tt) (subst (λ (i : ℕ). P < N + i) (sym two-L) u) (subst (λ (i : ℕ). N < P + i) (sym two-L) l) r in
    let e = val-unique k.val v in
    (fin k.p k.n p n P N (2 ^ 1022) four-W e k.over, fin' k.p k.n p n P N (2 ^ 1022) four-W e k.under)
  where
    fin : (x y p n P N i : ℕ) → i ≡ 4 * W → x + n ≡ p + y → 2 * (x + N) ≤ 2 * (y + P) + i → p + N ≤ n + P + 2 * W
    fin x y p n P N i w e h = omega arith

    fin' : (x y p n P N i : ℕ) → i ≡ 4 * W → x + n ≡ p + y → 2 * (y + P) ≤ 2 * (x + N) + i → n + P ≤ p + N + 2 * W
    fin' x y p n P N i w e h = omega arith

-- ---- the last carry
module _ (s z : Float) (up down A B a b : ℕ) (fs : T (fits binary64 s)) (fz : T (fits binary64 z)) (r : Rounds binary64 z (A + down * L) (B + up * L) L)
    (vs : Val s a b L)
    (low : B + up * L ≤ A + down * L) (high : A + down * L ≤ B + up * L + L) (k1 : a + (B + up * L) ≤ b + (A + down * L) + 1024 * W)
    (k2 : b + (A + down * L) ≤ a + (B + up * L) + 1024 * W) where
  found : At z (A + down * L) (B + up * L) (2 * L)
  found = rounds-at far2 (omega arith) (omega arith) r

  finish : Once up (carry_day (kahan_of s z) z).carry down (carry_day (kahan_of s z) z).fraction A B
  finish =
      let f = found in
      let o : 0 + f.n ≤ f.p + 0 = rn_ge 0 0 (val-rep nought-fits nought-L) f.rn (omega arith) in
      let u : f.p + 0 ≤ L + f.n = rn_le L 0 (val-rep one-fits one-L) f.rn (omega arith) in
      let c = near (omega (arith, L-pos)) (omega (arith, L-pos)) r f.val in
      go f.p f.n f.val
      (settled s z f.p f.n a b fs fz f.val vs (omega arith) (omega (arith, W-pos)) (omega (arith, c.0)) (omega (arith, c.1)))
    where
      go : (p n : ℕ) → Val z p n L → Settled (carry_day (kahan_of s z) z) z p n
          → Once up (carry_day (kahan_of s z) z).carry down (carry_day (kahan_of s z) z).fraction A B
      go p n v k = record {
        z = z;
        p = p;
        n = n;
        rounds = r;
        val = v;
        left =
            subst (λ (i : ℕ). Val (carry_day (kahan_of s z) z).fraction p (n + i * L) L) (sym k.carry) k.val;
        low = low;
        high = high;
      }

-- ---- a day borrowed for s + k, of which one is 0
module _ (s z : Float) (p n a b : ℕ) (fs : T (fits binary64 s)) (fz : T (fits binary64 z)) (vs : Val s p n L) (vz : Val z (p + a) (n + b) L) (s1 : p ≤ n + L)
    (s2 : n ≤ p + L) where
  abbrev bs : Float
  bs = borrow_sum s

  abbrev lost : Float
  lost = add binary64 (sub binary64 one bs) s

  one_more : Rounds binary64 bs (L + p) (0 + n) L
  one_more = rounds-move (add_rounds binary64 L-pos vs one-L) (omega arith)

  both : Exact bs lost (L + p) (0 + n)
  both = compensated one-fits fs one-L vs (plain (dist p n) (dist_le p n L s1 s2)) (omega arith) far one_more
    where
      plain : (d : ℕ) → d ≤ L → d ≤ dist L 0
      plain d h = omega arith

  -- the sum is 0 beside its correction, or the correction is 0
  by-zero-correction : a ≡ b → Rounds binary64 (borrow_fraction s (sub binary64 z s)) (p + a + L) (n + b) L
  by-zero-correction e =
      let c : Val (sub binary64 z s) 0 0 L = again nought-fits nought-L (rounds-move (sub_rounds binary64 L-pos vz vs) (omega arith)) in
      let k : Val (add binary64 (sub binary64 z s) lost) both.ep both.en L =
      again (add-fits binary64 (sub binary64 one bs) s) both.err (rounds-move (add_rounds binary64 L-pos c both.err) (omega arith)) in
      rounds-move (add_rounds binary64 L-pos both.sum k) (omega (arith, both.total))

  by-zero-sum : p ≡ n → Rounds binary64 (borrow_fraction s (sub binary64 z s)) (p + a + L) (n + b) L
  by-zero-sum e =
      let c : Val (sub binary64 z s) (p + a) (n + b) L = again fz vz (rounds-move (sub_rounds binary64 L-pos vz vs) (omega arith)) in
      let o : Val bs L 0 L = again one-fits one-L (rounds-move one_more (omega arith)) in
      let d : Val lost 0 0 L = val-move both.err (omega (arith, both.total, val-unique o both.sum)) in
      let k : Val (add binary64 (sub binary64 z s) lost) (p + a) (n + b) L =
      again (sub-fits binary64 z s) c (rounds-move (add_rounds binary64 L-pos c d) (omega arith)) in
      rounds-move (add_rounds binary64 L-pos o k) (omega arith)

  near-one : (bp bn : ℕ) → Val bs bp bn L → p ≤ n → n < p + L → (bp + n ≤ bn + (p + L) + 2 * W) × (bn + (p + L) ≤ bp + n + 2 * W)
  near-one bp bn v h1 h2 = let c = near (omega (arith, L-pos)) (omega arith) one_more v in (omega (arith, c.0), omega (arith, c.1))

-- ---- the sum s = p - n and its correction t = a - b, exact together, brought into [0, 1)
pub record Borrows (z : Float) (p n a b : ℕ) : Type 0 where
  pub val : Val z (p + a) (n + b) L
  pub none : (a ≡ b) ⊎ (p ≡ n)
  pub below : p ≤ n
  pub above : n < p + L
  pub less : p + a ≤ n + b
  pub most : n + b ≤ p + a + L

module _ (s t : Float) (up A B p n a b : ℕ) (fs : T (fits binary64 s)) (vs : Val s p n L) (vt : Val t a b L) (total : p + a + (B + up * L) ≡ n + b + A)
    (k1 : a ≤ b + 4 * W) (k2 : b ≤ a + 4 * W) where
  abbrev z : Float
  z = add binary64 s t

  abbrev fr : Float
  fr = borrow_fraction s (sub binary64 z s)

  kept : n + b ≤ p + a → p + a ≤ n + b + L → Once up (carry_day (kahan_of s z) z).carry 0 (carry_day (kahan_of s z) z).fraction A B
  kept low high =
      finish s z up 0 A B p n fs (add-fits binary64 s t) (rounds-move (add_rounds binary64 L-pos vs vt) (omega (arith, zero-mul L))) vs
      (omega (arith, zero-mul L)) (omega (arith, zero-mul L)) (omega (arith, zero-mul L)) (omega (arith, zero-mul L))

  borrowed : Borrows z p n a b → Once up (carry_day (kahan_of (borrow_sum s) fr) fr).carry 1 (carry_day (kahan_of (borrow_sum s) fr) fr).fraction A B
  borrowed k = go k.none
    where
      fz : T (fits binary64 z)
      fz = add-fits binary64 s t

      ends : Rounds binary64 fr (p + a + L) (n + b) L
          → Once up (carry_day (kahan_of (borrow_sum s) fr) fr).carry 1 (carry_day (kahan_of (borrow_sum s) fr) fr).fraction A B
      ends r =
          let x = both s z p n a b fs fz vs k.val (omega (arith, k.below)) (omega (arith, k.above)) in
          let c = near-one s z p n a b fs fz vs k.val (omega (arith, k.below)) (omega (arith, k.above)) x.sp x.sn x.sum k.below k.above in
          finish (borrow_sum s) fr up 1 A B x.sp x.sn (add-fits binary64 s one)
          (add-fits binary64 (borrow_sum s) (add binary64 (sub binary64 z s) (add binary64 (sub binary64 one (borrow_sum s)) s)))
          (rounds-move r (omega (arith, one-mul L))) x.sum (omega (arith, one-mul L, k.most)) (omega (arith, one-mul L, k.less))
          (omega (arith, one-mul L, c.0)) (omega (arith, one-mul L, c.1))

      go : (a ≡ b) ⊎ (p ≡ n) → Once up (carry_day (kahan_of (borrow_sum s) fr) fr).carry 1 (carry_day (kahan_of (borrow_sum s) fr) fr).fraction A B
      go (inl e) = ends (by-zero-correction s z p n a b fs fz vs k.val (omega (arith, k.below)) (omega (arith, k.above)) e)
      go (inr e) = ends (by-zero-sum s z p n a b fs fz vs k.val (omega (arith, k.below)) (omega (arith, k.above)) e)

  normal : (lt z nought ≡ true → Borrows z p n a b) → (lt z nought ≡ false → (n + b ≤ p + a) × (p + a ≤ n + b + L))
      → Once up (normalize_fraction (record { sum = s; correction = t })).carry (normalize_fraction (record { sum = s; correction = t })).borrow
      (normalize_fraction (record { sum = s; correction = t })).fraction A B
  unfolding normalize_fraction borrow_day
  normal f g = go (lt z nought) f g
    where
      go : (u : Bool) → (u ≡ true → Borrows z p n a b) → (u ≡ false → (n + b ≤ p + a) × (p + a ≤ n + b + L))
          → Once up (cond u (beside_borrowed 1 (carry_day (kahan_of (borrow_sum s) fr) fr)) (beside_borrowed 0 (carry_day (kahan_of s z) z))).carry
          (cond u (beside_borrowed 1 (carry_day (kahan_of (borrow_sum s) fr) fr)) (beside_borrowed 0 (carry_day (kahan_of s z) z))).borrow
          (cond u (beside_borrowed 1 (carry_day (kahan_of (borrow_sum s) fr) fr)) (beside_borrowed 0 (carry_day (kahan_of s z) z))).fraction A B
      go true f g = borrowed (f refl)
      go false f g = let h = g refl in kept h.0 h.1

-- ---- one more fraction
by_cases : {C : Type 0} (k : C) (b : Bool) (p q : C) → k ≡ cond b p q → ((b ≡ true) × (k ≡ p)) ⊎ ((b ≡ false) × (k ≡ q))
by_cases k true p q e = inl (refl, e)
by_cases k false p q e = inr (refl, e)

module _ (c : ℕ) (s g : Float) where
  abbrev temp : Float
  temp = add binary64 s g

  abbrev corr : Float
  corr = add binary64 nought (compensation s g temp)

  tested : ((le one temp ≡ true) ×
      (add_fraction c (record { sum = s; correction = nought }) g
      ≡ record { carry = c + 1; kahan = record { sum = sub binary64 temp one; correction = corr } }))
      ⊎ ((le one temp ≡ false) × (add_fraction c (record { sum = s; correction = nought }) g ≡
      record { carry = c; kahan = record { sum = temp; correction = corr } }))
  unfolding add_fraction
  tested = by_cases (add_fraction c (record { sum = s; correction = nought }) g) (le one temp) _ _ refl

  abbrev pub Added : ℕ → ℕ → Type 0
  Added A B =
      Once (add_fraction c (record { sum = s; correction = nought }) g).carry
      (normalize_fraction (add_fraction c (record { sum = s; correction = nought }) g).kahan).carry
      (normalize_fraction (add_fraction c (record { sum = s; correction = nought }) g).kahan).borrow
      (normalize_fraction (add_fraction c (record { sum = s; correction = nought }) g).kahan).fraction A B

-- what the sum lost, as the correction
lost_fits : (s g t : Float) → T (fits binary64 (compensation s g t))
unfolding compensation
lost_fits s g t = go (le (abs g) (abs s)) (sub binary64 s t) (sub binary64 g t)
  where
    go : (u : Bool) (x y : Float) → T (fits binary64 (cond u (add binary64 x g) (add binary64 y s)))
    go true x y = add-fits binary64 x g
    go false x y = add-fits binary64 y s

module _ (s g : Float) (S Q M : ℕ) (fs : T (fits binary64 s)) (fg : T (fits binary64 g)) (vs : Val s S 0 L) (vg : Val g Q M L) (s1 : S ≤ H) (g1 : M ≤ Q + H)
    (g2 : Q ≤ M + H) where
  exact : Exact (add binary64 s g) (compensation s g (add binary64 s g)) (S + Q) (0 + M)
  unfolding compensation
  exact = compensated_either fs fg vs vg (dist_le S 0 L (omega (arith, H-L)) (omega arith)) (dist_le Q M L (omega (arith, H-L)) (omega (arith, H-L))) far
      (add_rounds binary64 L-pos vs vg)

fixed : (c : ℕ) (s g : Float) {P N : ℕ} → (x : Exact (add binary64 s g) (compensation s g (add binary64 s g)) P N) → Val (corr c s g) x.ep x.en L
fixed c s g x = again (lost_fits s g (add binary64 s g)) x.err (rounds-move (add_rounds binary64 L-pos nought-L x.err) (omega arith))

-- ---- from 0
module _ (g : Float) (Q M c : ℕ) (fg : T (fits binary64 g)) (vg : Val g Q M L) (g1 : M ≤ Q + H) (g2 : Q ≤ M + H) where
  x0 : Exact (add binary64 nought g) (compensation nought g (add binary64 nought g)) (0 + Q) (0 + M)
  x0 = exact nought g 0 Q M nought-fits fg nought-L vg (omega arith) g1 g2

  same : Val (add binary64 nought g) Q M L
  same = again fg vg (rounds-move (add_rounds binary64 L-pos nought-L vg) (omega arith))

  none-lost : x0.ep ≡ x0.en
  none-lost = go x0.sp x0.sn x0.ep x0.en x0.total (val-unique same x0.sum)
    where
      go : (p n a b : ℕ) → p + a + (0 + M) ≡ n + b + (0 + Q) → Q + n ≡ p + M → a ≡ b
      go p n a b e f = omega arith

  pub from-nought : Added c nought g (c * L + Q) M
  from-nought = go x0.ep x0.en none-lost (fixed c nought g x0) (tested c nought g)
    where
      go : (a b : ℕ) → a ≡ b → Val (corr c nought g) a b L
          → ((le one (temp c nought g) ≡ true)
          × (add_fraction c (record { sum = nought; correction = nought }) g ≡
          record { carry = c + 1; kahan = record { sum = sub binary64 (temp c nought g) one; correction = corr c nought g } }))
          ⊎ ((le one (temp c nought g) ≡ false)
          × (add_fraction c (record { sum = nought; correction = nought }) g ≡
          record { carry = c; kahan = record { sum = temp c nought g; correction = corr c nought g } })) → Added c nought g (c * L + Q) M
      go a b q v (inl (u, e)) = let w : L + M ≤ Q + 0 = le_true L-pos one-L same u in let k : ⊥ = omega (arith, H-L, L-pos) in absurd k
      go a b q v (inr (u, e)) = rw e (normal (temp c nought g) (corr c nought g) c (c * L + Q) M Q M a b (add-fits binary64 nought g) same v (omega arith)
          (omega arith) (omega arith) less more)
        where
          vz : Val (add binary64 (temp c nought g) (corr c nought g)) (Q + a) (M + b) L
          vz = again fg (val-move vg (omega arith)) (add_rounds binary64 L-pos same v)

          less : lt (add binary64 (temp c nought g) (corr c nought g)) nought ≡ true → Borrows (add binary64 (temp c nought g) (corr c nought g)) Q M a b
          less h = let w : Q + a + 0 < 0 + (M + b) =
              lt_true L-pos vz nought-L h in record {
                val = vz;
                none = inl q;
                below = omega arith;
                above = omega (arith, H-L, L-pos);
                less = omega arith;
                most = omega (arith, H-L);
              }

          more : lt (add binary64 (temp c nought g) (corr c nought g)) nought ≡ false → (M + b ≤ Q + a) × (Q + a ≤ M + b + L)
          more h = let w : 0 + (M + b) ≤ Q + a + 0 = lt_false L-pos vz nought-L h in (omega arith, omega (arith, H-L))

-- ---- from a half
module _ (g : Float) (Q M c : ℕ) (fg : T (fits binary64 g)) (vg : Val g Q M L) (g1 : M ≤ Q + H) (g2 : Q ≤ M + H) where
  x1 : Exact (add binary64 half g) (compensation half g (add binary64 half g)) (H + Q) (0 + M)
  x1 = exact half g H Q M half-fits fg half-L vg (omega arith) g1 g2

  r1 : Rounds binary64 (add binary64 half g) (H + Q) (0 + M) L
  r1 = add_rounds binary64 L-pos half-L vg

  most : (p n : ℕ) → Val (add binary64 half g) p n L → p ≤ n + L
  most p n v =
      let f = rounds-at far2 (omega (arith, H-L)) (omega (arith, H-L)) r1 in
      go f.p f.n (val-unique v f.val) (rn_le L 0 (val-rep one-fits one-L) f.rn (omega (arith, H-L)))
    where
      go : (x y : ℕ) → p + y ≡ x + n → x + 0 ≤ L + y → p ≤ n + L
      go x y e h = omega arith

  pub from-half : Added c half g (c * L + (H + Q)) M
  from-half = go x1.sp x1.sn x1.ep x1.en x1.sum x1.total (near (omega (arith, H-L, L-pos)) (omega (arith, H-L, L-pos)) r1 x1.sum)
      (most x1.sp x1.sn x1.sum) (fixed c half g x1) (tested c half g)
    where
      go : (p n a b : ℕ) → Val (temp c half g) p n L → p + a + (0 + M) ≡ n + b + (H + Q) → (p + (0 + M) ≤ n + (H + Q) + 2 * W)
          × (n + (H + Q) ≤ p + (0 + M) + 2 * W) → p ≤ n + L → Val (corr c half g) a b L
          → ((le one (temp c half g) ≡ true)
          × (add_fraction c (record { sum = half; correction = nought }) g ≡
          record { carry = c + 1; kahan = record { sum = sub binary64 (temp c half g) one; correction = corr c half g } }))
          ⊎ ((le one (temp c half g) ≡ false)
          × (add_fraction c (record { sum = half; correction = nought }) g ≡
          record { carry = c; kahan = record { sum = temp c half g; correction = corr c half g } })) → Added c half g (c * L + (H + Q)) M
      go p n a b vt total k high v (inl (u, e)) =
          let w : L + n ≤ p + 0 = le_true L-pos one-L vt u in
          rw e (normal (sub binary64 (temp c half g) one) (corr c half g) (c + 1) (c * L + (H + Q)) M p (n + L) a b (sub-fits binary64 (temp c half g) one)
          (vs w) v (simp add-mul (omega (arith, one-mul L))) (omega (arith, k.1)) (omega (arith, k.0)) (less w) (more w))
        where
          vs : L + n ≤ p + 0 → Val (sub binary64 (temp c half g) one) p (n + L) L
          vs w = minus_one (temp c half g) p n (add-fits binary64 half g) vt (omega arith) (omega (arith, L-pos))

          vz : L + n ≤ p + 0 → Val (add binary64 (sub binary64 (temp c half g) one) (corr c half g)) (p + a) (n + L + b) L
          vz w = again (add-fits binary64 nought (compensation half g (temp c half g))) (val-move v (omega arith)) (add_rounds binary64 L-pos (vs w) v)

          less : L + n ≤ p + 0 → lt (add binary64 (sub binary64 (temp c half g) one) (corr c half g)) nought ≡ true
              → Borrows (add binary64 (sub binary64 (temp c half g) one) (corr c half g)) p (n + L) a b
          less w h = let x : p + a + 0 < 0 + (n + L + b) =
              lt_true L-pos (vz w) nought-L h in record {
                val = vz w;
                none = inr (omega arith);
                below = omega arith;
                above = omega (arith, L-pos);
                less =
                    omega arith;
                most = omega (arith, k.0, L-W);
              }

          more : L + n ≤ p + 0 → lt (add binary64 (sub binary64 (temp c half g) one) (corr c half g)) nought ≡ false → (n + L + b ≤ p + a)
              × (p + a ≤ n + L + b + L)
          more w h = let x : 0 + (n + L + b) ≤ p + a + 0 = lt_false L-pos (vz w) nought-L h in (omega arith, omega (arith, k.1, L-W))
      go p n a b vt total k high v (inr (u, e)) =
          rw e (normal (temp c half g) (corr c half g) c (c * L + (H + Q)) M p n a b (add-fits binary64 half g) vt v (omega arith) (omega (arith, k.1))
          (omega (arith, k.0)) less more)
        where
          low : n + b ≤ p + a
          low = omega arith

          less : lt (add binary64 (temp c half g) (corr c half g)) nought ≡ true → Borrows (add binary64 (temp c half g) (corr c half g)) p n a b
          less h =
              let f = rounds-at far2 (omega (arith, H-L)) (omega arith) (add_rounds binary64 L-pos vt v) in
              let x : f.p + 0 < 0 + f.n = lt_true L-pos f.val nought-L h in
              let y : 0 + f.n ≤ f.p + 0 = rn_ge 0 0 (val-rep nought-fits nought-L) f.rn (omega arith) in
              let z : ⊥ = omega arith in absurd z

          more : lt (add binary64 (temp c half g) (corr c half g)) nought ≡ false → (n + b ≤ p + a) × (p + a ≤ n + b + L)
          more h = (low, omega (arith, H-L))
