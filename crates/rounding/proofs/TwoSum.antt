-- Knuth's two-sum over pairs of natural numbers, in units of 2 ^ -1074: with |b| ≤ |a| the rounded sum less a is a value (`dekker`), and two-sum's sum and
-- error add up to the parts (`two-sum`). TwoSumFloat and Compensated say it of floats. Assumes nothing.
use mathlib.Core.Path.{◌≡◌, refl, sym, ap, ◌∙◌, subst}
use mathlib.Core.Logic.{◌⊎◌, inl, inr}
use Prim.Native.Nat.{ℕ, zero, suc, ◌+◌, ◌*◌, ◌^◌, ◌≤◌, ◌<◌}
use native.Mathlib.Nat.{le_trans, le_of_eq, le_of_lt, lt_of_le_of_lt, not-le_of_lt, mul-one, mul_left_comm, pow-succ'}
use native.Mathlib.Omega.{arith}
use mathlib.Core.Bool.{Bool, true, false, not}
use lib.Dec.{T, leb, leb→le, nleb→lt}
use lib.Pow.{pow-add}
use Rattle.rounding.proofs.Signed.{dist_zero, signed-dist, dist_shift, dist_lo, dist_up, dist_le, dist_flip}
pub use Rattle.rounding.proofs.Signed.{dist, dist_hi}
use Rattle.rounding.proofs.Own.{Rep, rep_flip}
pub use Rattle.rounding.proofs.Own.{rep_zero}
use Rattle.rounding.proofs.Optimal.{step, step-fix, step-le}
use Rattle.rounding.proofs.Relative.{step-relative}
use Rattle.rounding.proofs.Nearest.{RN, rn_rep, rn_exact, error-size, rn_opt, sum-rep, error-rep, rn_le, rn_neg, rn_ge}

-- ---- Dekker
rep_double : (x : ℕ) → Rep x → Rep (2 * x)
rep_double x r = record {
  q = r.q;
  j = 1 + r.j;
  is = ap (λ (z : ℕ). 2 * z) r.is ∙ two r.q (2 ^ r.j)
      ∙ ap (λ (z : ℕ). r.q * z) (sym (pow-add 2 1 r.j));
  small = r.small;
}
  where
    two : (q t : ℕ) → 2 * (q * t) ≡ q * (2 * t)
    two q t = mul_left_comm 2 q t

-- half of a value that is not odd, or a value below 2 ^ 53
halves : (x : ℕ) → Rep x → (x < 2 ^ 53) ⊎ ((h : ℕ) × (x ≡ 2 * h) × Rep h)
halves x r = go r.j refl
  where
    go : (j : ℕ) → r.j ≡ j → (x < 2 ^ 53) ⊎ ((h : ℕ) × (x ≡ 2 * h) × Rep h)
    go zero e = inl (lt_of_le_of_lt (le_of_eq (r.is ∙ ap (λ (z : ℕ). r.q * 2 ^ z) e ∙ mul-one r.q)) r.small)
    go (suc j) e = inr (
      r.q * 2 ^ j,
      r.is ∙ ap (λ (z : ℕ). r.q * 2 ^ z) e ∙ ap (λ (z : ℕ). r.q * z) (pow-succ' 2 j) ∙ mul_left_comm r.q 2 (2 ^ j),
      record { q = r.q; j = j; is = refl; small = r.small },
    )

rep_small : (x : ℕ) → x < 2 ^ 53 → Rep x
rep_small x h = record { q = x; j = 0; is = sym (mul-one x); small = h }

module _ (ap' an bp bn sp sn : ℕ) (ra : Rep (dist ap' an)) (rb : Rep (dist bp bn)) (r : RN (ap' + bp) (an + bn) sp sn) (A B : ℕ) (eA : A ≡ dist ap' an)
    (eB : B ≡ dist bp bn) (small : B ≤ A) (a0 : A + an ≡ ap') where
  -- both signs alike
  alike : B + bn ≡ bp → Rep (dist (sp + an) (sn + ap'))
  alike b0 =
      let g : ap' + sn ≤ sp + an = rn_ge ap' an ra r (omega arith) in
      let two : Rep (dist (ap' + ap') (an + an)) =
      subst Rep (sym (dist_shift (ap' + ap') (an + an) (2 * A) 0 (omega arith) ∙ dist_zero (2 * A))) (rep_double A (subst Rep (sym eA) ra)) in
      let l : sp + (an + an) ≤ ap' + ap' + sn = rn_le (ap' + ap') (an + an) two r (omega arith) in
      sum-rep sp sn an ap' (rn_rep r) (rep_flip ap' an ra)
      (dist_le (sp + an) (sn + ap') (dist sp sn) (one (dist sp sn) (dist_up sp sn).0) (two' (dist sp sn) g))
      (dist_le (sp + an) (sn + ap') (dist an ap') (three (dist an ap') l (dist_up an ap').1) (two' (dist an ap') g))
    where
      one : (S : ℕ) → sp ≤ sn + S → sp + an ≤ sn + ap' + S
      one S h = omega arith

      two' : (S : ℕ) → ap' + sn ≤ sp + an → sn + ap' ≤ sp + an + S
      two' S h = omega arith

      three : (S : ℕ) → sp + (an + an) ≤ ap' + ap' + sn → ap' ≤ an + S → sp + an ≤ sn + ap' + S
      three S h k = omega arith

  unlike : B + bp ≡ bn → Rep (dist (sp + an) (sn + ap'))
  unlike b0 = go (leb A (2 * S)) (leb→le A (2 * S)) (nleb→lt A (2 * S))
    where
      S : ℕ
      S = dist sp sn

      zero_le' : 0 + sn ≤ sp + 0
      zero_le' = rn_ge 0 0 rep_zero r (omega arith)

      under : sp + an ≤ ap' + sn
      under = rn_le ap' an ra r (omega arith)

      s0 : S + sn ≡ sp
      s0 = dist_hi sp sn (down sn sp zero_le')
        where
          down : (x y : ℕ) → 0 + x ≤ y + 0 → x ≤ y
          down x y h = omega arith

      exact : Rep (dist (ap' + bp) (an + bn)) → Rep (dist (sp + an) (sn + ap'))
      exact f = let e : ap' + bp + sn ≡ sp + (an + bn) = rn_exact f r in subst Rep (sym (dist_shift (sp + an) (sn + ap') bp bn (turn e))) rb
        where
          turn : ap' + bp + sn ≡ sp + (an + bn) → sp + an + bn ≡ sn + ap' + bp
          turn e = omega arith

      size_is : dist (ap' + bp) (an + bn) + B ≡ A
      size_is = plus (dist (ap' + bp) (an + bn)) (dist_hi (ap' + bp) (an + bn) (omega arith))
        where
          plus : (d : ℕ) → d + (an + bn) ≡ ap' + bp → d + B ≡ A
          plus d h = omega arith

      far : A < 2 * B + 1 → Rep (dist (sp + an) (sn + ap'))
      far h = exact (sum-rep ap' an bp bn ra rb (le_trans (le1 (dist (ap' + bp) (an + bn)) size_is) (le_of_eq eA))
          (le_trans (le2 (dist (ap' + bp) (an + bn)) size_is) (le_of_eq eB)))
        where
          le1 : (d : ℕ) → d + B ≡ A → d ≤ A
          le1 d e = omega arith

          le2 : (d : ℕ) → d + B ≡ A → d ≤ B
          le2 d e = omega arith

      close : 2 * B < A → 2 * S < A → Rep (dist (sp + an) (sn + ap'))
      close h k = elim (halves A (subst Rep (sym eA) ra)) [
        | inl l ↦ exact (rep_small (dist (ap' + bp) (an + bn)) (tiny (dist (ap' + bp) (an + bn)) size_is l))
        | inr w ↦ absurd (no w.0 w.1 (rn_ge w.0 0 (subst Rep (sym (dist_zero w.0)) w.2) r (low w.0 w.1)))
      ]
        where
          tiny : (d : ℕ) → d + B ≡ A → A < 2 ^ 53 → d < 2 ^ 53
          tiny d e l = omega arith

          low : (x : ℕ) → A ≡ 2 * x → x + (an + bn) ≤ ap' + bp + 0
          low x e = omega arith

          no : (x : ℕ) → A ≡ 2 * x → x + sn ≤ sp + 0 → ⊥
          no x e l = omega (arith, s0)

      go : (b : Bool) → (T b → A ≤ 2 * S) → (T (not b) → 2 * S < A) → Rep (dist (sp + an) (sn + ap'))
      go true f g = sum-rep sp sn an ap' (rn_rep r) (rep_flip ap' an ra) (dist_le (sp + an) (sn + ap') S (up S under) (one S s0 (f tt)))
          (dist_le (sp + an) (sn + ap') (dist an ap') (up (dist an ap') under) (two (dist an ap') (dist_up an ap').1))
        where
          up : (K : ℕ) → sp + an ≤ ap' + sn → sp + an ≤ sn + ap' + K
          up K h = omega arith

          one : (K : ℕ) → K + sn ≡ sp → A ≤ 2 * K → sn + ap' ≤ sp + an + K
          one K h l = omega arith

          two : (K : ℕ) → ap' ≤ an + K → sn + ap' ≤ sp + an + K
          two K h = omega (arith, zero_le')
      go false f g = elim (lt_or_ge (2 * B) A) [ inl h ↦ close h (g tt) | inr h ↦ far h ]
        where
          lt_or_ge : (x y : ℕ) → (x < y) ⊎ (y < x + 1)
          lt_or_ge x y = pick (leb y x) (leb→le y x) (nleb→lt y x)
            where
              pick : (b : Bool) → (T b → y ≤ x) → (T (not b) → x < y) → (x < y) ⊎ (y < x + 1)
              pick true f g = inr (let h : y ≤ x = f tt in omega arith)
              pick false f g = inl (g tt)

dekker_up : (ap' an bp bn sp sn : ℕ) → Rep (dist ap' an) → Rep (dist bp bn) → RN (ap' + bp) (an + bn) sp sn → dist bp bn ≤ dist ap' an → an ≤ ap'
    → Rep (dist (sp + an) (sn + ap'))
dekker_up ap' an bp bn sp sn ra rb r h l = go (leb bn bp) (leb→le bn bp) (nleb→lt bn bp)
  where
    go : (b : Bool) → (T b → bn ≤ bp) → (T (not b) → bp < bn) → Rep (dist (sp + an) (sn + ap'))
    go true f g = alike ap' an bp bn sp sn ra rb r (dist ap' an) (dist bp bn) refl refl h (dist_hi ap' an l) (dist_hi bp bn (f tt))
    go false f g = unlike ap' an bp bn sp sn ra rb r (dist ap' an) (dist bp bn) refl refl h (dist_hi ap' an l) (dist_lo bp bn (le_of_lt (g tt)))

-- |b| ≤ |a|: the rounded sum less a is a value
pub dekker : (ap' an bp bn sp sn : ℕ) → Rep (dist ap' an) → Rep (dist bp bn) → RN (ap' + bp) (an + bn) sp sn → dist bp bn ≤ dist ap' an
    → Rep (dist (sp + an) (sn + ap'))
dekker ap' an bp bn sp sn ra rb r h = go (leb an ap') (leb→le an ap') (nleb→lt an ap')
  where
    go : (b : Bool) → (T b → an ≤ ap') → (T (not b) → ap' < an) → Rep (dist (sp + an) (sn + ap'))
    go true f g = dekker_up ap' an bp bn sp sn ra rb r h (f tt)
    go false f g =
        rep_flip (sn + ap') (sp + an)
        (dekker_up an ap' bn bp sn sp (rep_flip ap' an ra) (rep_flip bp bn rb) (rn_neg r)
        (le_trans (le_of_eq (dist_flip bn bp)) (le_trans h (le_of_eq (dist_flip ap' an)))) (le_of_lt (g tt)))

-- the size of what is rounded: no less than a value that is no more
rn_size : {P N p n : ℕ} (x : ℕ) → Rep x → RN P N p n → x ≤ dist P N → x ≤ dist p n
rn_size {P} {N} {p} {n} x f r h =
    le_trans (le_of_eq (sym (step-fix x f)))
    (le_trans (step-le x r.size (le_trans h (le_of_eq (signed-dist r.sign r.size P N r.is))))
    (le_of_eq (sym (signed-dist r.sign (step r.size) p n r.to))))

-- ---- two-sum
module _ (ap' an bp bn sp sn vp vn wp wn cp cn dp dn ep en : ℕ) (ra : Rep (dist ap' an)) (rb : Rep (dist bp bn)) (rs : RN (ap' + bp) (an + bn) sp sn)
    (rv : RN (sp + an) (sn + ap') vp vn)
    (rw' : RN (sp + vn) (sn + vp) wp wn) (rc : RN (ap' + wn) (an + wp) cp cn) (rd : RN (bp + vn) (bn + vp) dp dn) (re : RN (cp + dp) (cn + dn) ep en) where
  error : Rep (dist (ap' + bp + sn) (an + bn + sp))
  error = error-rep ap' an bp bn sp sn ra rb rs

  -- where s - a is exact
  from-exact : Rep (dist (sp + an) (sn + ap')) → sp + ep + (an + bn) ≡ sn + en + (ap' + bp)
  from-exact f =
      let e1 : sp + an + vn ≡ vp + (sn + ap') = rn_exact f rv in
      let e2 : sp + vn + wn ≡ wp + (sn + vp) = rn_exact (subst Rep (sym (dist_shift (sp + vn) (sn + vp) ap' an (omega arith))) ra) rw' in
      let e3 : ap' + wn + cn ≡ cp + (an + wp) = rn_exact (subst Rep (sym (dist_shift (ap' + wn) (an + wp) 0 0 (omega arith))) rep_zero) rc in
      let e4 : bp + vn + dn ≡ dp + (bn + vp) =
      rn_exact (subst Rep (sym (dist_shift (bp + vn) (bn + vp) (ap' + bp + sn) (an + bn + sp) (omega arith))) error) rd in
      let e5 : cp + dp + en ≡ ep + (cn + dn) =
      rn_exact (subst Rep (sym (dist_shift (cp + dp) (cn + dn) (ap' + bp + sn) (an + bn + sp) (omega arith))) error) re in
      omega arith

  -- |a| ≤ |s|, |a| ≤ |b|
  from-large : dist ap' an ≤ dist sp sn → dist ap' an ≤ dist bp bn → sp + ep + (an + bn) ≡ sn + en + (ap' + bp)
  from-large h k =
      let e2 : sp + vn + wn ≡ wp + (sn + vp) =
      rn_exact (subst Rep (sym (dist_shift (sp + vn) (sn + vp) (vn + sp) (vp + sn) (omega arith)))
      (rep_flip (vp + sn) (vn + sp) (dekker sp sn an ap' vp vn (rn_rep rs) (rep_flip ap' an ra) rv (le_trans (le_of_eq (dist_flip an ap')) h)))) rw' in
      let e3 : ap' + wn + cn ≡ cp + (an + wp) =
      rn_exact (subst Rep (sym (dist_shift (ap' + wn) (an + wp) (sn + ap' + vp) (sp + an + vn) (omega arith)))
      (rep_flip (sp + an + vn) (sn + ap' + vp) (error-rep sp sn an ap' vp vn (rn_rep rs) (rep_flip ap' an ra) rv))) rc in
      let e4 : bp + vn + dn ≡ dp + (bn + vp) = rn_exact (sum-rep bp bn vn vp rb (rep_flip vp vn (rn_rep rv)) near.0 near.1) rd in
      let e5 : cp + dp + en ≡ ep + (cn + dn) =
      rn_exact (subst Rep (sym (dist_shift (cp + dp) (cn + dn) (ap' + bp + sn) (an + bn + sp) (omega arith))) error) re in
      omega arith
    where
      D : ℕ
      D = dist (ap' + bp + sn) (an + bn + sp)

      -- the error of s - a is no more than that of s, since b is a value
      first : dist (sp + an + vn) (sn + ap' + vp) ≤ D
      first = le_trans (rn_opt bp bn rb rv)
          (le_of_eq (dist_shift (sp + an + bn) (sn + ap' + bp) (an + bn + sp) (ap' + bp + sn) (omega arith) ∙ dist_flip (an + bn + sp) (ap' + bp + sn)))

      -- and that is at most 2 ^ -53 of |a + b|
      second : 2 ^ 53 * D ≤ dist (ap' + bp) (an + bn)
      second = le_trans (le_of_eq (ap (λ (z : ℕ). 2 ^ 53 * z)
          (error-size rs.sign rs.size (step rs.size) (ap' + bp) (an + bn) sp sn rs.is rs.to)))
          (le_trans (part rs.size (step rs.size) (step-relative rs.size).0 (step-relative rs.size).1)
          (le_of_eq (sym (signed-dist rs.sign rs.size (ap' + bp) (an + bn) rs.is))))
        where
          part : (a g : ℕ) → 2 ^ 53 * g ≤ 2 ^ 53 * a + a → 2 ^ 53 * a ≤ 2 ^ 53 * g + a → 2 ^ 53 * dist g a ≤ a
          part a g x y = omega arith

      third : dist (ap' + bp) (an + bn) ≤ dist ap' an + dist bp bn
      third = dist_le (ap' + bp) (an + bn) (dist ap' an + dist bp bn) (plus ap' an bp bn (dist ap' an) (dist bp bn) (dist_up ap' an).0 (dist_up bp bn).0)
          (plus an ap' bn bp (dist ap' an) (dist bp bn) (dist_up ap' an).1 (dist_up bp bn).1)
        where
          plus : (p n q m x y : ℕ) → p ≤ n + x → q ≤ m + y → p + q ≤ n + m + (x + y)
          plus p n q m x y u v = omega arith

      fourth : dist (bp + vn) (bn + vp) ≤ 2 * D
      fourth = dist_le (bp + vn) (bn + vp) (2 * D)
          (one (dist (sp + an + vn) (sn + ap' + vp)) D first (dist_up (sp + an + vn) (sn + ap' + vp)).0 (dist_up (ap' + bp + sn) (an + bn + sp)).0)
          (two (dist (sp + an + vn) (sn + ap' + vp)) D first (dist_up (sp + an + vn) (sn + ap' + vp)).1 (dist_up (ap' + bp + sn) (an + bn + sp)).1)
        where
          one : (x y : ℕ) → x ≤ y → sp + an + vn ≤ sn + ap' + vp + x → ap' + bp + sn ≤ an + bn + sp + y → bp + vn ≤ bn + vp + 2 * y
          one x y l u v = omega arith

          two : (x y : ℕ) → x ≤ y → sn + ap' + vp ≤ sp + an + vn + x → an + bn + sp ≤ ap' + bp + sn + y → bn + vp ≤ bp + vn + 2 * y
          two x y l u v = omega arith

      fifth : dist bp bn ≤ dist vn vp + dist (bp + vn) (bn + vp)
      fifth = dist_le bp bn (dist vn vp + dist (bp + vn) (bn + vp))
          (one (dist vn vp) (dist (bp + vn) (bn + vp)) (dist_up vn vp).1 (dist_up (bp + vn) (bn + vp)).0)
          (two (dist vn vp) (dist (bp + vn) (bn + vp)) (dist_up vn vp).0 (dist_up (bp + vn) (bn + vp)).1)
        where
          one : (x y : ℕ) → vp ≤ vn + x → bp + vn ≤ bn + vp + y → bp ≤ bn + (x + y)
          one x y u v = omega arith

          two : (x y : ℕ) → vn ≤ vp + x → bn + vp ≤ bp + vn + y → bn ≤ bp + (x + y)
          two x y u v = omega arith

      near : (dist (bp + vn) (bn + vp) ≤ dist bp bn) × (dist (bp + vn) (bn + vp) ≤ dist vn vp)
      near = all (dist ap' an) (dist bp bn) (dist vn vp) (dist (bp + vn) (bn + vp)) D (dist (ap' + bp) (an + bn)) k second third fourth fifth
        where
          all : (A B W X Y C : ℕ) → A ≤ B → 2 ^ 53 * Y ≤ C → C ≤ A + B → X ≤ 2 * Y → B ≤ W + X → (X ≤ B) × (X ≤ W)
          all A B W X Y C h1 h2 h3 h4 h5 = omega arith

  -- s + e = a + b
  pub two-sum : sp + ep + (an + bn) ≡ sn + en + (ap' + bp)
  two-sum = go (leb (dist bp bn) (dist ap' an)) (leb→le (dist bp bn) (dist ap' an)) (nleb→lt (dist bp bn) (dist ap' an)) (leb (dist ap' an) (dist sp sn))
      (leb→le (dist ap' an) (dist sp sn)) (nleb→lt (dist ap' an) (dist sp sn))
    where
      go : (b : Bool) → (T b → dist bp bn ≤ dist ap' an) → (T (not b) → dist ap' an < dist bp bn) → (c : Bool) → (T c → dist ap' an ≤ dist sp sn)
          → (T (not c) → dist sp sn < dist ap' an) → sp + ep + (an + bn) ≡ sn + en + (ap' + bp)
      go true f g c f' g' = from-exact (dekker ap' an bp bn sp sn ra rb rs (f tt))
      go false f g true f' g' = from-large (f' tt) (le_of_lt (g tt))
      go false f g false f' g' = elim
          (under (leb (dist (ap' + bp) (an + bn)) (dist ap' an)) (leb→le (dist (ap' + bp) (an + bn)) (dist ap' an))
          (nleb→lt (dist (ap' + bp) (an + bn)) (dist ap' an))) [
            | inl l ↦
                let e : ap' + bp + sn ≡ sp + (an + bn) = rn_exact (sum-rep ap' an bp bn ra rb l (le_trans l (le_of_lt (g tt)))) rs in
                from-exact (subst Rep (sym (dist_shift (sp + an) (sn + ap') bp bn (turn e))) rb)
            | inr l ↦ absurd (not-le_of_lt (g' tt) (rn_size (dist ap' an) ra rs (le_of_lt l)))
          ]
        where
          under : (b : Bool) → (T b → dist (ap' + bp) (an + bn) ≤ dist ap' an) → (T (not b) → dist ap' an < dist (ap' + bp) (an + bn))
              → (dist (ap' + bp) (an + bn) ≤ dist ap' an) ⊎ (dist ap' an < dist (ap' + bp) (an + bn))
          under true x y = inl (x tt)
          under false x y = inr (y tt)

          turn : ap' + bp + sn ≡ sp + (an + bn) → sp + an + bn ≡ sn + ap' + bp
          turn e = omega arith
