-- A difference of natural numbers rounded to nearest, in units of 2 ^ -1074: what is rounded is a value of the format (`rn_rep`), a value is rounded to itself
-- (`rn_exact`), none is nearer (`rn_opt`), the order is kept (`rn_le`, `rn_ge`), and the error of a rounded sum of two values is a value (`error-rep`). Assumes
-- nothing.
use mathlib.Core.Path.{◌≡◌, refl, sym, ap, ◌∙◌, subst}
use mathlib.Core.Logic.{◌⊎◌, inl, inr}
use Prim.Native.Nat.{ℕ, ◌+◌, ◌-◌, ◌*◌, ◌^◌, ◌≤◌, ◌<◌, min}
use native.Mathlib.Nat.{le_trans, le_of_eq, le_of_lt, lt_of_le_of_lt, eq-or-lt_of_le, le_of_mul-le-mul_right, one-mul, add-mul}
use native.Mathlib.Omega.{arith}
use mathlib.Core.Bool.{Bool, true, false, not}
use lib.Dec.{T, leb, leb→le, nleb→lt, lit<}
use lib.Pow.{pow-add, pow_pos}
use lib.Ieee.Nearest.{closest}
use lib.Ieee.Order.{kept}
use Rattle.rounding.specs.Value.{Signed}
use Rattle.rounding.proofs.Fractions.{sub_mul}
use Rattle.rounding.proofs.Signed.{dist_zero, signed-dist, signed-not, dist_shift, dist_lo, dist_up, dist_flip}
use Rattle.rounding.proofs.Signed.{dist, dist_hi}
use Rattle.rounding.proofs.Grid.{kept-le, closest_exact}
use Rattle.rounding.proofs.Own.{Rep, rep_flip, lift}
use Rattle.rounding.proofs.Own.{rep_zero}
use Rattle.rounding.proofs.Optimal.{digits_dropped, step, step-fix, step-le, step-optimal}

-- ---- multiples of a power of two
abbrev Mult : ℕ → ℕ → Type 0
Mult e d = (c : ℕ) × (d ≡ c * 2 ^ e)

mult_up : (q e j : ℕ) → e ≤ j → Mult e (q * 2 ^ j)
mult_up q e j h = (q * 2 ^ (j - e), lift q e j h)

mult_add : (e x y : ℕ) → Mult e x → Mult e y → Mult e (x + y)
mult_add e x y (a, p) (b, q) = (a + b, ap (λ (z : ℕ). z + y) p ∙ ap (λ (z : ℕ). a * 2 ^ e + z) q ∙ sym (add-mul a b (2 ^ e)))

mult_sub : (e x y : ℕ) → Mult e x → Mult e y → Mult e (x - y)
mult_sub e x y (a, p) (b, q) = (a - b, ap (λ (z : ℕ). z - y) p ∙ ap (λ (z : ℕ). a * 2 ^ e - z) q ∙ sym (sub_mul a b (2 ^ e)))

step-exact-at : (a c : ℕ) → a ≡ c * 2 ^ digits_dropped a → step a ≡ a
step-exact-at a c e =
    ap (λ (x : ℕ). x * 2 ^ digits_dropped a)
    (ap (λ (u : ℕ). closest a u) (one-mul (2 ^ digits_dropped a)) ∙ ap (λ (x : ℕ). closest x (2 ^ digits_dropped a)) e
    ∙ closest_exact c (2 ^ digits_dropped a) (pow_pos (digits_dropped a))) ∙ sym e

mult_step : (e a : ℕ) → Mult e a → Mult e (step a)
mult_step e a m = go (leb (digits_dropped a) e) (leb→le (digits_dropped a) e) (nleb→lt (digits_dropped a) e)
  where
    go : (b : Bool) → (T b → digits_dropped a ≤ e) → (T (not b) → e < digits_dropped a) → Mult e (step a)
    go true f g = let k = mult_up m.0 (digits_dropped a) e (f tt) in (m.0, step-exact-at a k.0 (m.1 ∙ k.1) ∙ m.1)
    go false f g = mult_up (kept 53 a 1) e (digits_dropped a) (le_of_lt (g tt))

-- ---- what is a multiple of the finer grid, and no more than either of two values, is a value
rep_mult : (x y d : ℕ) (r : Rep x) (s : Rep y) → Mult (min r.j s.j) d → d ≤ x → d ≤ y → Rep d
rep_mult x y d r s m h k = go (leb r.j s.j) (leb→le r.j s.j) (nleb→lt r.j s.j)
  where
    by : (e q z : ℕ) → min r.j s.j ≡ e → z ≡ q * 2 ^ e → q < 2 ^ 53 → d ≤ z → Rep d
    by e q z w v l g =
        let c : d ≡ m.0 * 2 ^ e = m.1 ∙ ap (λ (x : ℕ). m.0 * 2 ^ x) w in
        record {
          q = m.0;
          j = e;
          is = c;
          small =
              lt_of_le_of_lt (le_of_mul-le-mul_right {k = 2 ^ e} (le_trans (le_of_eq (sym c)) (le_trans g (le_of_eq v))) (pow_pos e)) l;
        }

    go : (b : Bool) → (T b → r.j ≤ s.j) → (T (not b) → s.j < r.j) → Rep d
    go true f g = by r.j r.q x (lo r.j s.j (f tt)) r.is r.small h
      where
        lo : (i j : ℕ) → i ≤ j → min i j ≡ i
        lo i j l = omega arith
    go false f g = by s.j s.q y (hi r.j s.j (g tt)) s.is s.small k
      where
        hi : (i j : ℕ) → j < i → min i j ≡ j
        hi i j l = omega arith

own-mult : (x : ℕ) (r : Rep x) (e : ℕ) → e ≤ r.j → Mult e x
own-mult x r e h = let k = mult_up r.q e r.j h in (k.0, r.is ∙ k.1)

mult_l : (x y : ℕ) (r : Rep x) (s : Rep y) → Mult (min r.j s.j) x
mult_l x y r s = own-mult x r (min r.j s.j) (omega arith)

mult_r : (x y : ℕ) (r : Rep x) (s : Rep y) → Mult (min r.j s.j) y
mult_r x y r s = own-mult y s (min r.j s.j) (omega arith)

-- what is rounded is a value of the format
pub rep_step : (a : ℕ) → Rep (step a)
rep_step a = elim (eq-or-lt_of_le (kept-le 53 a 1 (lit< tt))) [
  | inl e ↦ record {
    q = 1;
    j = 53 + digits_dropped a;
    is = ap (λ (x : ℕ). x * 2 ^ digits_dropped a) e ∙ sym (pow-add 2 53 (digits_dropped a))
        ∙ sym (one-mul (2 ^ (53 + digits_dropped a)));
    small = lit< tt;
  }
  | inr l ↦ record { q = kept 53 a 1; j = digits_dropped a; is = refl; small = l }
]

-- p - n is P - N, rounded to nearest
pub record RN (P N p n : ℕ) : Type 0 where
  pub sign : Bool
  pub size : ℕ
  pub is : Signed sign size P N
  pub to : Signed sign (step size) p n

-- what is rounded is a value of the format
pub rn_rep : {P N p n : ℕ} → RN P N p n → Rep (dist p n)
rn_rep {P} {N} {p} {n} r = subst Rep (sym (signed-dist r.sign (step r.size) p n r.to)) (rep_step r.size)

same_of : (s : Bool) (a g P N p n : ℕ) → Signed s a P N → Signed s g p n → g ≡ a → P + n ≡ p + N
same_of false a g P N p n h k e = omega arith
same_of true a g P N p n h k e = omega arith

-- a value of the format is rounded to itself
pub rn_exact : {P N p n : ℕ} → Rep (dist P N) → RN P N p n → P + n ≡ p + N
rn_exact {P} {N} {p} {n} f r = same_of r.sign r.size (step r.size) P N p n r.is r.to
    (step-fix r.size (subst Rep (signed-dist r.sign r.size P N r.is) f))

-- the size of the error of a rounding
pub error-size : (s : Bool) (a g P N p n : ℕ) → Signed s a P N → Signed s g p n → dist (P + n) (N + p) ≡ dist g a
error-size false a g P N p n h k = omega arith
error-size true a g P N p n h k = omega arith

opt_num : (s b c : Bool) (a D R P N Q M Y : ℕ) → Signed s a P N → (T b → Y + M ≡ Q) → (T (not b) → Y + Q ≡ M) → (T c → D + a ≤ Y) → (T (not c) → D + Y ≤ a)
    → D ≤ a → P + M ≤ N + Q + R → N + Q ≤ P + M + R → D ≤ R
opt_num false true true a D R P N Q M Y h f f' g g' d u l = let x : Y + M ≡ Q = f tt in let y : D + a ≤ Y = g tt in omega arith
opt_num false true false a D R P N Q M Y h f f' g g' d u l = let x : Y + M ≡ Q = f tt in let y : D + Y ≤ a = g' tt in omega arith
opt_num false false c a D R P N Q M Y h f f' g g' d u l = let x : Y + Q ≡ M = f' tt in omega arith
opt_num true true c a D R P N Q M Y h f f' g g' d u l = let x : Y + M ≡ Q = f tt in omega arith
opt_num true false true a D R P N Q M Y h f f' g g' d u l = let x : Y + Q ≡ M = f' tt in let y : D + a ≤ Y = g tt in omega arith
opt_num true false false a D R P N Q M Y h f f' g g' d u l = let x : Y + Q ≡ M = f' tt in let y : D + Y ≤ a = g' tt in omega arith

-- no value Q - M of the format is nearer to P - N than the rounded one
pub rn_opt : {P N p n : ℕ} (Q M : ℕ) → Rep (dist Q M) → RN P N p n → dist (P + n) (N + p) ≤ dist (P + M) (N + Q)
rn_opt {P} {N} {p} {n} Q M f r =
    let a = r.size in
    let Y = dist Q M in
    let o = step-optimal a Y f in
    le_trans (le_of_eq (error-size r.sign a (step a) P N p n r.is r.to))
    (opt_num r.sign (leb M Q) (leb a Y) a (dist (step a) a) (dist (P + M) (N + Q)) P N Q M Y r.is (λ t. dist_hi Q M (leb→le M Q t))
    (λ t. dist_lo Q M (le_of_lt (nleb→lt M Q t)))
    (λ t. near (dist (step a) a) a Y o (leb→le a Y t)) (λ t. near' (dist (step a) a) a Y o (le_of_lt (nleb→lt a Y t)))
    (nought (dist (step a) a) a (step-optimal a 0 rep_zero))
    (dist_up (P + M) (N + Q)).0 (dist_up (P + M) (N + Q)).1)
  where
    near : (D a Y : ℕ) → D ≤ dist Y a → a ≤ Y → D + a ≤ Y
    near D a Y h l = omega arith

    near' : (D a Y : ℕ) → D ≤ dist Y a → Y ≤ a → D + Y ≤ a
    near' D a Y h l = omega arith

    nought : (D a : ℕ) → D ≤ dist 0 a → D ≤ a
    nought D a h = omega arith

-- |x + y| is |x| + |y|, or their difference
dist_sum : (b c : Bool) (p n q m x y : ℕ) → (T b → x + n ≡ p) → (T (not b) → x + p ≡ n) → (T c → y + m ≡ q) → (T (not c) → y + q ≡ m)
    → (dist (p + q) (n + m) ≡ x + y) ⊎ (dist (p + q) (n + m) ≡ dist x y)
dist_sum true true p n q m x y f g h k =
    inl (dist_shift (p + q) (n + m) (x + y) 0 (let a : x + n ≡ p = f tt in let b : y + m ≡ q = h tt in omega arith) ∙ dist_zero (x + y))
dist_sum true false p n q m x y f g h k = inr (dist_shift (p + q) (n + m) x y (let a : x + n ≡ p = f tt in let b : y + q ≡ m = k tt in omega arith))
dist_sum false true p n q m x y f g h k =
    inr (dist_shift (p + q) (n + m) y x (let a : x + p ≡ n = g tt in let b : y + m ≡ q = h tt in omega arith) ∙ dist_flip y x)
dist_sum false false p n q m x y f g h k =
    inl (dist_shift (p + q) (n + m) 0 (x + y) (let a : x + p ≡ n = g tt in let b : y + q ≡ m = k tt in omega arith) ∙ plain (x + y))
  where
    plain : (z : ℕ) → dist 0 z ≡ z
    plain z = omega arith

sum-mult : (p n q m : ℕ) (r : Rep (dist p n)) (s : Rep (dist q m)) → Mult (min r.j s.j) (dist (p + q) (n + m))
sum-mult p n q m r s = go (dist_sum (leb n p) (leb m q) p n q m (dist p n) (dist q m) (λ t. dist_hi p n (leb→le n p t))
    (λ t. dist_lo p n (le_of_lt (nleb→lt n p t))) (λ t. dist_hi q m (leb→le m q t)) (λ t. dist_lo q m (le_of_lt (nleb→lt m q t))))
  where
    e : ℕ
    e = min r.j s.j

    a : Mult e (dist p n)
    a = mult_l (dist p n) (dist q m) r s

    b : Mult e (dist q m)
    b = mult_r (dist p n) (dist q m) r s

    go : (dist (p + q) (n + m) ≡ dist p n + dist q m) ⊎ (dist (p + q) (n + m) ≡ (dist p n - dist q m) + (dist q m - dist p n)) → Mult e (dist (p + q) (n + m))
    go (inl z) = subst (Mult e) (sym z) (mult_add e (dist p n) (dist q m) a b)
    go (inr z) = subst (Mult e) (sym z)
        (mult_add e (dist p n - dist q m) (dist q m - dist p n) (mult_sub e (dist p n) (dist q m) a b) (mult_sub e (dist q m) (dist p n) b a))

-- a sum of two values that is no larger than either is a value
pub sum-rep : (p n q m : ℕ) → Rep (dist p n) → Rep (dist q m) → dist (p + q) (n + m) ≤ dist p n → dist (p + q) (n + m) ≤ dist q m → Rep (dist (p + q) (n + m))
sum-rep p n q m r s h k = rep_mult (dist p n) (dist q m) (dist (p + q) (n + m)) r s (sum-mult p n q m r s) h k

-- the error of a rounded sum of two values is a value
pub error-rep : (ap an bp bn sp sn : ℕ) → Rep (dist ap an) → Rep (dist bp bn) → RN (ap + bp) (an + bn) sp sn → Rep (dist (ap + bp + sn) (an + bn + sp))
error-rep ap an bp bn sp sn ra rb r =
    let c = r.size in
    let e = error-size r.sign c (step c) (ap + bp) (an + bn) sp sn r.is r.to in
    let m : Mult (min ra.j rb.j) c =
    subst (Mult (min ra.j rb.j)) (signed-dist r.sign c (ap + bp) (an + bn) r.is) (sum-mult ap an bp bn ra rb) in
    let k = mult_step (min ra.j rb.j) c m in
    rep_mult (dist ap an) (dist bp bn) (dist (ap + bp + sn) (an + bn + sp)) ra rb
    (subst (Mult (min ra.j rb.j)) (sym e)
    (mult_add (min ra.j rb.j) (step c - c) (c - step c) (mult_sub (min ra.j rb.j) (step c) c k m)
    (mult_sub (min ra.j rb.j) c (step c) m k)))
    (le_trans (rn_opt bp bn rb r) (le_of_eq (first ap an bp bn))) (le_trans (rn_opt ap an ra r) (le_of_eq (second ap an bp bn)))
  where
    first : (ap an bp bn : ℕ) → dist (ap + bp + bn) (an + bn + bp) ≡ dist ap an
    first ap an bp bn = dist_shift (ap + bp + bn) (an + bn + bp) ap an (omega arith)

    second : (ap an bp bn : ℕ) → dist (ap + bp + an) (an + bn + ap) ≡ dist bp bn
    second ap an bp bn = dist_shift (ap + bp + an) (an + bn + ap) bp bn (omega arith)

-- ---- the order
le_num : (s b : Bool) (a g P N p n Q M : ℕ) → Signed s a P N → Signed s g p n → (T b → M ≤ Q) → (T (not b) → Q < M) → P + M ≤ Q + N
    → (a ≤ dist Q M → g ≤ dist Q M) → (dist Q M ≤ a → dist Q M ≤ g) → p + M ≤ Q + n
le_num false true a g P N p n Q M h k f l o u d = let x : M ≤ Q = f tt in let w : a ≤ dist Q M = omega arith in let v : g ≤ dist Q M = u w in omega arith
le_num false false a g P N p n Q M h k f l o u d = let x : Q < M = l tt in let w : ⊥ = omega arith in absurd w
le_num true true a g P N p n Q M h k f l o u d = let x : M ≤ Q = f tt in omega arith
le_num true false a g P N p n Q M h k f l o u d = let x : Q < M = l tt in let w : dist Q M ≤ a = omega arith in let v : dist Q M ≤ g = d w in omega arith

-- P - N at most a value Q - M of the format is rounded to no more, and one that is at least Q - M to no less
pub rn_le : {P N p n : ℕ} (Q M : ℕ) → Rep (dist Q M) → RN P N p n → P + M ≤ Q + N → p + M ≤ Q + n
rn_le {P} {N} {p} {n} Q M f r h = le_num r.sign (leb M Q) r.size (step r.size) P N p n Q M r.is r.to (leb→le M Q) (nleb→lt M Q) h
    (λ x. le_trans (step-le r.size (dist Q M) x) (le_of_eq (step-fix (dist Q M) f)))
    (λ x. le_trans (le_of_eq (sym (step-fix (dist Q M) f))) (step-le (dist Q M) r.size x))

pub rn_neg : {P N p n : ℕ} → RN P N p n → RN N P n p
rn_neg {P} {N} {p} {n} r = record {
  sign = not r.sign;
  size = r.size;
  is = signed-not r.sign r.size P N r.is;
  to =
      signed-not r.sign (step r.size) p n r.to;
}

pub rn_ge : {P N p n : ℕ} (Q M : ℕ) → Rep (dist Q M) → RN P N p n → Q + N ≤ P + M → Q + n ≤ p + M
rn_ge {P} {N} {p} {n} Q M f r h = turn (rn_le M Q (rep_flip Q M f) (rn_neg r) (turn' h))
  where
    turn' : Q + N ≤ P + M → N + Q ≤ M + P
    turn' g = omega arith

    turn : n + Q ≤ M + p → Q + n ≤ p + M
    turn g = omega arith
