-- The last carry: a fraction that is 1 or a little more gives a day, and one below 1 stays as it is. Assumes nothing.
use mathlib.Core.Path.{◌≡◌, refl, sym, subst}
use mathlib.Core.Logic.{◌⊎◌, inl, inr}
use mathlib.Core.Bool.{Bool, true, false, not, cond}
use Prim.Native.Nat.{ℕ, ◌+◌, ◌*◌, ◌^◌, ◌≤◌, ◌<◌}
use native.Mathlib.Nat.{mul-lt-mul_of_pos_right, mul-le-mul_right, add-mul, mul_assoc, lt_of_mul-lt-mul_right}
use native.Mathlib.Omega.{arith}
use lib.Dec.{T, leb, leb→le, nleb→lt, lit≤}
use lib.Pow.{pow_pos}
use lib.Ieee.{Float, binary64, add, sub, lt, fits}
use Rattle.floats.specs.Whole.{nought, one}
use Rattle.rounding.specs.Value.{Val, L}
use Rattle.rounding.proofs.Value.{L-pos, val-move, val-scale, val-unscale}
use Rattle.rounding.proofs.Exact.{add_exact, sub_exact}
use Rattle.rounding.proofs.Compare.{lt_true, lt_false}
use Rattle.rounding.proofs.Near.{sub_near}
use Rattle.rounding.proofs.Optimal.{multiple}
use Rattle.rounding.proofs.Signed.{dist}
use Rattle.rounding.proofs.Own.{val-rep}
use Rattle.julian.specs.declared.day_number.Kahan.{Kahan}
use Rattle.julian.specs.declared.day_number.Carried.{Carried}
use Rattle.julian.specs.day_number.DayNumber.{c_minus_eps_4, c_minus_eps_2, kahan_of, carry_day, carry_end}
use Rattle.julian.proofs.day_number.Units.{G, W, L-W, W-pos, one-L, minus-eps-4-L, one-G, nought-G, minus-eps-2-G, minus-eps-4}

-- of a fraction z = p - n: `up` days carried
pub record Settled (r : Carried) (z : Float) (p n : ℕ) : Type 0 where
  pub up : ℕ
  pub few : up ≤ 1
  pub carry : r.carry ≡ up
  pub val : Val r.fraction p (n + up * L) L
  pub low : n + up * L ≤ p
  pub high : p < n + up * L + L

kept : (z : Float) (p n : ℕ) → Val z p n L → n ≤ p → p < n + L → Settled (record { carry = 0; fraction = z }) z p n
kept z p n v h k = record { up = 0; few = omega arith; carry = refl; val = val-move v (omega arith); low = omega arith; high = omega arith }

-- ---- below 3/4 the test holds
two-L : 2 ^ 1075 ≡ 36028797018963968 * W
unfolding W
two-L = refl

four-W : 2 ^ 1022 ≡ 4 * W
unfolding W
four-W = refl

pub less_one : (z : Float) (p n : ℕ) → Val z p n L → n ≤ p → p < n + 13510798882111488 * W → lt (sub binary64 z one) c_minus_eps_4 ≡ false → ⊥
less_one z p n v h k test =
    let t = sub_near 1022 (lit≤ tt) (subst (λ (x : ℕ). p + 0 < n + L + x) (sym two-L) (omega (arith, L-W)))
    (subst (λ (x : ℕ). n + L < p + 0 + x) (sym two-L) (omega (arith, L-W))) v one-L in
    let e : 0 + t.n ≤ t.p + W = lt_false L-pos t.val minus-eps-4-L test in
    let o : 2 * (t.p + (n + L)) ≤ 2 * (t.n + (p + 0)) + 4 * W = subst (λ (x : ℕ). 2 * (t.p + (n + L)) ≤ 2 * (t.n + (p + 0)) + x) four-W t.over in
    fin t.p t.n o e
  where
    fin : (x y : ℕ) → 2 * (x + (n + L)) ≤ 2 * (y + (p + 0)) + 4 * W → 0 + y ≤ x + W → ⊥
    fin x y o e = omega (arith, L-W)

low-case : (κ : Kahan) (z : Float) (p n : ℕ) → Val z p n L → n ≤ p → p < n + 13510798882111488 * W → Settled (carry_day κ z) z p n
unfolding carry_day
low-case κ z p n v h k = go (lt (sub binary64 z one) c_minus_eps_4) refl _
  where
    go : (u : Bool) → lt (sub binary64 z one) c_minus_eps_4 ≡ u → (r : Carried) → Settled (cond u (record { carry = 0; fraction = z }) r) z p n
    go true test r = kept z p n v h (omega (arith, L-W))
    go false test r = absurd (less_one z p n v h k test)

-- ---- from 1/2 on, every value is a multiple of 2 ^ -53
pub to-grid : (x : Float) (p n : ℕ) → T (fits binary64 x) → Val x p n L → n + 9007199254740992 * W ≤ p → (d : ℕ) × (p ≡ n + d * (2 * W)) × Val x d 0 G
unfolding L W
to-grid x p n f v h =
    let m = multiple 1021 (dist p n) (val-rep f v) (big p n (2 ^ 1020) h) in
    let e : p ≡ n + m.0 * 2 ^ 1021 = place p n (m.0 * 2 ^ 1021) m.1 (weak p n (2 ^ 1020) h) in
    (m.0, e, val-unscale m.0 G (2 ^ 1021) (pow_pos 1021) (val-move v (shift p n (m.0 * 2 ^ 1021) e)))
  where
    weak : (p n w : ℕ) → n + 9007199254740992 * w ≤ p → n ≤ p
    weak p n w l = omega arith

    big : (p n w : ℕ) → n + 9007199254740992 * w ≤ p → 9007199254740992 * w ≤ dist p n
    big p n w l = omega arith

    place : (p n k : ℕ) → dist p n ≡ k → n ≤ p → p ≡ n + k
    place p n k e l = omega arith

    shift : (p n k : ℕ) → p ≡ n + k → p + 0 ≡ k + n
    shift p n k e = omega arith

back : (x : Float) (p n d : ℕ) → p ≡ n + d * (2 * W) → Val x d G G → Val x p (n + 1 * L) L
unfolding L W
back x p n d e v = val-move (val-scale (2 ^ 1021) v) (shift (d * 2 ^ 1021) p n (2 ^ 1074) e)
  where
    shift : (k p n l : ℕ) → p ≡ n + k → k + (n + 1 * l) ≡ p + l
    shift k p n l e = omega arith

pub cancel : (a b : ℕ) → a * (2 * W) < b * (2 * W) → a < b
cancel a b h = lt_of_mul-lt-mul_right (2 * W) h

-- from 1 to 2 the difference is exact
pub minus_one : (z : Float) (p n : ℕ) → T (fits binary64 z) → Val z p n L → n + L ≤ p → p < n + 2 * L → Val (sub binary64 z one) p (n + L) L
minus_one z p n f v h k = go (to-grid z p n f v (omega (arith, L-W)))
  where
    go : (d : ℕ) × (p ≡ n + d * (2 * W)) × Val z d 0 G → Val (sub binary64 z one) p (n + L) L
    go (d, e, x) =
        let b : d < 2 * G = cancel d (2 * G) (omega (arith, L-W)) in
        val-move (back (sub binary64 z one) p n d e (val-move (sub_exact 53 (lit≤ tt) (omega arith) (omega arith) x one-G) (omega arith))) (plain p n L)
      where
        plain : (p n l : ℕ) → p + (n + l) ≡ p + (n + 1 * l)
        plain p n l = omega arith

-- ---- from 3/4 on: on the grid of 2 ^ -53 every operation is exact, and the test is whether d units are below 1
record Ended (d : ℕ) (r : Carried) : Type 0 where
  carry : r.carry ≡ 1
  val : Val r.fraction d G G

end : (f : Float) (d : ℕ) → Val f d G G → G ≤ d → (r : Carried) → r ≡ carry_end f → Ended d r
unfolding carry_end
end f d v h r e = subst (λ (r : Carried). Ended d r) (sym e) (go (lt c_minus_eps_2 f) refl (lt nought f) refl)
  where
    go : (a : Bool) → lt c_minus_eps_2 f ≡ a → (b : Bool) → lt nought f ≡ b
        → Ended d (cond a (record { carry = 1; fraction = cond b f nought }) (record { carry = 0; fraction = f }))
    go true x true y = record { carry = refl; val = v }
    go true x false y = let w : d + 0 ≤ 0 + G = lt_false (pow_pos 53) nought-G v y in record { carry = refl; val = val-move nought-G (omega arith) }
    go false x b y = let w : d + 1 ≤ 0 + G = lt_false (pow_pos 53) minus-eps-2-G v x in let z : ⊥ = omega arith in absurd z

grid_case : (s z : Float) (d d' : ℕ) → Val z d 0 G → Val s d' 0 G → d < G + 1024 → d ≤ d' + 1024 → d' ≤ d + 1024 → G ≤ 2 * d
    → (r : Carried) → r ≡ carry_day (kahan_of s z) z → ((d < G) × (r ≡ record { carry = 0; fraction = z })) ⊎ ((G ≤ d) × Ended d r)
unfolding carry_day
grid_case s z d d' v w h1 h2 h3 h4 r e = go (lt (sub binary64 z one) c_minus_eps_4) refl e
  where
    t : Val (sub binary64 z one) (d + 0) (0 + G) G
    t = sub_exact 53 (lit≤ tt) (omega arith) (omega arith) v one-G

    go : (u : Bool) → lt (sub binary64 z one) c_minus_eps_4 ≡ u
        → r ≡ cond u (record { carry = 0; fraction = z })
        (carry_end (add binary64 (sub binary64 s one) (add binary64 (sub binary64 z s) (sub binary64 (sub binary64 s (sub binary64 s one)) one))))
        → ((d < G) × (r ≡ record { carry = 0; fraction = z })) ⊎ ((G ≤ d) × Ended d r)
    go true test q = let y : (d + 0) * 2 + 1 < 0 + (0 + G) * 2 = lt_true (pow_pos 54) (val-scale 2 t) minus-eps-4 test in inl (omega arith, q)
    go false test q =
        let y : 0 + (0 + G) * 2 ≤ (d + 0) * 2 + 1 = lt_false (pow_pos 54) (val-scale 2 t) minus-eps-4 test in
        let b : G ≤ d = omega arith in
        let s4 : Val (sub binary64 s one) (d' + 0) (0 + G) G = sub_exact 53 (lit≤ tt) (omega arith) (omega arith) w one-G in
        let x1 : Val (sub binary64 s (sub binary64 s one)) G 0 G = val-move (sub_exact 53 (lit≤ tt) (omega arith) (omega arith) w s4) (omega arith) in
        let x2 : Val (sub binary64 (sub binary64 s (sub binary64 s one)) one) 0 0 G =
        val-move (sub_exact 53 (lit≤ tt) (omega arith) (omega arith) x1 one-G) (omega arith) in
        let k : Val (sub binary64 z s) (d + 0) (0 + d') G = sub_exact 53 (lit≤ tt) (omega arith) (omega arith) v w in
        let f = add_exact 53 (lit≤ tt) (omega arith) (omega arith) s4 (add_exact 53 (lit≤ tt) (omega arith) (omega arith) k x2) in
        inr (b, end _ d (val-move f (omega arith)) b r q)

high-case : (s z : Float) (p n a b : ℕ) → T (fits binary64 s) → T (fits binary64 z) → Val z p n L → Val s a b L → n + 13510798882111488 * W ≤ p
    → p < n + L + 2048 * W → p + b ≤ n + a + 2048 * W → n + a ≤ p + b + 2048 * W → Settled (carry_day (kahan_of s z) z) z p n
high-case s z p n a b fs fz v w h1 h2 h3 h4 = go (to-grid z p n fz v (omega arith)) (to-grid s a b fs w (omega arith))
  where
    go : (d : ℕ) × (p ≡ n + d * (2 * W)) × Val z d 0 G → (d' : ℕ) × (a ≡ b + d' * (2 * W)) × Val s d' 0 G → Settled (carry_day (kahan_of s z) z) z p n
    go (d, e, x) (d', e', x') =
        let b1 : d < G + 1024 = cancel d (G + 1024) (omega (arith, L-W)) in
        let b2 : d < d' + 1025 = cancel d (d' + 1025) (rw add-mul (omega (arith, W-pos))) in
        let b3 : d' < d + 1025 = cancel d' (d + 1025) (rw add-mul (omega (arith, W-pos))) in
        let b4 : G < 2 * d + 1 = cancel G (2 * d + 1) (simp (add-mul, mul_assoc) (omega (arith, W-pos))) in
        fin (grid_case s z d d' x x' b1 (less d d' b2) (less d' d b3) (less' G (2 * d) b4) (carry_day (kahan_of s z) z) refl)
      where
        less : (x y : ℕ) → x < y + 1025 → x ≤ y + 1024
        less x y h = omega arith

        less' : (x y : ℕ) → x < y + 1 → x ≤ y
        less' x y h = omega arith

        W2 : 0 < 2 * W
        W2 = omega (arith, W-pos)

        fin : ((d < G) × (carry_day (kahan_of s z) z ≡ record { carry = 0; fraction = z })) ⊎ ((G ≤ d) × Ended d (carry_day (kahan_of s z) z))
            → Settled (carry_day (kahan_of s z) z) z p n
        fin (inl (l, q)) = subst (λ (r : Carried). Settled r z p n) (sym q)
            (kept z p n v (omega arith) (let m : d * (2 * W) < G * (2 * W) = mul-lt-mul_of_pos_right l W2 in omega (arith, L-W)))
        fin (inr (l, q)) = record {
          up = 1;
          few = omega arith;
          carry = q.carry;
          val = back _ p n d e q.val;
          low = (let m : G * (2 * W) ≤ d * (2 * W) = mul-le-mul_right (2 * W) l in omega (arith, L-W));
          high = omega (arith, L-W);
        }

-- ---- a fraction z that is 0 or more, and near the sum s that it was made of
pub settled : (s z : Float) (p n a b : ℕ) → T (fits binary64 s) → T (fits binary64 z) → Val z p n L → Val s a b L → n ≤ p
    → p < n + L + 2048 * W → p + b ≤ n + a + 2048 * W → n + a ≤ p + b + 2048 * W → Settled (carry_day (kahan_of s z) z) z p n
settled s z p n a b fs fz v w h1 h2 h3 h4 =
    go (leb (n + 13510798882111488 * W) p) (leb→le (n + 13510798882111488 * W) p) (nleb→lt (n + 13510798882111488 * W) p)
  where
    go : (u : Bool) → (T u → n + 13510798882111488 * W ≤ p) → (T (not u) → p < n + 13510798882111488 * W) → Settled (carry_day (kahan_of s z) z) z p n
    go true f g = high-case s z p n a b fs fz v w (f tt) h2 h3 h4
    go false f g = low-case (kahan_of s z) z p n v h1 (g tt)
