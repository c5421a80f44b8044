-- The sum of the two fractions from 1/2, in units of 1 / D, where each sum is off by h units at most: the days carried, and where the sum and its correction
-- then lie. Assumes nothing.
use mathlib.Core.Path.{◌≡◌, refl, sym, ap, ◌∙◌}
use mathlib.Core.Bool.{Bool, true, false, cond}
use Prim.Native.Nat.{ℕ, zero, suc, ◌+◌, ◌*◌, ◌≤◌, ◌<◌}
use native.Mathlib.Nat.{add-mul}
use native.Mathlib.Omega.{arith}
use lib.Ieee.{Float, binary64, add, sub, le}
use Rattle.rounding.specs.Value.{Val}
use Rattle.rounding.proofs.Compare.{le_true, le_false}
use Rattle.rounding.proofs.Chain.{ValClose, Adds, exactly, close_move, close_add, close_sub}
use Rattle.floats.specs.Whole.{abs, nought, half, one}
use Rattle.julian.specs.declared.day_number.Kahan.{Kahan}
use Rattle.julian.specs.declared.day_number.Summed.{Summed}
use Rattle.julian.specs.day_number.DayNumber.{kahan_start, compensation, add_fraction, sum_fractions}

-- one more fraction: `up` days are carried, and the sum and its correction stand so near A - B
pub record Stage (D h : ℕ) (k : Summed) (c A B e ek : ℕ) : Type 0 where
  pub up : ℕ
  pub few : up ≤ 1
  pub carry : k.carry ≡ c + up
  pub sum : ValClose D k.kahan.sum A (B + up * D) (e + 2 * h)
  pub correction : ValClose D k.kahan.correction 0 0 (ek + 2 * e + 4 * h)
  pub high : A < B + up * D + D + (e + h)
  pub reach : 1 ≤ up → B + up * D ≤ A + (e + h)

module _ (D h : ℕ) (adds : Adds D h) (dpos : 0 < D) (one-val : Val one D 0 D) (hs : 64 * h ≤ D) where
  -- what the sum lost, off by no more than this
  lost : (s f t : Float) (A B Q M e : ℕ) → ValClose D s A B e → Val f Q M D → ValClose D t (A + Q) (B + M) (e + h)
      → e ≤ 2 * h → A < B + D + 8 * h → B + 8 * h < A + D → Q ≤ M + D → M ≤ Q + D → ValClose D (compensation s f t) 0 0 (2 * e + 3 * h)
  unfolding compensation
  lost s f t A B Q M e a v c he h1 h2 h3 h4 = go (le (abs f) (abs s))
    where
      go : (b : Bool) → ValClose D (cond b (add binary64 (sub binary64 s t) f) (add binary64 (sub binary64 f t) s)) 0 0 (2 * e + 3 * h)
      go true = close_move (close_add D h adds (close_sub D h adds a c (omega arith) (omega arith)) (exactly v) (omega arith) (omega arith)) (omega arith)
          (omega arith)
      go false = close_move (close_add D h adds (close_sub D h adds (exactly v) c (omega arith) (omega arith)) a (omega arith) (omega arith)) (omega arith)
          (omega arith)

  settle : (u : Bool) (x y : Float) (c A B e ek : ℕ) → le one x ≡ u → ValClose D x A B (e + h) → ValClose D y 0 0 (ek + 2 * e + 4 * h) → e ≤ 2 * h
      → A + 8 * h < B + 2 * D + 8 * h → B ≤ A + 2 * D
      → Stage D h (cond u (record { carry = c + 1; kahan = record { sum = sub binary64 x one; correction = y } })
      (record { carry = c; kahan = record { sum = x; correction = y } })) c A B e ek
  settle true x y c A B e ek test t r he h1 h2 =
      let w : D + t.n ≤ t.p + 0 = le_true dpos one-val t.val test in
      let z : B + D ≤ A + (e + h) = omega (arith, t.over, w) in
      record {
        up = 1;
        few = omega arith;
        carry = refl;
        sum = close_move (close_sub D h adds t (exactly one-val) (omega arith) (omega arith)) (omega arith) (omega arith);
        correction = r;
        high = omega arith;
        reach = λ q. omega arith;
      }
  settle false x y c A B e ek test t r he h1 h2 =
      let w : t.p + 0 < D + t.n = le_false dpos one-val t.val test in
      let z : A < B + D + (e + h) = omega (arith, t.under, w) in
      record {
        up = 0;
        few = omega arith;
        carry = sym (plain c);
        sum = close_move t (omega arith) (omega arith);
        correction = r;
        high = omega arith;
        reach = λ q. let y : ⊥ = omega arith in absurd y;
      }
    where
      plain : (c : ℕ) → c + 0 ≡ c
      plain c = omega arith

  pub stage : (c : ℕ) (κ : Kahan) (f : Float) (A B Q M e ek : ℕ) → ValClose D κ.sum A B e → ValClose D κ.correction 0 0 ek → Val f Q M D
      → e ≤ 2 * h → ek ≤ 12 * h → A < B + D + 8 * h → B + 8 * h < A + D → Q + 16 * h ≤ M + D → M ≤ Q + D → Stage D h (add_fraction c κ f) c (A + Q) (B + M) e ek
  unfolding add_fraction
  stage c κ f A B Q M e ek a b v he hk h1 h2 h3 h4 =
      let s = κ.sum in
      let t : ValClose D (add binary64 s f) (A + Q) (B + M) (e + h) =
      close_move (close_add D h adds a (exactly v) (omega arith) (omega arith)) refl (omega arith) in
      let l = lost s f (add binary64 s f) A B Q M e a v t he h1 h2 (omega arith) h4 in
      let r = close_add D h adds b l (omega arith) (omega arith) in
      settle (le one (add binary64 s f)) (add binary64 s f) (add binary64 κ.correction (compensation s f (add binary64 s f))) c (A + Q) (B + M) e ek refl t
      (close_move r refl (omega arith)) he (omega arith) (omega arith)

-- both fractions: `up` days are carried
pub record Both (D h : ℕ) (k : Summed) (A B : ℕ) : Type 0 where
  pub up : ℕ
  pub few : up ≤ 2
  pub carry : k.carry ≡ up
  pub sum : ValClose D k.kahan.sum A (B + up * D) (4 * h)
  pub correction : ValClose D k.kahan.correction 0 0 (12 * h)
  pub high : A < B + up * D + D + 3 * h
  pub low : B + up * D + 60 * h ≤ A + D

module _ (D H h : ℕ) (adds : Adds D h) (dpos : 0 < D) (two : D ≡ 2 * H) (one-val : Val one D 0 D) (half-val : Val half H 0 D) (nought-val : Val nought 0 0 D)
    (hs : 1024 * h ≤ D)
    (f g : Float) (P N Q M : ℕ) (vf : Val f P N D) (vg : Val g Q M D)
    (f1 : N ≤ P + D) (f2 : P + 64 * h ≤ N + D) (g1 : M + 64 * h ≤ Q + D) (g2 : Q + 64 * h ≤ M + D) (fg : 2 * (N + M) + 128 * h ≤ 2 * (P + Q) + 3 * D) where
  pub first : Stage D h (add_fraction 0 kahan_start f) 0 (H + P) (0 + N) 0 0
  first = stage D h adds dpos one-val (omega arith) 0 kahan_start f H 0 P N 0 0 (exactly half-val) (exactly nought-val) vf (omega arith) (omega arith)
      (omega arith) (omega arith) (omega arith) (omega arith)

  pub both : Both D h (sum_fractions f g) (H + P + Q) (N + M)
  unfolding sum_fractions
  both =
      let a = first in
      let k = add_fraction 0 kahan_start f in
      let b = stage D h adds dpos one-val (omega arith) k.carry k.kahan g (H + P) (0 + N + a.up * D) Q M (0 + 2 * h) (0 + 2 * 0 + 4 * h) a.sum
      a.correction vg
      (omega arith) (omega arith) (upper (a.up * D) a.high) (lower a.up a.few a.reach) (omega arith) (omega arith) in
      record {
        up = a.up + b.up;
        few = omega (arith, a.few, b.few);
        carry = b.carry ∙ ap (λ (x : ℕ). x + b.up) (a.carry ∙ plain a.up);
        sum = close_move b.sum (shift a.up b.up) (omega arith);
        correction = close_move b.correction refl (omega arith);
        high = below a.up b.up b.high;
        low = above a.up b.up a.few b.few a.reach b.reach;
      }
    where
      plain : (x : ℕ) → 0 + x ≡ x
      plain x = omega arith

      upper : (x : ℕ) → H + P < 0 + N + x + D + (0 + h) → H + P < 0 + N + x + D + 8 * h
      upper x l = omega arith

      lower : (u : ℕ) → u ≤ 1 → (1 ≤ u → 0 + N + u * D ≤ H + P + (0 + h)) → 0 + N + u * D + 8 * h < H + P + D
      lower zero l r = omega arith
      lower (suc u) l r = let z : 0 + N + suc u * D ≤ H + P + (0 + h) = r (omega arith) in omega arith

      shift : (u v : ℕ) → H + P + Q + (N + M + (u + v) * D) ≡ H + P + Q + (0 + N + u * D + M + v * D)
      shift u v = simp add-mul (omega arith)

      below : (u v : ℕ) → H + P + Q < 0 + N + u * D + M + v * D + D + (0 + 2 * h + h) → H + P + Q < N + M + (u + v) * D + D + 3 * h
      below u v l = simp add-mul (omega arith)

      above : (u v : ℕ) → u ≤ 1 → v ≤ 1 → (1 ≤ u → 0 + N + u * D ≤ H + P + (0 + h)) → (1 ≤ v → 0 + N + u * D + M + v * D ≤ H + P + Q + (0 + 2 * h + h))
          → N + M + (u + v) * D + 60 * h ≤ H + P + Q + D
      above u (suc v) l m r q = let z : 0 + N + u * D + M + suc v * D ≤ H + P + Q + (0 + 2 * h + h) = q (omega arith) in simp add-mul (omega arith)
      above zero zero l m r q = omega arith
      above (suc u) zero l m r q = let z : 0 + N + suc u * D ≤ H + P + (0 + h) = r (omega arith) in simp add-mul (omega arith)
