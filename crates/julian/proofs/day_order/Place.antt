-- The day and the fraction of a date whose first part is a whole number of half days and whose second is at most a day: T + RN (G - T), with G the exact sum
-- plus one half, and T a whole number. Assumes nothing.
use mathlib.Core.Path.{◌≡◌, refl, sym, ap, ◌∙◌, subst}
use mathlib.Core.Logic.{◌⊎◌, inl, inr}
use mathlib.Core.Bool.{Bool, true, false, not, cond}
use Prim.Native.Nat.{ℕ, zero, suc, ◌+◌, ◌*◌, ◌^◌, ◌≤◌, ◌<◌}
use native.Mathlib.Nat.{add-mul, one-mul, zero-mul, mul_assoc, mul_comm, lt_of_mul-lt-mul_right, mul-le-mul_right}
use native.Mathlib.Omega.{arith}
use lib.Dec.{T, leb, leb→le, nleb→lt, lit≤}
use lib.IntN.{ℤ}
use lib.Ieee.{Float, binary64, lt, le, fits}
use lib.Ieee.Exact.{HasValue}
use Rattle.floats.specs.Whole.{half, nought, one, abs, nearest_int}
use Rattle.rounding.specs.Value.{Val, Rounds, L, plus_z, minus_z}
use Rattle.rounding.proofs.Value.{L-pos, val-scale, val-unique, abs-has, rounds-move}
use Rattle.rounding.proofs.Signed.{plus-of, minus-of}
use Rattle.rounding.proofs.Compare.{lt_false, le_says}
use Rattle.julian.specs.day_number.DayNumber.{accepted, rest, sum_fractions, joined_fractions, total, day_number, fraction_passed}
use Rattle.julian.proofs.day_number.Units.{H, H-L, H-pos, E, E-L, one-L, half-L}
use Rattle.julian.proofs.day_number.SignedUnits.{has-val}
use Rattle.julian.proofs.day_number.NearestNumber.{Numbers}
use Rattle.julian.proofs.day_number.NearestInt.{Whole, plain-plus, plain-minus}
use Rattle.julian.proofs.day_number.Parts.{rest-fits, left-off, off_size}
use Rattle.julian.proofs.day_number.Pair.{AcceptedSum}
use Rattle.julian.proofs.day_number.Accepted.{accepted-pair}
use Rattle.julian.proofs.day_number.JulianRange.{SumInRange, exact-sum, accepted-lo, accepted-hi}
use Rattle.julian.proofs.day_number.DayInRange.{total-is}
use Rattle.julian.specs.day_order.Order.{WholeHalves}
use Rattle.julian.proofs.day_order.Start.{Rounded, rounded}

-- a + b = (p - n) / L: with the whole number T = tp - tn, day and fraction are T + z, and z is a + b + 1/2 - T rounded once, which lies from 0 to 1
pub record Place (a b : Float) (p n : ℕ) : Type 0 where
  pub tp : ℕ
  pub tn : ℕ
  pub units : ℕ
  pub z : Float
  pub rounds : Rounds binary64 z (p + H + tn * L) (n + tp * L) L
  pub low : n + tp * L ≤ p + H + tn * L
  pub high : p + H + tn * L ≤ n + tp * L + L
  pub zp : ℕ
  pub zn : ℕ
  pub z_val : Val z zp zn L
  pub val : Val (fraction_passed a b) units 0 L
  pub sum : plus_z (day_number a b) * L + units + (zn + tn * L) ≡ minus_z (day_number a b) * L + (zp + tp * L)

-- ---- the first part
three : (u v P N : ℕ) → P + v * H ≡ N + u * H → v ≤ u + 1 → u ≤ v + 1 → (P ≡ N) ⊎ ((P ≡ N + H) ⊎ (N ≡ P + H))
three u v P N e k l = go (leb u v) (leb→le u v) (nleb→lt u v) (leb v u) (leb→le v u) (nleb→lt v u)
  where
    times : (x y : ℕ) → x ≡ y + 1 → x * H ≡ y * H + H
    times x y e = ap (λ (i : ℕ). i * H) e ∙ add-mul y 1 H ∙ ap (λ (i : ℕ). y * H + i) (one-mul H)

    go : (b : Bool) → (T b → u ≤ v) → (T (not b) → v < u) → (c : Bool) → (T c → v ≤ u) → (T (not c) → u < v) → (P ≡ N) ⊎ ((P ≡ N + H) ⊎ (N ≡ P + H))
    go true f g true h i = let q : u * H ≡ v * H = ap (λ (i : ℕ). i * H) (same (f tt) (h tt)) in inl (omega arith)
      where
        same : u ≤ v → v ≤ u → u ≡ v
        same a b = omega arith
    go false f g c h i = let q : u * H ≡ v * H + H = times u v (omega (arith, g tt)) in inr (inl (omega arith))
    go true f g false h i = let q : v * H ≡ u * H + H = times v u (omega (arith, i tt)) in inr (inr (omega arith))

-- the whole number A beside k half days, i - j of them
first-left : (P N i j x y : ℕ) → P + (j + 2 * y) * H ≡ N + (i + 2 * x) * H → 8 * N ≤ 8 * P + 5 * L → 8 * P ≤ 8 * N + 5 * L → (P ≡ N)
    ⊎ ((P ≡ N + H) ⊎ (N ≡ P + H))
first-left P N i j x y e k l = three (i + 2 * x) (j + 2 * y) P N e (less (i + 2 * x) (j + 2 * y) (by (i + 2 * x) (j + 2 * y) P N e k))
    (less (j + 2 * y) (i + 2 * x) (by (j + 2 * y) (i + 2 * x) N P (sym e) l))
  where
    less : (u v : ℕ) → v < u + 2 → v ≤ u + 1
    less u v h = omega arith

    by : (u v P N : ℕ) → P + v * H ≡ N + u * H → 8 * N ≤ 8 * P + 5 * L → v < u + 2
    by u v P N e k = lt_of_mul-lt-mul_right H (simp add-mul (omega (arith, H-L, H-pos)))

first_of : (a : Float) (w : WholeHalves a) (s : Bool) (X A : ℕ) → HasValue a s X L → Whole (nearest_int a) s X A → X < 2 ^ 50 * L
    → (plus-of s X + minus-of s A * L ≡ minus-of s X + plus-of s A * L)
    ⊎ ((plus-of s X + minus-of s A * L ≡ minus-of s X + plus-of s A * L + H) ⊎ (minus-of s X + plus-of s A * L ≡ plus-of s X + minus-of s A * L + H))
first_of a w s X A v k h =
    let i = plus_z w.halves in
    let j = minus_z w.halves in
    let u : Val a (i * H) (j * H) L = subst (λ (d : ℕ). Val a (i * H) (j * H) d) (sym H-L) (val-scale H w.val) in
    let e = val-unique (has-val a s X L v) u in
    let z = off_size s X A k.numbers h in
    first-left (plus-of s X + minus-of s A * L) (minus-of s X + plus-of s A * L) i j (minus-of s A) (plus-of s A)
    (shift (plus-of s X) (minus-of s X) i j (minus-of s A) (plus-of s A) e) z.0 z.1
  where
    twice : (x : ℕ) → x * L ≡ 2 * (x * H)
    twice x = ap (λ (l : ℕ). x * l) H-L ∙ sym (mul_assoc x 2 H) ∙ ap (λ (l : ℕ). l * H) (mul_comm x 2) ∙ mul_assoc 2 x H

    shift : (P N i j x y : ℕ) → P + j * H ≡ i * H + N → P + x * L + (j + 2 * y) * H ≡ N + y * L + (i + 2 * x) * H
    shift P N i j x y e = simp (add-mul, mul_assoc) (omega (arith, twice x, twice y))

-- ---- the second part
nought-1 : Val nought 0 0 1
nought-1 = record { sign = false; size = 0; has = (refl, refl); is = refl }

second-of : (b : Float) (t : Bool) (Y B : ℕ) → HasValue b t Y L → Whole (nearest_int b) t Y B → Y ≤ L → B * L ≤ Y + H
unfolding nearest_int
second-of b t Y B v k h = go (lt (abs b) half) refl _ k.val
  where
    none : (t : Bool) (B : ℕ) → Val nought (plus-of t B) (minus-of t B) 1 → B ≡ 0
    none false B w = let e = val-unique w nought-1 in omega arith
    none true B w = let e = val-unique w nought-1 in omega arith

    one_of : (B : ℕ) → H ≤ Y → B * L ≤ Y + L → 8 * (B * L) ≤ 8 * Y + 5 * L → B * L ≤ Y + H
    one_of zero l m n = omega (arith, zero-mul L)
    one_of (suc zero) l m n = omega (arith, one-mul L, H-L)
    one_of (suc (suc B)) l m n =
        let e : suc (suc B) * L ≡ 2 * L + B * L = ap (λ (z : ℕ). z * L) (plus B) ∙ add-mul 2 B L in
        let w : ⊥ = omega (arith, L-pos) in absurd w
      where
        plus : (B : ℕ) → suc (suc B) ≡ 2 + B
        plus B = omega arith

    go : (u : Bool) → lt (abs b) half ≡ u → (r : Float) → Val (cond u nought r) (plus-of t B) (minus-of t B) 1 → B * L ≤ Y + H
    go true e r w = let z : B * L ≡ 0 = ap (λ (i : ℕ). i * L) (none t B w) ∙ zero-mul L in omega arith
    go false e r w =
        let l : H + 0 ≤ Y + 0 = lt_false L-pos (has-val (abs b) false Y L (abs-has b t Y L v)) half-L e in
        one_of B (omega arith) k.numbers.high (k.numbers.tight (omega (arith, L-pos)))

-- what is left of it is at most a half in size
second_size : (t : Bool) (Y B : ℕ) → Numbers Y B → B * L ≤ Y + H → (minus-of t Y + plus-of t B * L ≤ plus-of t Y + minus-of t B * L + H)
    × (plus-of t Y + minus-of t B * L ≤ minus-of t Y + plus-of t B * L + H)
second_size false Y B k h = (omega (arith, zero-mul L), omega (arith, k.low, zero-mul L))
second_size true Y B k h = (omega (arith, k.low, zero-mul L), omega (arith, zero-mul L))

-- ---- the sizes of accepted parts
few-of : (X A : ℕ) → A * L ≤ X + L → X < 2 ^ 50 * L → A < 2 ^ 63
few-of X A k h = lt_of_mul-lt-mul_right L (omega arith)

under : (X Y k : ℕ) → Y ≤ L → X ≤ Y + k * E → k ≤ 8000000001 → X < 2 ^ 50 * L
under X Y k h l m = last X (mid X (k * E) E L E-L (omega arith) (mul-le-mul_right E m))
  where
    mid : (X i e l : ℕ) → l ≡ 8 * e → X ≤ l + i → i ≤ 8000000001 * e → X ≤ 1000000002 * l
    mid X i e l q k m = omega arith

    last : (X : ℕ) → X ≤ 1000000002 * L → X < 2 ^ 50 * L
    last X l = omega (arith, L-pos)

first-size : (s t : Bool) (X Y : ℕ) → Y ≤ L → SumInRange (plus-of s X + plus-of t Y) (minus-of s X + minus-of t Y) → X < 2 ^ 50 * L
first-size false false X Y h r = under X Y 8000000001 h (omega (arith, r.high)) (lit≤ tt)
first-size false true X Y h r = under X Y 8000000001 h (omega (arith, r.high)) (lit≤ tt)
first-size true false X Y h r = under X Y 548557 h (omega (arith, r.low)) (lit≤ tt)
first-size true true X Y h r = under X Y 548557 h (omega (arith, r.low)) (lit≤ tt)

-- ---- the day and the fraction
module _ (a b : Float) (w : WholeHalves a) (fb : T (fits binary64 b)) (sb : T (le (abs b) one)) (acc : accepted a b ≡ true) (p n q m : ℕ) (va : Val a p n L)
    (vb : Val b q m L) where
  days : (d : ℤ) (up more down pA mA pB mB : ℕ) → plus_z d + (mA + mB + 0 + (0 + down)) ≡ minus_z d + (pA + pB + up + (more + 0))
      → plus_z d * L + (mA + mB + down) * L ≡ minus_z d * L + ((pA + pB + up) * L + more * L)
  days d up more down pA mA pB mB e =
      sym (add-mul (plus_z d) (mA + mB + down) L) ∙ ap (λ (z : ℕ). z * L) (plain (plus_z d) (minus_z d) e) ∙ add-mul (minus_z d) (pA + pB + up + more) L
      ∙ ap (λ (z : ℕ). minus_z d * L + z) (add-mul (pA + pB + up) more L)
    where
      plain : (g h : ℕ) → g + (mA + mB + 0 + (0 + down)) ≡ h + (pA + pB + up + (more + 0)) → g + (mA + mB + down) ≡ h + (pA + pB + up + more)
      plain g h e = omega arith

  from : (s t : Bool) (X Y A B u : ℕ) → HasValue a s X L → HasValue b t Y L → Whole (nearest_int a) s X A → Whole (nearest_int b) t Y B → X < 2 ^ 50 * L → Y ≤ L
      → Val (joined_fractions (rest a) (rest b)).fraction u 0 L
      → Rounded (rest b) (rest a) (H + (plus-of s X + minus-of s A * L) + (plus-of t Y + minus-of t B * L))
      (minus-of s X + plus-of s A * L + (minus-of t Y + plus-of t B * L)) → Place a b (p + q) (n + m)
  unfolding day_number fraction_passed
  from s t X Y A B u hx hy wx wy kx ky vu o =
      let up = (sum_fractions (rest a) (rest b)).carry in
      let more = (joined_fractions (rest a) (rest b)).carry in
      let down = (joined_fractions (rest a) (rest b)).borrow in
      let ea = val-unique (has-val a s X L hx) va in
      let eb = val-unique (has-val b t Y L hy) vb in
      let fa = few-of X A wx.numbers.high kx in
      let fb = few-of Y B wy.numbers.high (omega (arith, L-pos)) in
      let i = sums (plus-of s A) (minus-of s A) (plus-of t B) (minus-of t B) _ _ _ _ (plain-plus s A _ fa wx.plus) (plain-minus s A _ fa wx.minus)
      (plain-plus t B _ fb wy.plus) (plain-minus t B _ fb wy.minus) _ _ up more down (total-is (nearest_int a) (nearest_int b) up more down).is in
      let d = days (total (nearest_int a) (nearest_int b) up more down) up more down (plus-of s A) (minus-of s A) (plus-of t B) (minus-of t B) i in
      let e1 = add-mul (minus-of s A + minus-of t B) down L ∙ ap (λ (z : ℕ). z + down * L) (add-mul (minus-of s A) (minus-of t B) L) in
      let e2 = add-mul (plus-of s A + plus-of t B) up L ∙ ap (λ (z : ℕ). z + up * L) (add-mul (plus-of s A) (plus-of t B) L) in
      record {
        tp = plus-of s A + plus-of t B + up;
        tn = minus-of s A + minus-of t B + down;
        units = u;
        z = o.z;
        rounds = rounds-move o.rounds
            (both (plus-of s X) (minus-of s X) (plus-of t Y) (minus-of t Y) (plus-of s A * L) (minus-of s A * L) (plus-of t B * L) (minus-of t B * L) _ _
            (down * L) (up * L) ea eb e1 e2);
        low = low_of (plus-of s X) (minus-of s X) (plus-of t Y) (minus-of t Y) (plus-of s A * L) (minus-of s A * L) (plus-of t B * L) (minus-of t B * L) _ _
            (down * L) (up * L) ea eb e1 e2 o.low;
        high = high-of (plus-of s X) (minus-of s X) (plus-of t Y) (minus-of t Y) (plus-of s A * L) (minus-of s A * L) (plus-of t B * L) (minus-of t B * L) _ _
            (down * L) (up * L) ea eb e1 e2 o.high;
        zp = o.p;
        zn = o.n;
        z_val = o.val;
        val = vu;
        sum = sum_of _ _ _ _ (more * L) o.p o.n d (val-unique vu o.left);
      }
    where
      sums : (pA mA pB mB pA' mA' pB' mB' : ℕ) → pA' ≡ pA → mA' ≡ mA → pB' ≡ pB → mB' ≡ mB → (g h up more down : ℕ)
          → g + (mA' + mB' + 0 + (0 + down)) ≡ h + (pA' + pB' + up + (more + 0)) → g + (mA + mB + 0 + (0 + down)) ≡ h + (pA + pB + up + (more + 0))
      sums pA mA pB mB pA' mA' pB' mB' e1 e2 e3 e4 g h up more down e = omega arith

      both : (P N Q M x x' y y' f g k l : ℕ) → P + n ≡ p + N → Q + m ≡ q + M → f ≡ x' + y' + k → g ≡ x + y + l
          → H + (P + x') + (Q + y') + k + (n + m + g) ≡ p + q + H + f + (N + x + (M + y) + l)
      both P N Q M x x' y y' f g k l e1 e2 e3 e4 = omega arith

      low_of : (P N Q M x x' y y' f g k l : ℕ) → P + n ≡ p + N → Q + m ≡ q + M → f ≡ x' + y' + k → g ≡ x + y + l
          → N + x + (M + y) + l ≤ H + (P + x') + (Q + y') + k → n + m + g ≤ p + q + H + f
      low_of P N Q M x x' y y' f g k l e1 e2 e3 e4 h = omega arith

      high-of : (P N Q M x x' y y' f g k l : ℕ) → P + n ≡ p + N → Q + m ≡ q + M → f ≡ x' + y' + k → g ≡ x + y + l
          → H + (P + x') + (Q + y') + k ≤ N + x + (M + y) + l + L → p + q + H + f ≤ n + m + g + L
      high-of P N Q M x x' y y' f g k l e1 e2 e3 e4 h = omega arith

      sum_of : (g h f k j x y : ℕ) → g + f ≡ h + (k + j) → u + (y + j) ≡ x + 0 → g + u + (y + f) ≡ h + (x + k)
      sum_of g h f k j x y e1 e2 = omega arith

  pub place : Place a b (p + q) (n + m)
  place = go (accepted-pair a b w.held fb acc)
    where
      go : AcceptedSum a b → Place a b (p + q) (n + m)
      go o =
          let k = o.near in
          let ky = small k.Y (le_says L-pos (has-val (abs b) false k.Y L (abs-has b k.t k.Y L k.vy)) one-L sb) in
          let r = exact-sum a b _ _ _ _ (has-val a k.s k.X L k.vx) (has-val b k.t k.Y L k.vy) (accepted-lo a b acc) (accepted-hi a b acc) in
          let kx = first-size k.s k.t k.X k.Y ky r in
          let g = second_size k.t k.Y k.B k.wy.numbers (second-of b k.t k.Y k.B k.vy k.wy ky) in
          from k.s k.t k.X k.Y k.A k.B o.units k.vx k.vy k.wx k.wy kx ky o.val
          (rounded (rest b) _ _ (rest-fits b) (left-off b k.t k.Y k.B k.vy k.wy (wide k.Y ky)) g.0 g.1 (rest a) _ _ (rest-fits a)
          (left-off a k.s k.X k.A k.vx k.wx kx) (first_of a w k.s k.X k.A k.vx k.wx kx))
        where
          small : (Y : ℕ) → Y + 0 ≤ L + 0 → Y ≤ L
          small Y h = omega arith

          wide : (Y : ℕ) → Y ≤ L → Y < 2 ^ 50 * L
          wide Y h = omega (arith, L-pos)
