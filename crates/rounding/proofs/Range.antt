-- From a test on a float to bounds on its value: -2 ^ k < x < 2 ^ k (`between`), |x| ≤ c and |x| < c for a float c (`size-at-most`, `below`). Each shows that x
-- is finite, so that no NaN and no infinity passes. Assumes nothing.
use mathlib.Core.Path.{◌≡◌, refl}
use Prim.Native.Nat.{ℕ, ◌+◌, ◌*◌, ◌^◌, ◌≤◌, ◌<◌}
use native.Mathlib.Nat.{mul-one, one-mul}
use native.Mathlib.Omega.{arith}
use mathlib.Core.Bool.{Bool, true, false}
use lib.IntN.{pos}
use lib.Dec.{T}
use lib.Ieee.{Float, nan, inf, fin, binary64, lt, le, fits}
use lib.Ieee.Exact.{HasValue}
use lib.Ieee.Scale.{finite}
use Rattle.floats.specs.Whole.{abs}
use Rattle.rounding.specs.Value.{Val, L}
use Rattle.rounding.proofs.Value.{L-pos, abs-val}
use Rattle.rounding.proofs.Signed.{dist, dist_up}
use Rattle.rounding.proofs.Own.{Own, own, own_val, plus-of, minus-of}
use Rattle.rounding.proofs.Compare.{lt_says, le_says}
use Rattle.rounding.proofs.Bound.{SizeWithin}

-- ±2 ^ k, in units of 1 / D
pub power-val : (k D : ℕ) → Val (fin false 1 (pos k)) (2 ^ k * D) 0 D
power-val k D = record { sign = false; size = 2 ^ k * D; has = (refl, trans k D); is = omega arith }
  where
    trans : (k D : ℕ) → 1 * 2 ^ k * D ≡ 2 ^ k * D * 1
    trans k D = simp (one-mul, mul-one)

pub minus-power-val : (k D : ℕ) → Val (fin true 1 (pos k)) 0 (2 ^ k * D) D
minus-power-val k D = record { sign = true; size = 2 ^ k * D; has = (refl, simp (one-mul, mul-one)); is = omega arith }

between-finite : (x : Float) (k : ℕ) → T (lt (fin true 1 (pos k)) x) → T (lt x (fin false 1 (pos k))) → T (finite x)
unfolding lt
between-finite nan k a b = absurd a
between-finite (inf true) k a b = absurd a
between-finite (inf false) k a b = absurd b
between-finite (fin s m e) k a b = tt

-- x is finite, and -2 ^ k < x < 2 ^ k
pub record Between (x : Float) (k : ℕ) : Type 0 where
  pub p : ℕ
  pub n : ℕ
  pub val : Val x p n L
  pub high : p < n + 2 ^ k * L
  pub low : n < p + 2 ^ k * L

-- by the two tests
pub between : (x : Float) (k : ℕ) → T (fits binary64 x) → T (lt (fin true 1 (pos k)) x) → T (lt x (fin false 1 (pos k))) → Between x k
between x k f a b = go (plus-of o.sign o.size) (minus-of o.sign o.size) (own_val x o)
  where
    o : Own x
    o = own x f (between-finite x k a b)

    go : (p n : ℕ) → Val x p n L → Between x k
    go p n v =
        let h : p + 0 < 2 ^ k * L + n = lt_says L-pos v (power-val k L) b in
        let l : 0 + n < p + 2 ^ k * L = lt_says L-pos (minus-power-val k L) v a in
        record { p = p; n = n; val = v; high = omega arith; low = omega arith }

-- ---- |x| ≤ c and |x| < c, for a float c = W / L
pub le_finite : (x c : Float) (s : Bool) (a : ℕ) → HasValue c s a L → T (le (abs x) c) → T (finite x)
unfolding abs le
le_finite nan c s a v h = absurd h
le_finite (inf t) nan s a v h = absurd v
le_finite (inf t) (inf u) s a v h = absurd v
le_finite (inf t) (fin u m e) s a v h = absurd h
le_finite (fin t m e) c s a v h = tt

lt_finite : (x c : Float) (s : Bool) (a : ℕ) → HasValue c s a L → T (lt (abs x) c) → T (finite x)
unfolding abs lt
lt_finite nan c s a v h = absurd h
lt_finite (inf t) nan s a v h = absurd v
lt_finite (inf t) (inf u) s a v h = absurd v
lt_finite (inf t) (fin u m e) s a v h = absurd h
lt_finite (fin t m e) c s a v h = tt

within-dist : {x : Float} {p n W : ℕ} → Val x p n L → dist p n ≤ W → SizeWithin x W
within-dist {x} {p} {n} {W} v h = record { p = p; n = n; val = v; high = wide p n (dist p n) (dist_up p n).0 h; low = wide n p (dist p n) (dist_up p n).1 h }
  where
    wide : (p n d : ℕ) → p ≤ n + d → d ≤ W → p ≤ n + W
    wide p n d e g = omega arith

pub size-at-most : {x c : Float} {W : ℕ} → T (fits binary64 x) → Val c W 0 L → T (le (abs x) c) → SizeWithin x W
size-at-most {x} {c} {W} f w h =
    let v = own_val x (own x f (le_finite x c w.sign w.size w.has h)) in within-dist v (plain _ W (le_says L-pos (abs-val v) w h))
  where
    plain : (d W : ℕ) → d + 0 ≤ W + 0 → d ≤ W
    plain d W e = omega arith

pub below : {x c : Float} {W : ℕ} → T (fits binary64 x) → Val c W 0 L → T (lt (abs x) c) → SizeWithin x W
below {x} {c} {W} f w h =
    let v = own_val x (own x f (lt_finite x c w.sign w.size w.has h)) in within-dist v (plain _ W (lt_says L-pos (abs-val v) w h))
  where
    plain : (d W : ℕ) → d + 0 < W + 0 → d ≤ W
    plain d W e = omega arith
