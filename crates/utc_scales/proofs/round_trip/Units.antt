-- The unit h, and one rounding law for every sum of less than two days: it is off by at most h. Assumes nothing.
use mathlib.Core.Path.{◌≡◌, refl, sym, ap, ◌∙◌, subst, subst₂}
use Prim.Native.Nat.{ℕ, suc, ◌+◌, ◌*◌, ◌^◌, ◌≤◌, ◌<◌}
use native.Mathlib.Nat.{add-mul, one-mul, zero-mul}
use native.Mathlib.Omega.{arith}
use lib.Dec.{lit≤, lit<}
use lib.Ieee.{Float, binary64, add}
use Rattle.rounding.specs.Value.{Val, L}
use Rattle.rounding.proofs.Value.{L-is, val-scale}
use Rattle.rounding.proofs.Near.{NearSum, add_near}
use Rattle.rounding.proofs.Chain.{ValClose, Adds}
use Rattle.utc_scales.specs.round_trip.UtcDays.{H}

-- 2 ^ -53 day, half a unit in the last place of a part between a day and two; shut, so that proofs do not compute it
unfoldable pub h : ℕ
h = 2 ^ 1021

pub L-H : L ≡ 2 * H
unfolding L H
L-H = refl

pub L-h : L ≡ 9007199254740992 * h
unfolding L h
L-h = refl

pub H-pos : 0 < H
unfolding H
H-pos = lit< tt

pub h_pos : 0 < h
unfolding h
h_pos = lit< tt

-- enough where a range is asked for
pub h_small : 1000000 * h ≤ L
h_small = omega (arith, L-h)

pub two-h : 2 ^ 1022 ≡ 2 * h
unfolding h
two-h = refl

pub two-L : 2 ^ (53 + 1022) ≡ 2 * L
two-L = sym (ap (λ (z : ℕ). 2 * z) L-is)

-- the start of the next day
pub next_midnight : (n : ℕ) → suc n * L ≡ L + n * L
next_midnight n = ap (λ (z : ℕ). z * L) (more n) ∙ add-mul 1 n L ∙ ap (λ (z : ℕ). z + n * L) (one-mul L)
  where
    more : (n : ℕ) → suc n ≡ 1 + n
    more n = omega arith

-- a value in units of which d are a day, k of 1 / L each
pub in_units : {x : Float} (m d k : ℕ) → L ≡ d * k → Val x m 0 d → Val x (m * k) 0 L
in_units {x} m d k e v = subst₂ (λ (n d : ℕ). Val x (m * k) n d) (zero-mul k) (sym e) (val-scale k v)

-- a sum of less than two days
pub adds : Adds L h
adds x y p n q m k l v w =
    let s : NearSum (add binary64 x y) (p + q) (n + m) 1022 =
    add_near 1022 (lit≤ tt) (subst (λ (z : ℕ). p + q < n + m + z) (sym two-L) k) (subst (λ (z : ℕ). n + m < p + q + z) (sym two-L) l) v w in
    record {
      p = s.p;
      n = s.n;
      val = s.val;
      over = half (s.p + (n + m)) (s.n + (p + q)) (2 ^ 1022) two-h s.over;
      under =
          half (s.n + (p + q)) (s.p + (n + m)) (2 ^ 1022) two-h s.under;
    }
  where
    half : (x y w : ℕ) → w ≡ 2 * h → 2 * x ≤ 2 * y + w → x ≤ y + h
    half x y w e k = omega arith

pub add_close : {x y : Float} {p n q m : ℕ} → p + q < n + m + 2 * L → n + m < p + q + 2 * L → Val x p n L → Val y q m L
    → ValClose L (add binary64 x y) (p + q) (n + m) h
add_close {x} {y} {p} {n} {q} {m} k l v w = adds x y p n q m k l v w
