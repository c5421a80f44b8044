-- The range test: it passes only where both parts are finite and their exact sum is from -68569.5 - 1/8 to 1e9 + 1/8, and always where that sum is from
-- -68569.5 to 1e9. Assumes nothing.
use mathlib.Core.Path.{◌≡◌, refl, sym, ap, ◌∙◌, subst}
use mathlib.Core.Bool.{Bool, true, false, not, cond, ◌&&◌, beq}
use Prim.Native.Nat.{ℕ, suc, ◌+◌, ◌*◌, ◌^◌, ◌≤◌, ◌<◌}
use native.Mathlib.Nat.{le_of_eq, lt_of_le_of_lt}
use native.Mathlib.Omega.{arith}
use lib.Dec.{T, ltb, leb, ltb→lt, leb→le, nleb→lt, lit<}
use lib.Ieee.{Float, nan, inf, fin, binary64, prec, low, add, lt, le, eq, of_bits, round, units, odd}
use lib.Ieee.Bits.{is_true}
use lib.Ieee.Fits.{and_l, and_r, round_is}
use lib.Ieee.Exact.{HasValue}
use lib.Ieee.Order.{drop, kept}
use lib.Ieee.Scale.{finite, overflow}
use Rattle.rounding.specs.Value.{Val, Rounds, L}
use Rattle.rounding.proofs.Value.{L-pos, add_rounds}
use Rattle.rounding.proofs.Signed.{plus-of, minus-of, signed_of, dist, dist_zero}
use Rattle.rounding.proofs.Own.{Rep, rep_flip}
use Rattle.rounding.proofs.Optimal.{step}
use Rattle.rounding.proofs.Relative.{grid_step, step-has}
use Rattle.rounding.proofs.Nearest.{RN, rn_le, rn_ge}
use Rattle.rounding.proofs.TwoSumFloat.{At, rounds-at}
use Rattle.rounding.proofs.Compare.{le_true, le_show}
use Rattle.julian.specs.day_number.DayNumber.{c_djmin, c_djmax, in_julian_range, accepted}
use Rattle.julian.proofs.day_number.Units.{E, E-L, E_pos, min_L, max_L}

-- ---- finite
in_range : (z : Float) → T (le c_djmin z) → T (le z c_djmax) → T (finite z)
unfolding le lt eq of_bits
in_range nan a b = absurd a
in_range (inf true) a b = absurd a
in_range (inf false) a b = absurd b
in_range (fin s m e) a b = tt

sum-finite : (x y : Float) → T (finite (add binary64 x y)) → T (finite x) × T (finite y)
unfolding add
sum-finite nan y t = absurd t
sum-finite (inf s) nan t = absurd t
sum-finite (inf s) (inf u) t = absurd (go (beq s u) t)
  where
    go : (b : Bool) → T (finite (cond b (inf s) nan)) → ⊥
    go true t = t
    go false t = t
sum-finite (inf s) (fin u n d) t = absurd t
sum-finite (fin s m e) nan t = absurd t
sum-finite (fin s m e) (inf u) t = absurd t
sum-finite (fin s m e) (fin u n d) t = (tt, tt)

units_under : (s : Bool) (q k : ℕ) → T (finite (units binary64 s q k)) → q * 2 ^ k < overflow binary64
unfolding units
units_under s q k = go (ltb (q * 2 ^ k) (overflow binary64)) (ltb→lt (q * 2 ^ k) (overflow binary64))
  where
    go : (b : Bool) → (T b → q * 2 ^ k < overflow binary64) → T (finite (cond b (odd (suc (prec binary64)) s q k (low binary64)) (inf s)))
        → q * 2 ^ k < overflow binary64
    go true h t = h tt
    go false h t = absurd t

pub round_under : (s : Bool) (a : ℕ) → T (finite (round binary64 s a L)) → step a < 2 ^ 2098
round_under s a t = lt_of_le_of_lt (le_of_eq (sym (grid_step a)))
    (units_under s (kept 53 (a * 2 ^ 1074) L) (drop 53 (a * 2 ^ 1074) L) (subst (λ (z : Float). T (finite z)) (round_is binary64 s a L) t))

-- ---- a finite sum, rounded
record Sum (z : Float) (P N : ℕ) : Type 0 where
  p : ℕ
  n : ℕ
  val : Val z p n L
  rn : RN P N p n

sum_of : {z : Float} {P N : ℕ} → T (finite z) → Rounds binary64 z P N L → Sum z P N
sum_of {z} {P} {N} t r =
    let s = r.sign in
    let a = r.size in
    let h : HasValue z s (step a) L =
    subst (λ (v : Float). HasValue v s (step a) L) (sym r.eq) (step-has s a (round_under s a (subst (λ (v : Float). T (finite v)) r.eq t))) in
    record {
      p = plus-of s (step a);
      n = minus-of s (step a);
      val = record { sign = s; size = step a; has = h; is = signed_of s (step a) };
      rn = record { sign = s; size = a; is = r.is; to = signed_of s (step a) };
    }

-- the bounds, in eighths
rep_eighths : (c : ℕ) → c < 2 ^ 53 → Rep (c * E)
unfolding E
rep_eighths c h = record { q = c; j = 1071; is = refl; small = h }

eighths_up : (c : ℕ) → c < 2 ^ 53 → Rep (dist (c * E) 0)
eighths_up c h = subst Rep (sym (dist_zero (c * E))) (rep_eighths c h)

eighths_down : (c : ℕ) → c < 2 ^ 53 → Rep (dist 0 (c * E))
eighths_down c h = rep_flip (c * E) 0 (eighths_up c h)

-- the exact sum of the parts
pub record SumInRange (P N : ℕ) : Type 0 where
  pub high : P < N + 8000000001 * E
  pub low : N < P + 548557 * E

module _ (x y : Float) (p n q m : ℕ) (vx : Val x p n L) (vy : Val y q m L) (lo : T (le c_djmin (add binary64 x y)))
    (hi : T (le (add binary64 x y) c_djmax)) where
  s : Sum (add binary64 x y) (p + q) (n + m)
  s = sum_of (in_range (add binary64 x y) lo hi) (add_rounds binary64 L-pos vx vy)

  pub exact-sum : SumInRange (p + q) (n + m)
  exact-sum =
      let u : s.p + 0 ≤ 8000000000 * E + s.n = le_true L-pos s.val max_L (is_true (le (add binary64 x y) c_djmax) hi) in
      let l : 0 + s.n ≤ s.p + 548556 * E = le_true L-pos min_L s.val (is_true (le c_djmin (add binary64 x y)) lo) in
      record {
        high = top (leb (8000000001 * E + (n + m)) (p + q)) (leb→le (8000000001 * E + (n + m)) (p + q)) (nleb→lt (8000000001 * E + (n + m)) (p + q)) s.p
            s.n s.rn u;
        low = bottom (leb (p + q + 548557 * E) (n + m)) (leb→le (p + q + 548557 * E) (n + m)) (nleb→lt (p + q + 548557 * E) (n + m)) s.p s.n s.rn l;
      }
    where
      top : (b : Bool) → (T b → 8000000001 * E + (n + m) ≤ p + q) → (T (not b) → p + q < 8000000001 * E + (n + m)) → (a c : ℕ) → RN (p + q) (n + m) a c
          → a + 0 ≤ 8000000000 * E + c → p + q < n + m + 8000000001 * E
      top true f g a c r u =
          let w : 8000000001 * E + c ≤ a + 0 = rn_ge (8000000001 * E) 0 (eighths_up 8000000001 (lit< tt)) r (plain (f tt)) in
          let z : ⊥ = omega (arith, E_pos) in absurd z
        where
          plain : 8000000001 * E + (n + m) ≤ p + q → 8000000001 * E + (n + m) ≤ p + q + 0
          plain h = omega arith
      top false f g a c r u = omega (arith, g tt)

      bottom : (b : Bool) → (T b → p + q + 548557 * E ≤ n + m) → (T (not b) → n + m < p + q + 548557 * E) → (a c : ℕ) → RN (p + q) (n + m) a c
          → 0 + c ≤ a + 548556 * E → n + m < p + q + 548557 * E
      bottom true f g a c r u =
          let w : a + 548557 * E ≤ 0 + c = rn_le 0 (548557 * E) (eighths_down 548557 (lit< tt)) r (plain (f tt)) in
          let z : ⊥ = omega (arith, E_pos) in absurd z
        where
          plain : p + q + 548557 * E ≤ n + m → p + q + 548557 * E ≤ 0 + (n + m)
          plain h = omega arith
      bottom false f g a c r u = g tt

-- ---- from the test
pub accepted-lo : (x y : Float) → accepted x y ≡ true → T (le c_djmin (add binary64 x y))
unfolding accepted in_julian_range
accepted-lo x y e = and_l (le c_djmin (add binary64 x y)) (le (add binary64 x y) c_djmax) (subst T (sym e) tt)

pub accepted-hi : (x y : Float) → accepted x y ≡ true → T (le (add binary64 x y) c_djmax)
unfolding accepted in_julian_range
accepted-hi x y e = and_r (le c_djmin (add binary64 x y)) (le (add binary64 x y) c_djmax) (subst T (sym e) tt)

pub accepted-finite : (x y : Float) → accepted x y ≡ true → T (finite x) × T (finite y)
accepted-finite x y e = sum-finite x y (in_range (add binary64 x y) (accepted-lo x y e) (accepted-hi x y e))

-- ---- and back: an exact sum from -68569.5 to 1e9, of parts that are not too large, is accepted
pub far : 2 * (2 ^ 64 * L) < 2 ^ 2098
unfolding L
far = lit< tt

module _ (x y : Float) (p n q m : ℕ) (vx : Val x p n L) (vy : Val y q m L) (h1 : p + q ≤ n + m + 8000000000 * E) (h2 : n + m ≤ p + q + 548556 * E) where
  rounded : At (add binary64 x y) (p + q) (n + m) (2 ^ 64 * L)
  rounded = rounds-at far (omega (arith, E-L)) (omega (arith, E-L)) (add_rounds binary64 L-pos vx vy)

  pub accepts : accepted x y ≡ true
  unfolding accepted in_julian_range
  accepts =
      let u : rounded.p + 0 ≤ 8000000000 * E + rounded.n = rn_le (8000000000 * E) 0 (eighths_up 8000000000 (lit< tt)) rounded.rn (omega arith) in
      let l : 0 + rounded.n ≤ rounded.p + 548556 * E = rn_ge 0 (548556 * E) (eighths_down 548556 (lit< tt)) rounded.rn (omega arith) in
      ap (λ (b : Bool). b && le (add binary64 x y) c_djmax) (is_true (le c_djmin (add binary64 x y)) (le_show L-pos min_L rounded.val l))
      ∙ is_true (le (add binary64 x y) c_djmax) (le_show L-pos rounded.val max_L u)
