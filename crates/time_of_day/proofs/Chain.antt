-- The float chain of `millis_of`, before it is rounded to a whole number: 1000 * (86400 * (f + f * l / 86400)), in units of 2 ^ -1074, for f = F / L below 1
-- and
-- l = (B - C) / E at most 1 in size. It is within 305445864 * 2 ^ -53 of the exact product. U is 2 ^ -53 in units: every step's error is a multiple of it.
-- Assumes nothing.
use mathlib.Core.Path.{◌≡◌, refl, sym, subst, subst₂}
use Prim.Native.Nat.{ℕ, ◌+◌, ◌*◌, ◌^◌, ◌≤◌, ◌<◌}
use native.Mathlib.Nat.{le_trans, le_of_eq, le_of_lt, mul_comm, mul-one, zero-mul, mul-add, mul-le-mul_left, mul-le-mul_right}
use native.Mathlib.Omega.{arith}
use mathlib.Core.Bool.{false}
use lib.Dec.{lit≤, lit<}
use lib.Pow.{pow_pos}
use lib.Ieee.{Float, binary64, of_bits, add, mul, div}
use Rattle.rounding.specs.Value.{Val, Rounds, L}
use Rattle.rounding.proofs.Value.{mul_rounds, rounds-move, L-pos}
use Rattle.rounding.proofs.Near.{NearSum, add_near}
use Rattle.rounding.proofs.Scaled.{Scaled, scaled_near, div_near}
use Rattle.time_of_day.specs.Milliseconds.{fraction_seconds, thousand_f, day_f}
use Rattle.time_of_day.proofs.ChainNumbers.{in_one, size-one, in_two, size-two, in_three, in_three', size-three, size-three', in_four, size-four}
use Rattle.time_of_day.proofs.ChainNumbers.{in_five, gather, gather', finish, finish'}

-- shut, as L is: `omega` takes it for an unknown
unfoldable pub U : ℕ
U = 2 ^ 1021

pub L-is-U : L ≡ 9007199254740992 * U
unfolding L U
L-is-U = refl

pub U_pos : 0 < U
unfolding U
U_pos = pow_pos 1021

u22 : 2 ^ 1022 ≡ 2 * U
unfolding U
u22 = refl

u38 : 2 ^ 1038 ≡ 131072 * U
unfolding U
u38 = refl

u48 : 2 ^ 1048 ≡ 134217728 * U
unfolding U
u48 = refl

l75 : 2 ^ 1075 ≡ 2 * L
unfolding L
l75 = refl

l91 : 2 ^ 1091 ≡ 131072 * L
unfolding L
l91 = refl

l101 : 2 ^ 1101 ≡ 134217728 * L
unfolding L
l101 = refl

day-val : Val day_f 86400 0 1
unfolding of_bits
day-val = record { sign = false; size = 86400; has = (refl, refl); is = refl }

thousand_val : Val thousand_f 1000 0 1
unfolding of_bits
thousand_val = record { sign = false; size = 1000; has = (refl, refl); is = refl }

-- a whole constant, on the left, times a value
module _ (j : ℕ) {x y : Float} {P N B : ℕ} where
  times_near : j ≤ 2044 → P * B < N * B + 2 ^ (53 + j) * 1 → N * B < P * B + 2 ^ (53 + j) * 1 → Val y B 0 1 → Val x P N L → Scaled (mul binary64 y x) P N B 1 j
  times_near b u l w v = scaled_near j (lit< tt) b u l
      (rounds-move (subst (λ (d : ℕ). Rounds binary64 (mul binary64 y x) (B * P + 0 * N) (B * N + 0 * P) d) (mul_comm 1 L)
      (mul_rounds binary64 (lit< tt) L-pos w v)) (omega arith))

-- a fraction F / L times (B - C) / E
module _ (j : ℕ) {x y : Float} {F B C E : ℕ} where
  signed-near : j ≤ 2044 → 0 < E → F * B < F * C + 2 ^ (53 + j) * E → F * C < F * B + 2 ^ (53 + j) * E → Val x F 0 L → Val y B C E
      → Scaled (mul binary64 x y) (F * B) (F * C) 1 E j
  signed-near b G u l v w = scaled_near j G b
      (subst₂ (λ (s t : ℕ). s < t + 2 ^ (53 + j) * E) (sym (mul-one (F * B))) (sym (mul-one (F * C))) u)
      (subst₂ (λ (s t : ℕ). s < t + 2 ^ (53 + j) * E) (sym (mul-one (F * C))) (sym (mul-one (F * B))) l)
      (rounds-move (mul_rounds binary64 L-pos G v w) (go (F * B) (F * C) (0 * B) (0 * C) (zero-mul B) (zero-mul C)))
    where
      go : (b c zb zc : ℕ) → zb ≡ 0 → zc ≡ 0 → b + zc + c * 1 ≡ b * 1 + (c + zb)
      go b c zb zc e f = omega arith

-- m = (p - n) / L, and E * m is within 305445864 * E * U units of 86400000 * E * F + 1000 * F * (B - C)
pub record Chained (m : Float) (F B C E : ℕ) : Type 0 where
  pub p : ℕ
  pub n : ℕ
  pub val : Val m p n L
  pub over : E * p + 1000 * (F * C) ≤ E * n + 86400000 * (E * F) + 1000 * (F * B) + 305445864 * (E * U)
  pub under : E * n + 86400000 * (E * F) + 1000 * (F * B) ≤ E * p + 1000 * (F * C) + 305445864 * (E * U)

pub u-small : 1000000000 * U ≤ L
u-small = le_trans (go U) (le_of_eq (sym L-is-U))
  where
    go : (u : ℕ) → 1000000000 * u ≤ 9007199254740992 * u
    go u = omega arith

u-le : U ≤ L
u-le = go U L u-small
  where
    go : (u l : ℕ) → 1000000000 * u ≤ l → u ≤ l
    go u l h = omega arith

-- F times the leap is at most E * L in size
pub leap-part : (F B C E : ℕ) → F < L → B ≤ C + E → F * B ≤ F * C + L * E
leap-part F B C E h k = le_trans (mul-le-mul_left F k) (le_trans (le_of_eq (mul-add F C E)) (go (F * C) (F * E) (L * E) (mul-le-mul_right E (le_of_lt h))))
  where
    go : (c f l : ℕ) → f ≤ l → c + f ≤ c + l
    go c f l g = omega arith

module _ (F B C E : ℕ) (f l : Float) (vf : Val f F 0 L) (vl : Val l B C E) (G : 0 < E) (hf : F < L) (hb : B ≤ C + E) (hc : C ≤ B + E) where
  fb : F * B ≤ F * C + L * E
  fb = leap-part F B C E hf hb

  fc : F * C ≤ F * B + L * E
  fc = leap-part F C B E hf hc

  x1 : Scaled (mul binary64 f l) (F * B) (F * C) 1 E 1022
  x1 = signed-near 1022 (lit≤ tt) G (in_one (F * B) (F * C) E L (2 ^ 1075) l75 L-pos G fb) (in_one (F * C) (F * B) E L (2 ^ 1075) l75 L-pos G fc) vf vl

  s1 : x1.p ≤ x1.n + L + U
  s1 = size-one (F * B) (F * C) E L U x1.p x1.n (2 ^ 1022) G u22 fb x1.over

  t1 : x1.n ≤ x1.p + L + U
  t1 = size-one (F * C) (F * B) E L U x1.n x1.p (2 ^ 1022) G u22 fc x1.under

  x2 : Scaled (div binary64 (mul binary64 f l) day_f) x1.p x1.n 1 86400 1022
  x2 = div_near 1022 86400 (lit< tt) (lit≤ tt) (in_two x1.p x1.n L U (2 ^ 1075) l75 L-pos u-le s1)
      (in_two x1.n x1.p L U (2 ^ 1075) l75 L-pos u-le t1) x1.val day-val

  s2 : 86400 * x2.p ≤ 86400 * x2.n + L + 86401 * U
  s2 = size-two x1.p x1.n L U x2.p x2.n (2 ^ 1022) u22 s1 x2.over

  t2 : 86400 * x2.n ≤ 86400 * x2.p + L + 86401 * U
  t2 = size-two x1.n x1.p L U x2.n x2.p (2 ^ 1022) u22 t1 x2.under

  x3 : NearSum (add binary64 f (div binary64 (mul binary64 f l) day_f)) (F + x2.p) (0 + x2.n) 1022
  x3 = add_near 1022 (lit≤ tt) (in_three F x2.p x2.n L U (2 ^ 1075) l75 hf u-small s2) (in_three' F x2.p x2.n L U (2 ^ 1075) l75 hf u-small t2) vf
      x2.val

  s3 : 86400 * x3.p ≤ 86400 * x3.n + 86401 * L + 172801 * U
  s3 = size-three F x2.p x2.n x3.p x3.n L U (2 ^ 1022) u22 hf s2 x3.over

  t3 : 86400 * x3.n ≤ 86400 * x3.p + 86401 * L + 172801 * U
  t3 = size-three' F x2.p x2.n x3.p x3.n L U (2 ^ 1022) u22 t2 x3.under

  x4 : Scaled (fraction_seconds f l) x3.p x3.n 86400 1 1038
  unfolding fraction_seconds
  x4 = times_near 1038 (lit≤ tt) (in_four x3.p x3.n L U (2 ^ 1091) l91 L-pos u-small s3) (in_four x3.n x3.p L U (2 ^ 1091) l91 L-pos u-small t3)
      day-val x3.val

  s4 : x4.p ≤ x4.n + 86401 * L + 238337 * U
  s4 = size-four x3.p x3.n x4.p x4.n L U (2 ^ 1038) u38 s3 x4.over

  t4 : x4.n ≤ x4.p + 86401 * L + 238337 * U
  t4 = size-four x3.n x3.p x4.n x4.p L U (2 ^ 1038) u38 t3 x4.under

  x5 : Scaled (mul binary64 thousand_f (fraction_seconds f l)) x4.p x4.n 1000 1 1048
  x5 = times_near 1048 (lit≤ tt) (in_five x4.p x4.n L U (2 ^ 1101) l101 L-pos u-small s4) (in_five x4.n x4.p L U (2 ^ 1101) l101 L-pos u-small t4)
      thousand_val x4.val

  pub chained : Chained (mul binary64 thousand_f (fraction_seconds f l)) F B C E
  chained = record {
    p = x5.p;
    n = x5.n;
    val = x5.val;
    over = finish F (F * B) (F * C) E x1.p x1.n x5.p x5.n U (2 ^ 1022) u22 x1.over
        (gather F x1.p x1.n x2.p x2.n x3.p x3.n x4.p x4.n x5.p x5.n U (2 ^ 1022) (2 ^ 1038) (2 ^ 1048) u22 u38 u48 x2.over
        x3.over x4.over x5.over);
    under = finish' F (F * B) (F * C) E x1.p x1.n x5.p x5.n U (2 ^ 1022) u22 x1.under
        (gather' F x1.p x1.n x2.p x2.n x3.p x3.n x4.p x4.n x5.p x5.n U (2 ^ 1022) (2 ^ 1038) (2 ^ 1048) u22 u38 u48 x2.under
        x3.under x4.under x5.under);
  }
