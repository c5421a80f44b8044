-- The floats of one day that drifts, each near its decimal: TAI-UTC at 0h, 12h and 24h, the drift, the leap, the two factors, and TAI-UTC in days. Errors are
-- counted in femtoseconds, and values in units of 2 ^ -1074, of which L are 1. Assumes nothing.
use mathlib.Core.Path.{◌≡◌, refl, sym, subst}
use mathlib.Core.Bool.{false}
use Prim.Native.Nat.{ℕ, ◌+◌, ◌-◌, ◌*◌, ◌^◌, ◌≤◌, ◌<◌}
use native.Mathlib.Nat.{one-mul, zero-mul, add-mul, mul_assoc, mul-le-mul_right}
use native.Mathlib.Omega.{arith}
use lib.Dec.{lit≤, lit<}
use lib.Ieee.{Float, binary64, add, sub, mul, div}
use Rattle.constants.specs.Constants.{seconds_per_day}
use Rattle.rounding.specs.Value.{Val, Rounds, L}
use Rattle.rounding.proofs.Value.{L-pos, val-move, val-scale, add_rounds, sub_rounds, mul_rounds, rounds-move}
use Rattle.rounding.proofs.Near.{sum_near}
use Rattle.rounding.proofs.Scaled.{Scaled, div_near}
use Rattle.julian.proofs.laws.UnixTime.{day-val}
use Rattle.leap_table.specs.offsets.Leap.{two_f, offsets, drift_rate, leap_amount}

-- a day in femtoseconds
abbrev pub day_fs : ℕ
day_fs = 86400000000000000000

-- ---- x = (p - n) / L seconds is within e femtoseconds of (A - B) / L times 10^-10 s
pub record Sec (x : Float) (A B e : ℕ) : Type 0 where
  pub p : ℕ
  pub n : ℕ
  pub val : Val x p n L
  pub over : 1000000000000000 * p + 100000 * B ≤ 1000000000000000 * n + 100000 * A + e * L
  pub under : 1000000000000000 * n + 100000 * A ≤ 1000000000000000 * p + 100000 * B + e * L

-- a sum below 32 s is off by 2 ^ -49 s at most, one below 2 ^ 17 s by 2 ^ -37 s, and one below 2 by 2 ^ -53
pub record Near (k : ℕ) (z : Float) (P N : ℕ) : Type 0 where
  pub p : ℕ
  pub n : ℕ
  pub val : Val z p n L
  pub over : k * (p + N) ≤ k * (n + P) + L
  pub under : k * (n + P) ≤ k * (p + N) + L

size_32 : 2 ^ (53 + 1026) ≡ 32 * L
unfolding L
size_32 = refl

unit_32 : L ≡ 281474976710656 * 2 ^ 1026
unfolding L
unit_32 = refl

pub near-32 : {z : Float} {P N : ℕ} → P < N + 32 * L → N < P + 32 * L → Rounds binary64 z P N L → Near 562949953421312 z P N
near-32 {z} {P} {N} u l r =
    let k = sum_near 1026 (lit≤ tt) (subst (λ (i : ℕ). P < N + i) (sym size_32) u) (subst (λ (i : ℕ). N < P + i) (sym size_32) l) r in
    record {
      p = k.p;
      n = k.n;
      val = k.val;
      over = go (k.p + N) (k.n + P) (2 ^ 1026) unit_32 k.over;
      under =
          go (k.n + P) (k.p + N) (2 ^ 1026) unit_32 k.under;
    }
  where
    go : (a b w : ℕ) → L ≡ 281474976710656 * w → 2 * a ≤ 2 * b + w → 562949953421312 * a ≤ 562949953421312 * b + L
    go a b w e h = omega arith

size-day : 2 ^ (53 + 1038) ≡ 131072 * L
unfolding L
size-day = refl

unit_day : L ≡ 68719476736 * 2 ^ 1038
unfolding L
unit_day = refl

pub near-day : {z : Float} {P N : ℕ} → P < N + 131072 * L → N < P + 131072 * L → Rounds binary64 z P N L → Near 137438953472 z P N
near-day {z} {P} {N} u l r =
    let k = sum_near 1038 (lit≤ tt) (subst (λ (i : ℕ). P < N + i) (sym size-day) u) (subst (λ (i : ℕ). N < P + i) (sym size-day) l) r in
    record {
      p = k.p;
      n = k.n;
      val = k.val;
      over = go (k.p + N) (k.n + P) (2 ^ 1038) unit_day k.over;
      under =
          go (k.n + P) (k.p + N) (2 ^ 1038) unit_day k.under;
    }
  where
    go : (a b w : ℕ) → L ≡ 68719476736 * w → 2 * a ≤ 2 * b + w → 137438953472 * a ≤ 137438953472 * b + L
    go a b w e h = omega arith

pub size-2 : 2 ^ (53 + 1022) ≡ 2 * L
unfolding L
size-2 = refl

-- 2 ^ -52 of L; shut, since `omega` takes no number so large
unfoldable pub w : ℕ
w = 2 ^ 1022

pub w-is : 2 ^ 1022 ≡ w
unfolding w
w-is = refl

pub unit_2 : L ≡ 4503599627370496 * w
unfolding L w
unit_2 = refl

pub near-2 : {z : Float} {P N : ℕ} → P < N + 2 * L → N < P + 2 * L → Rounds binary64 z P N L → Near 9007199254740992 z P N
near-2 {z} {P} {N} u l r =
    let k = sum_near 1022 (lit≤ tt) (subst (λ (i : ℕ). P < N + i) (sym size-2) u) (subst (λ (i : ℕ). N < P + i) (sym size-2) l) r in
    record {
      p = k.p;
      n = k.n;
      val = k.val;
      over =
          go (k.p + N) (k.n + P) w unit_2 (subst (λ (i : ℕ). 2 * (k.p + N) ≤ 2 * (k.n + P) + i) w-is k.over);
      under =
          go (k.n + P) (k.p + N) w unit_2 (subst (λ (i : ℕ). 2 * (k.n + P) ≤ 2 * (k.p + N) + i) w-is k.under);
    }
  where
    go : (a b w : ℕ) → L ≡ 4503599627370496 * w → 2 * a ≤ 2 * b + w → 9007199254740992 * a ≤ 9007199254740992 * b + L
    go a b w e h = omega arith

-- ---- sums and differences of seconds
weigh : (p n p1 n1 p2 n2 A B A' B' e e' : ℕ) → 562949953421312 * (p + (n1 + n2)) ≤ 562949953421312 * (n + (p1 + p2)) + L
    → 1000000000000000 * p1 + 100000 * B ≤ 1000000000000000 * n1 + 100000 * A + e * L
    → 1000000000000000 * p2 + 100000 * B' ≤ 1000000000000000 * n2 + 100000 * A' + e' * L
    → 1000000000000000 * p + 100000 * (B + B') ≤ 1000000000000000 * n + 100000 * (A + A') + (e + e' + 2) * L
weigh p n p1 n1 p2 n2 A B A' B' e e' h k l = simp add-mul (omega arith)

module _ {x y : Float} {A B A' B' e e' : ℕ} (a : Sec x A B e) (b : Sec y A' B' e') where
  pub sec_add : a.p + b.p < a.n + b.n + 32 * L → a.n + b.n < a.p + b.p + 32 * L → Sec (add binary64 x y) (A + A') (B + B') (e + e' + 2)
  sec_add u l =
      let k = near-32 u l (add_rounds binary64 L-pos a.val b.val) in
      record {
        p = k.p;
        n = k.n;
        val = k.val;
        over = weigh k.p k.n a.p a.n b.p b.n A B A' B' e e' k.over a.over b.over;
        under = weigh k.n k.p a.n a.p b.n b.p B A B' A' e e' k.under a.under b.under;
      }

  pub sec_sub : a.p + b.n < a.n + b.p + 32 * L → a.n + b.p < a.p + b.n + 32 * L → Sec (sub binary64 x y) (A + B') (B + A') (e + e' + 2)
  sec_sub u l =
      let k = near-32 u l (sub_rounds binary64 L-pos a.val b.val) in
      record {
        p = k.p;
        n = k.n;
        val = k.val;
        over = weigh k.p k.n a.p a.n b.n b.p A B B' A' e e' k.over a.over b.under;
        under = weigh k.n k.p a.n a.p b.p b.n B A A' B' e e' k.under a.under b.over;
      }

-- twice
two-val : Val two_f 2 0 1
two-val = record { sign = false; size = 2; has = (refl, refl); is = refl }

pub sec_twice : {x : Float} {A B e : ℕ} (a : Sec x A B e) → a.p ≤ a.n + 15 * L → a.n ≤ a.p + 15 * L → Sec (mul binary64 two_f x) (2 * A) (2 * B) (2 * e + 2)
sec_twice {x} {A} {B} {e} a u l =
    let r : Rounds binary64 (mul binary64 two_f x) (2 * a.p) (2 * a.n) L =
    subst (λ (d : ℕ). Rounds binary64 (mul binary64 two_f x) (2 * a.p) (2 * a.n) d) (one-mul L)
    (rounds-move (mul_rounds binary64 (lit< tt) L-pos two-val a.val) (omega arith)) in
    let k = near-32 (omega (arith, L-pos)) (omega (arith, L-pos)) r in
    record {
      p = k.p;
      n = k.n;
      val = k.val;
      over = go k.p k.n a.p a.n A B k.over a.over;
      under =
          go k.n k.p a.n a.p B A k.under a.under;
    }
  where
    go : (p n p1 n1 A B : ℕ) → 562949953421312 * (p + 2 * n1) ≤ 562949953421312 * (n + 2 * p1) + L
        → 1000000000000000 * p1 + 100000 * B ≤ 1000000000000000 * n1 + 100000 * A + e * L
        → 1000000000000000 * p + 100000 * (2 * B) ≤ 1000000000000000 * n + 100000 * (2 * A) + (2 * e + 2) * L
    go p n p1 n1 A B h k = simp (add-mul, mul_assoc) (omega arith)

-- the same value by another pair, and a larger error
pub sec_move : {x : Float} {A B e : ℕ} (A' B' e' : ℕ) → Sec x A B e → A + B' ≡ A' + B → e ≤ e' → Sec x A' B' e'
sec_move {x} {A} {B} {e} A' B' e' a q h =
    let g : e * L ≤ e' * L = mul-le-mul_right L h in
    record { p = a.p; n = a.n; val = a.val; over = omega (arith, a.over, g); under = omega (arith, a.under, g) }

-- ---- the drift and the leap of a day without a step: P - S is TAI-UTC at 0h, G the drift of half a day
module _ {x y z : Float} (P S G P' S' : ℕ) (a : Sec x P S 1000) (b : Sec y (P + G) S 1000) (c : Sec z P' S' 1000) (h1 : P ≤ S + 120000000000 * L)
    (h2 : S ≤ P + 120000000000 * L) (g : 2 * G ≤ 25920000 * L)
    (same : P' + S ≡ P + 2 * G + S') where
  half-drift : Sec (sub binary64 y x) G 0 2002
  half-drift = sec_move G 0 2002 (sec_sub b a (omega (arith, a.over, b.over, a.under, b.under, L-pos))
      (omega (arith, a.over, b.over, a.under, b.under, L-pos))) (omega arith) (omega arith)

  pub drift-near : Sec (drift_rate (offsets x y z)) (2 * G) 0 4006
  unfolding drift_rate
  drift-near = sec_move (2 * G) 0 4006 (sec_twice half-drift (omega (arith, half-drift.over, L-pos)) (omega (arith, half-drift.under, L-pos))) (omega arith)
      (omega arith)

  day-end : Sec (add binary64 x (drift_rate (offsets x y z))) (P + 2 * G) (S + 0) 5008
  day-end = sec_move (P + 2 * G) (S + 0) 5008
      (sec_add a drift-near (omega (arith, a.over, drift-near.over, L-pos)) (omega (arith, a.under, drift-near.under, L-pos))) refl (omega arith)

  pub leap-near : Sec (leap_amount (offsets x y z)) 0 0 6010
  unfolding leap_amount
  leap-near = sec_move 0 0 6010 (sec_sub c day-end (omega (arith, c.over, day-end.under, L-pos)) (omega (arith, c.under, day-end.over, L-pos)))
      (omega arith) (omega arith)

-- ---- a factor: (86400 + v) / 86400, for v = A / L times 10^-10 s
pub record Factor (c : Float) (A : ℕ) : Type 0 where
  pub B : ℕ
  pub val : Val c B 0 L
  pub over : day_fs * B ≤ day_fs * L + 100000 * A + 22880 * L
  pub under : day_fs * L + 100000 * A ≤ day_fs * B + 22880 * L

day-units : Val seconds_per_day (86400 * L) 0 L
day-units = subst (λ (z : ℕ). Val seconds_per_day (86400 * L) z L) (zero-mul L)
    (subst (λ (d : ℕ). Val seconds_per_day (86400 * L) (0 * L) d) (one-mul L) (val-scale L day-val))

module _ {v : Float} {A : ℕ} (a : Sec v A 0 6010) (h : A ≤ 25920000 * L) where
  longer : Near 137438953472 (add binary64 seconds_per_day v) (86400 * L + a.p) (0 + a.n)
  longer = near-day (omega (arith, a.over, L-pos)) (omega (arith, a.under, L-pos)) (add_rounds binary64 L-pos day-units a.val)

  longer_over : 1000000000000000 * longer.p ≤ 1000000000000000 * longer.n + (day_fs * L + 100000 * A) + 13286 * L
  longer_over = go longer.p longer.n a.p a.n longer.over a.over
    where
      go : (p n q m : ℕ) → 137438953472 * (p + (0 + m)) ≤ 137438953472 * (n + (86400 * L + q)) + L
          → 1000000000000000 * q + 100000 * 0 ≤ 1000000000000000 * m + 100000 * A + 6010 * L
          → 1000000000000000 * p ≤ 1000000000000000 * n + (day_fs * L + 100000 * A) + 13286 * L
      go p n q m k l = omega arith

  longer_under : 1000000000000000 * longer.n + (day_fs * L + 100000 * A) ≤ 1000000000000000 * longer.p + 13286 * L
  longer_under = go longer.p longer.n a.p a.n longer.under a.under
    where
      go : (p n q m : ℕ) → 137438953472 * (n + (86400 * L + q)) ≤ 137438953472 * (p + (0 + m)) + L
          → 1000000000000000 * m + 100000 * A ≤ 1000000000000000 * q + 100000 * 0 + 6010 * L
          → 1000000000000000 * n + (day_fs * L + 100000 * A) ≤ 1000000000000000 * p + 13286 * L
      go p n q m k l = omega arith

  quotient : Scaled (div binary64 (add binary64 seconds_per_day v) seconds_per_day) longer.p longer.n 1 86400 1022
  quotient = div_near 1022 86400 (lit< tt) (lit≤ tt) (subst (λ (i : ℕ). longer.p < longer.n + i * 86400) (sym size-2) (omega (arith, longer_over, L-pos)))
      (subst (λ (i : ℕ). longer.n < longer.p + i * 86400) (sym size-2) (omega (arith, longer_under, L-pos))) longer.val day-val

  ends-over : day_fs * quotient.p ≤ day_fs * quotient.n + (day_fs * L + 100000 * A) + 22880 * L
  ends-over = go quotient.p quotient.n longer.p longer.n w unit_2
      (subst (λ (i : ℕ). 2 * (86400 * quotient.p + 1 * longer.n) ≤ 2 * (86400 * quotient.n + 1 * longer.p) + 86400 * i) w-is quotient.over) longer_over
    where
      go : (p n q m w : ℕ) → L ≡ 4503599627370496 * w → 2 * (86400 * p + 1 * m) ≤ 2 * (86400 * n + 1 * q) + 86400 * w
          → 1000000000000000 * q ≤ 1000000000000000 * m + (day_fs * L + 100000 * A) + 13286 * L → day_fs * p ≤ day_fs * n +
          (day_fs * L + 100000 * A) + 22880 * L
      go p n q m w u k l = omega arith

  ends-under : day_fs * quotient.n + (day_fs * L + 100000 * A) ≤ day_fs * quotient.p + 22880 * L
  ends-under = go quotient.p quotient.n longer.p longer.n w unit_2
      (subst (λ (i : ℕ). 2 * (86400 * quotient.n + 1 * longer.p) ≤ 2 * (86400 * quotient.p + 1 * longer.n) + 86400 * i) w-is quotient.under) longer_under
    where
      go : (p n q m w : ℕ) → L ≡ 4503599627370496 * w → 2 * (86400 * n + 1 * q) ≤ 2 * (86400 * p + 1 * m) + 86400 * w
          → 1000000000000000 * m + (day_fs * L + 100000 * A) ≤ 1000000000000000 * q + 13286 * L → day_fs * n +
          (day_fs * L + 100000 * A) ≤ day_fs * p + 22880 * L
      go p n q m w u k l = omega arith

  pub factor : Factor (div binary64 (add binary64 seconds_per_day v) seconds_per_day) A
  factor = record {
    B = quotient.p - quotient.n;
    val = val-move quotient.val (omega (arith, positive));
    over = omega (arith, ends-over, positive);
    under = omega (arith, ends-under, positive);
  }
    where
      positive : quotient.n ≤ quotient.p
      positive = omega (arith, ends-under, L-pos)
