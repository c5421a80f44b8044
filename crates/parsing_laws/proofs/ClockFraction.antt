-- The fraction of a day that `utc_from_calendar` has for a time to the millisecond: within 2^-50 day of the milliseconds over those of the day, on days of
-- 86,399 to 86,401 s. Assumes nothing.
use mathlib.Core.Path.{◌≡◌, refl, ap, ◌∙◌}
use mathlib.Core.Bool.{false}
use Prim.Native.Nat.{ℕ, ◌+◌, ◌*◌, ◌^◌, ◌≤◌, ◌<◌}
use native.Mathlib.Nat.{le_trans, le_of_eq, mul_assoc, mul_comm, mul_left_comm, mul-le-mul_right, zero-mul}
use native.Mathlib.Omega.{arith}
use lib.Dec.{lit≤, lit<}
use lib.IntN.{pos}
use lib.Ieee.{Float, binary64, round, of_int, add, mul, div}
use Rattle.floats.specs.Whole.{nought}
use Rattle.rounding.specs.Value.{Val, L}
use Rattle.rounding.proofs.Sizes.{whole_val}
use Rattle.rounding.proofs.Casts.{of_int_val}
use Rattle.rounding.proofs.About.{U, L-U, unit, About, about_scale, about_add, about_mul, about_div}
use Rattle.constants.specs.Constants.{decimal}
use Rattle.parsing_laws.proofs.UtcTimes.{second_near}

-- ---- the pieces, in units of 2 ^ -90
-- K is at most M of 2 ^ 90 units each
in_units : (K M D : ℕ) → K ≤ M * D → K * L ≤ 0 * L + M * 2 ^ 90 * (U * D)
in_units K M D h =
    le_trans (mul-le-mul_right L h)
    (le_of_eq (ap (λ (z : ℕ). M * D * z) L-U ∙ turn M D (2 ^ 90) U ∙ front (M * 2 ^ 90 * (U * D)) (0 * L) (zero-mul L)))
  where
    turn : (m d t u : ℕ) → m * d * (t * u) ≡ m * t * (u * d)
    turn m d t u = simp (mul_assoc, mul_comm, mul_left_comm)

    front : (z o : ℕ) → o ≡ 0 → z ≡ o + z
    front z o e = omega arith

none : (D M : ℕ) → 0 * L ≤ M * (U * D)
none D M = le_trans (le_of_eq (zero-mul L)) (omega arith)

from-none : (a D M : ℕ) → 0 * L ≤ a + M * (U * D)
from-none a D M = le_trans (le_of_eq (zero-mul L)) (omega arith)

sixty : About (decimal 60 0) 60 0 1 (60 * 2 ^ 90) 0
unfolding round
sixty = record {
  p = 60 * L;
  n = 0 * L;
  val = whole_val (record { sign = false; size = 60; has = (refl, refl); is = refl });
  over = omega arith;
  under = omega arith;
  high = in_units 60 60 1 (lit≤ tt);
  low = from-none (60 * L) 1 (60 * 2 ^ 90);
  some = lit< tt;
}

-- 60 times the minutes
minutes : (k : ℕ) → k ≤ 1439 → About (mul binary64 (decimal 60 0) (of_int binary64 (pos k))) (60 * k * 1000) (0 * k * 1000) 1000 (86340 * 2 ^ 90) (2 ^ 53)
minutes k h =
    about_scale 1000 (lit< tt)
    (about_mul 53 k k 1 1 0 (86340 * 2 ^ 90) (2 ^ 53) (lit≤ tt) (lit< tt) (lit< tt) (omega arith) (omega arith) (omega arith) (omega arith) (omega arith)
    (of_int_val (pos k) (omega arith) (omega arith)) sixty)

-- the second to the millisecond
second : (n : ℕ) → n < 61000 → About (decimal n 3) n 0 1000 (61 * 2 ^ 90) (2 ^ 42)
second n h =
    let z = second_near n h in
    record {
      p = z.p;
      n = z.n;
      val = z.val;
      over = halved (z.p * 1000 + 0 * L) (z.n * 1000 + n * L) (2 ^ (985 + 42)) U (unit 42) z.over;
      under = halved (z.n * 1000 + n * L) (z.p * 1000 + 0 * L) (2 ^ (985 + 42)) U (unit 42) z.under;
      high = in_units n 61 1000 (omega arith);
      low = from-none (n * L) 1000 (61 * 2 ^ 90);
      some = lit< tt;
    }
  where
    halved : (a b t u : ℕ) → t ≡ 2 * (2 ^ 42 * u) → 2 * a ≤ 2 * b + 1000 * t → a ≤ b + 2 ^ 42 * (u * 1000)
    halved a b t u e g = omega arith

zero : (D : ℕ) → 0 < D → About nought 0 0 D 0 0
zero D h = record {
  p = 0 * L;
  n = 0 * L;
  val = whole_val (record { sign = false; size = 0; has = (refl, refl); is = refl });
  over = omega arith;
  under =
      omega arith;
  high = omega arith;
  low = omega arith;
  some = h;
}

-- ---- over the length of the day, c seconds
-- the milliseconds K of the day, over 1000 c of them, and how the float (p - n) / L is off
pub record TimeNear (z : Float) (K c : ℕ) : Type 0 where
  pub p : ℕ
  pub n : ℕ
  pub val : Val z p n L
  pub over : p * (1000 * c) ≤ n * (1000 * c) + K * L + 2 ^ 40 * (U * (1000 * c))
  pub under : n * (1000 * c) + K * L ≤ p * (1000 * c) + 2 ^ 40 * (U * (1000 * c))

-- the fraction of hour, minute and n milliseconds, over a float of the day's seconds
abbrev pub fraction_at : ℕ → ℕ → ℕ → Float → Float
fraction_at hour minute n day = add binary64 nought
    (div binary64 (add binary64 (mul binary64 (decimal 60 0) (of_int binary64 (pos (60 * hour + minute)))) (decimal n 3)) day)

module _ (hour minute n c : ℕ) (day : Float) (h : hour ≤ 23) (m : minute ≤ 59) (s : n < 61000) (v : Val day c 0 1) (low : 86399 ≤ c) where
  about : About (fraction_at hour minute n day) (0 + (60 * (60 * hour + minute) * 1000 + n) * 1) (0 + (0 * (60 * hour + minute) * 1000 + 0) * 1) (1000 * c)
      (0 + 2 ^ 91) (0 + 2 ^ 39 + 2 ^ 38)
  about =
      let sum = about_add 53 (lit≤ tt) (lit< tt) (minutes (60 * hour + minute) (omega arith)) (second n s) in
      let over = about_div 37 c (2 ^ 91) (2 ^ 39) (lit≤ tt) (omega arith) (omega arith) (omega arith) (omega arith) v sum in
      about_add 38 (lit≤ tt) (lit< tt) (zero (1000 * c) (omega arith)) over

  pub time-near : TimeNear (fraction_at hour minute n day) (3600000 * hour + 60000 * minute + n) c
  time-near =
      let a = about in
      record {
        p = a.p;
        n = a.n;
        val = a.val;
        over = go (a.p * (1000 * c)) (a.n * (1000 * c)) _ _ (U * (1000 * c)) (ap (λ (z : ℕ). z * L) plus) (ap (λ (z : ℕ). z * L) minus ∙ zero-mul L)
            a.over;
        under = back (a.p * (1000 * c)) (a.n * (1000 * c)) _ _ (U * (1000 * c)) (ap (λ (z : ℕ). z * L) plus) (ap (λ (z : ℕ). z * L) minus ∙ zero-mul L)
            a.under;
      }
    where
      plus : 0 + (60 * (60 * hour + minute) * 1000 + n) * 1 ≡ 3600000 * hour + 60000 * minute + n
      plus = omega arith

      minus : 0 + (0 * (60 * hour + minute) * 1000 + 0) * 1 ≡ 0
      minus = omega arith

      go : (a b k o u : ℕ) {kk : ℕ} → k ≡ kk → o ≡ 0 → a + o ≤ b + k + (0 + 2 ^ 39 + 2 ^ 38) * u → a ≤ b + kk + 2 ^ 40 * u
      go a b k o u e f g = omega arith

      back : (a b k o u : ℕ) {kk : ℕ} → k ≡ kk → o ≡ 0 → b + k ≤ a + o + (0 + 2 ^ 39 + 2 ^ 38) * u → b + kk ≤ a + 2 ^ 40 * u
      back a b k o u e f g = omega arith
