-- The day and the fraction of (a, u): within 4 h of the exact sum plus one half; and the day from 1972-01-01 to 8977-06-09 where the sum is. Assumes nothing.
use mathlib.Core.Path.{◌≡◌, refl}
use mathlib.Core.Bool.{true}
use Prim.Native.Nat.{ℕ, suc, ◌+◌, ◌*◌, ◌^◌, ◌≤◌, ◌<◌}
use native.Mathlib.Nat.{lt_of_mul-lt-mul_right}
use native.Mathlib.Omega.{arith}
use lib.Dec.{T}
use lib.IntN.{ℤ, pos, negsuc, ◌+ℤ◌, ◌-ℤ◌}
use lib.Ieee.{Float, binary64, fits}
use Rattle.refusals.specs.Outcome.{answer}
use Rattle.rounding.specs.Value.{Val, Under52, L, plus_z, minus_z}
use Rattle.rounding.proofs.Value.{L-pos, val-move, abs-val}
use Rattle.rounding.proofs.Signed.{dist, dist_le}
use Rattle.rounding.proofs.Casts.{add_pair, sub_pair}
use Rattle.rounding.proofs.Compare.{lt_show, lt_says}
use Rattle.rounding.proofs.Range.{power-val}
use Rattle.julian.specs.day_number.DayNumber.{accepted, day_of}
use Rattle.julian.specs.day_number.Answer.{day_number_and_fraction}
use Rattle.julian.specs.day_number.NearDay.{DayNear}
use Rattle.julian.specs.day_number.Ranges.{InDays}
use Rattle.julian.proofs.day_number.Units.{E-L, one-L}
use Rattle.julian.proofs.day_number.JulianRange.{accepts}
use Rattle.julian.proofs.day_number.Answer.{answered}
use Rattle.julian.proofs.day_number.Ranges.{day-range, fraction-range}
use Rattle.julian.proofs.day_number.OffGrid.{day-near}
use Rattle.utc_scales.specs.round_trip.UtcDays.{H}
use Rattle.utc_scales.proofs.round_trip.Parts.{Around, Stamp, around}
use Rattle.utc_scales.proofs.round_trip.Units.{h, L-H, L-h, H-pos, h_small}

-- by the calendar (a, u) is f / L of day n, within 4 h of a + u + 1/2
pub record CalendarNear (a u : Float) (A up un : ℕ) : Type 0 where
  pub n : ℕ
  pub f : ℕ
  pub given : day_number_and_fraction a u ≡ answer (day_of a u)
  pub day : (day_of a u).day ≡ pos n
  pub in-days : InDays (day_of a u).day
  pub val : Val (day_of a u).fraction f 0 L
  pub below : f < L
  pub near-over : n * L + f + un ≤ A + up + H + 4 * h
  pub near-under : A + up + H ≤ n * L + f + un + 4 * h

-- the same on a day from 1972-01-01 to 8977-06-09
pub record Located (a u : Float) (A up un : ℕ) : Type 0 where
  pub n : ℕ
  pub f : ℕ
  pub given : day_number_and_fraction a u ≡ answer (day_of a u)
  pub day : (day_of a u).day ≡ pos n
  pub in-days : InDays (day_of a u).day
  pub val : Val (day_of a u).fraction f 0 L
  pub below : f < L
  pub low : 2441318 ≤ n
  pub high : n ≤ 5000002
  pub near-over : n * L + f + un ≤ A + up + H + 4 * h
  pub near-under : A + up + H ≤ n * L + f + un + 4 * h

-- a float of less than 2 ^ 52 in size
under : {x : Float} {p n : ℕ} (B : ℕ) → T (fits binary64 x) → Val x p n L → p ≤ n + B → n ≤ p + B → B < 2 ^ 52 * L → Under52 x
under {x} {p} {n} B f v k l b = record { held = f; small = lt_show L-pos (abs-val v) (power-val 52 L) (less (dist p n) (2 ^ 52 * L) (dist_le p n B k l) b) }
  where
    less : (d c : ℕ) → d ≤ B → B < c → d + 0 < c + 0
    less d c q r = omega arith

module _ {a u : Float} {A up un : ℕ} (s : Around a u A up un) where
  take : accepted a u ≡ true
  take = accepts a u A 0 up un s.val1 s.val2 (omega (arith, s.high, E-L, L-H)) (omega (arith, s.low, E-L, L-H))

  abbrev j : ℤ
  j = pos up -ℤ pos un

  j-is : plus_z j + un ≡ minus_z j + up
  j-is = omega (arith, sub_pair (pos up) (pos un))

  sum_is : plus_z (pos A +ℤ j) + un ≡ minus_z (pos A +ℤ j) + (A + up)
  sum_is = go (plus_z (pos A +ℤ j)) (minus_z (pos A +ℤ j)) (plus_z j) (minus_z j) (add_pair (pos A) j) j-is
    where
      go : (x y p q : ℕ) → x + (0 + q) ≡ y + (A + p) → p + un ≡ q + up → x + un ≡ y + (A + up)
      go x y p q e g = omega arith

  near : DayNear (pos A +ℤ j) (day_of a u).day (day_of a u).fraction
  near =
      day-near a u
      (under (10000001 * H) s.held1 s.val1 (omega (arith, s.most)) (omega arith) (omega (arith, L-H, H-pos)))
      (under (131072 * L) s.held2 s.val2 s.over s.under (omega (arith, L-pos)))
      (pos A) j s.val1 (val-move s.val2 (omega (arith, j-is))) (day_of a u) (answered a u take)

  inside : (units : ℕ) → Val (day_of a u).fraction units 0 L → units < L
  inside units x = omega (arith, lt_says L-pos x one-L (fraction-range a u s.held1 s.held2 (day_of a u) (answered a u take)).high)

  pub placed : CalendarNear a u A up un
  placed = go (day_of a u).day refl near
    where
      go : (d : ℤ) → (day_of a u).day ≡ d → DayNear (pos A +ℤ j) d (day_of a u).fraction → CalendarNear a u A up un
      go (negsuc m) e k = absurd (no (suc m * L) k.units (plus_z (pos A +ℤ j)) (minus_z (pos A +ℤ j)) sum_is (inside k.units k.val) k.under)
        where
          no : (N x p q : ℕ) → p + un ≡ q + (A + up) → x < L → 2 ^ 51 * (p + N) + 2 ^ 50 * L ≤ 2 ^ 51 * (0 * L + x + q) + L → ⊥
          no N x p q g b c = omega (arith, s.low, L-H, H-pos)
      go (pos n) e k = record {
        n = n;
        f = k.units;
        given = answered a u take;
        day = e;
        in-days = day-range a u s.held1 s.held2 (day_of a u) (answered a u take);
        val = k.val;
        below = inside k.units k.val;
        near-over = over (n * L) k.units (plus_z (pos A +ℤ j)) (minus_z (pos A +ℤ j)) sum_is k.over;
        near-under = back (n * L) k.units (plus_z (pos A +ℤ j)) (minus_z (pos A +ℤ j)) sum_is k.under;
      }
        where
          over : (N x p q : ℕ) → p + un ≡ q + (A + up) → 2 ^ 51 * (N + x + q) ≤ 2 ^ 51 * (p + 0 * L) + 2 ^ 50 * L + L → N + x + un ≤ A + up + H + 4 * h
          over N x p q g c = omega (arith, L-H, L-h)

          back : (N x p q : ℕ) → p + un ≡ q + (A + up) → 2 ^ 51 * (p + 0 * L) + 2 ^ 50 * L ≤ 2 ^ 51 * (N + x + q) + L → A + up + H ≤ N + x + un + 4 * h
          back N x p q g c = omega (arith, L-H, L-h)

module _ {a u : Float} {A up un : ℕ} (s : Stamp a u A up un) where
  pub located : Located a u A up un
  located =
      let k = placed (around s) in
      record {
        n = k.n;
        f = k.f;
        given = k.given;
        day = k.day;
        in-days = k.in-days;
        val = k.val;
        below = k.below;
        low = lt_of_mul-lt-mul_right L (first (k.n * L) k.f k.below k.near-under);
        high = less k.n (lt_of_mul-lt-mul_right L (last (k.n * L) k.f k.near-over));
        near-over = k.near-over;
        near-under = k.near-under;
      }
    where
      first : (N x : ℕ) → x < L → A + up + H ≤ N + x + un + 4 * h → 2441317 * L < N
      first N x b c = omega (arith, s.low, L-H, h_small, L-pos)

      last : (N x : ℕ) → N + x + un ≤ A + up + H + 4 * h → N < 5000003 * L
      last N x c = omega (arith, s.high, L-H, h_small, L-pos)

      less : (n : ℕ) → n < 5000003 → n ≤ 5000002
      less n c = omega arith
