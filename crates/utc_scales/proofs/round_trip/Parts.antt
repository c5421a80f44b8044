-- The two parts of a date as scaled whole numbers: jd1 a whole number of half days, and jd2 of at most 1027/1024 day in size, as the guesses of TAI to UTC are
-- too. Assumes nothing.
use mathlib.Core.Path.{◌≡◌, refl}
use Prim.Native.Nat.{ℕ, ◌+◌, ◌*◌, ◌≤◌}
use native.Mathlib.Nat.{mul-le-mul_right}
use native.Mathlib.Omega.{arith}
use lib.Dec.{T}
use lib.Ieee.{Float, binary64, fits, le}
use Rattle.floats.specs.Whole.{abs, one}
use Rattle.rounding.specs.Value.{Val, L}
use Rattle.rounding.proofs.Range.{size-at-most}
use Rattle.julian.proofs.day_number.Units.{one-L}
use Rattle.julian.specs.declared.JulianDate.{JulianDate}
use Rattle.julian.specs.JulianDate.{julian}
use Rattle.julian.specs.Worth.{Worth}
use Rattle.utc_scales.specs.round_trip.UtcDays.{H}
use Rattle.utc_scales.specs.round_trip.Ranges.{HalfDaySplit}
use Rattle.utc_scales.proofs.round_trip.Units.{L-H, H-pos, in_units}

-- a float whose value is a whole number of half days, k of them, from 2441319.5 to 5000000.5 days
pub record FirstPart (a : Float) (A : ℕ) : Type 0 where
  pub held : T (fits binary64 a)
  pub val : Val a A 0 L
  pub k : ℕ
  pub halves : A ≡ k * H
  pub low : 4882639 * H ≤ A
  pub high : A ≤ 10000001 * H

-- the same from 0 on
pub record HalvesUp (a : Float) (A : ℕ) : Type 0 where
  pub val : Val a A 0 L
  pub k : ℕ
  pub halves : A ≡ k * H
  pub high : A ≤ 10000001 * H

abbrev pub half-days : {a : Float} {A : ℕ} → FirstPart a A → HalvesUp a A
half-days v = record { val = v.val; k = v.k; halves = v.halves; high = v.high }

-- a float of at most 1027/1024 day in size
pub record SecondPart (u : Float) (up un : ℕ) : Type 0 where
  pub held : T (fits binary64 u)
  pub val : Val u up un L
  pub over : 1024 * up ≤ 1024 * un + 1027 * L
  pub under : 1024 * un ≤ 1024 * up + 1027 * L

pub smaller-part : (b : Float) → T (fits binary64 b) → T (le (abs b) one) → (p : ℕ) × (n : ℕ) × SecondPart b p n
smaller-part b t k = let w = size-at-most t one-L
    k in (w.p, w.n, record { held = t; val = w.val; over = wide w.p w.n L w.high; under = wide w.n w.p L w.low })
  where
    wide : (p n Q : ℕ) → p ≤ n + Q → 1024 * p ≤ 1024 * n + 1027 * Q
    wide p n Q k = omega arith

-- what the two are worth together
pub parts-joined : {a x : Float} {A p n : ℕ} → Val a A 0 L → Val x p n L → Worth (julian a x) (A + p) n L
parts-joined {A = A} {p} {n} v w = record { p = A; n = 0; q = p; m = n; first = v; second = w; total = omega arith }

pub parts-worth : {a u : Float} {A up un : ℕ} → FirstPart a A → SecondPart u up un → Worth (julian a u) (A + up) un L
parts-worth v w = parts-joined v.val w.val

-- ---- two parts whose sum lies from 2000000 to 6000000 days, the second at most 131072 days in size
pub record Around (a u : Float) (A up un : ℕ) : Type 0 where
  pub held1 : T (fits binary64 a)
  pub held2 : T (fits binary64 u)
  pub val1 : Val a A 0 L
  pub val2 : Val u up un L
  pub most : A ≤ 10000001 * H
  pub over : up ≤ un + 131072 * L
  pub under : un ≤ up + 131072 * L
  pub low : 4000000 * H + un ≤ A + up
  pub high : A + up ≤ un + 12000000 * H

-- the same from 1972-01-01 to 8977-06-09
pub record Stamp (a u : Float) (A up un : ℕ) : Type 0 where
  pub held1 : T (fits binary64 a)
  pub held2 : T (fits binary64 u)
  pub val1 : Val a A 0 L
  pub val2 : Val u up un L
  pub most : A ≤ 10000001 * H
  pub over : up ≤ un + 131072 * L
  pub under : un ≤ up + 131072 * L
  pub low : 4882636 * H + un ≤ A + up
  pub high : A + up ≤ un + 10000004 * H

pub around : {a u : Float} {A up un : ℕ} → Stamp a u A up un → Around a u A up un
around s = record {
  held1 = s.held1;
  held2 = s.held2;
  val1 = s.val1;
  val2 = s.val2;
  most = s.most;
  over = s.over;
  under = s.under;
  low = omega (arith, s.low, H-pos);
  high = omega (arith, s.high, H-pos);
}

pub stamp-of : {a u : Float} {A up un : ℕ} → FirstPart a A → SecondPart u up un → Stamp a u A up un
stamp-of v w = record {
  held1 = v.held;
  held2 = w.held;
  val1 = v.val;
  val2 = w.val;
  most = v.high;
  over = omega (arith, w.over);
  under = omega (arith, w.under);
  low = omega (arith, v.low, w.under, L-H);
  high = omega (arith, v.high, w.over, L-H);
}

-- ---- the parts of a date of the theorems
module _ {d : JulianDate} (s : HalfDaySplit d) where
  pub first_part : FirstPart d.jd1 (s.halves * H)
  first_part = record {
    held = s.held.0;
    val = in_units s.halves 2 H L-H s.first;
    k = s.halves;
    halves = refl;
    low = mul-le-mul_right H s.low;
    high = mul-le-mul_right H s.high;
  }

  pub second-part : (p : ℕ) × (n : ℕ) × SecondPart d.jd2 p n
  second-part = smaller-part d.jd2 s.held.1 s.second
