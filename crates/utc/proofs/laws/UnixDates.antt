-- The calendar's date of a Unix day, in whole numbers: the sum of its parts is exact, so that 6 and 1 go by the count of days alone, and the date is that of
-- day n + 2440588. Assumes nothing.
use mathlib.Core.Path.{◌≡◌, refl, ap, ◌∙◌}
use mathlib.Core.Bool.{Bool, true, false, not, ◌&&◌, ◌||◌}
use Prim.Native.Nat.{ℕ, suc, ◌+◌, ◌*◌, ◌^◌, ◌≤◌, ◌<◌}
use native.Mathlib.Omega.{arith}
use lib.Dec.{T, leb, ltb, lit≤, lit<}
use lib.IntN.{ℤ, pos, negsuc, ◌+ℤ◌}
use lib.Signed.{lt_z}
use lib.Ieee.{Float, binary64, fits, round, of_bits, of_int, add}
use lib.Ieee.Fits.{round-fits}
use borrow.Author.Tests.{ltb-true, ltb-false, le-leb, lt-leb, le-ltb}
use mir.Syntax.{w64}
use mir.Val.{SFits}
use Rattle.rounding.specs.Value.{Val, plus_z, minus_z}
use Rattle.rounding.proofs.Value.{val-scale}
use Rattle.rounding.proofs.Exact.{add_exact}
use Rattle.rounding.proofs.Compare.{le_val}
use Rattle.rounding.proofs.Casts.{add_pair}
use Rattle.constants.specs.Constants.{unix_epoch_jd}
use Rattle.calendar.specs.Calendar.{date_of}
use Rattle.calendar.specs.Gregorian.{gregorian_date}
use Rattle.calendar.proofs.Gregorian.{gregorian_is_date_of_day}
use Rattle.julian.specs.day_number.DayNumber.{c_djmin, c_djmax, in_julian_range, accepted, day_of, day_number}
use Rattle.julian.proofs.day_number.GridPairs.{grid_pair}
use Rattle.julian.proofs.Integers.{sides_mag, integer_val, integer_fits}
use Rattle.utc.specs.UnixTime.{unix_day}
use Rattle.utc.proofs.UnixDays.{day-size}
use Rattle.utc.specs.laws.Ladders.{day_outside}

epoch_val : Val unix_epoch_jd 4881175 0 2
unfolding unix_epoch_jd round
epoch_val = record { sign = false; size = 4881175; has = (refl, refl); is = refl }

epoch_fits : T (fits binary64 unix_epoch_jd)
unfolding unix_epoch_jd
epoch_fits = round-fits binary64 false 24405875 10

low-val : Val c_djmin 0 137139 2
unfolding of_bits
low-val = record { sign = true; size = 137139; has = (refl, refl); is = refl }

high-val : Val c_djmax 2000000000 0 2
unfolding of_bits
high-val = record { sign = false; size = 2000000000; has = (refl, refl); is = refl }

-- ---- tests that say the same
opposite : (a b c d : ℕ) → (d ≤ c → a ≤ b) → (c < d → b < a) → leb a b ≡ not (ltb c d)
opposite a b c d h k = go (ltb c d) refl
  where
    go : (t : Bool) → ltb c d ≡ t → leb a b ≡ not t
    go true e = lt-leb a b (k (ltb-true c d e))
    go false e = le-leb a b (h (ltb-false c d e))

from_low : (n : ℤ) → leb (0 + (0 + minus_z n * 2)) (4881175 + plus_z n * 2 + 137139) ≡ not (lt_z n (negsuc 2509156))
from_low (pos a) = le-leb 0 (4881175 + a * 2 + 137139) (omega arith)
from_low (negsuc a) = opposite (0 + (0 + suc a * 2)) (4881175 + 0 * 2 + 137139) 2509156 a (λ h. omega arith) (λ h. omega arith)

to_high : (n : ℤ) → leb (4881175 + plus_z n * 2 + 0) (2000000000 + (0 + minus_z n * 2)) ≡ not (lt_z (pos 997559412) n)
to_high (pos a) = opposite (4881175 + a * 2 + 0) (2000000000 + (0 + 0 * 2)) 997559412 a (λ h. omega arith) (λ h. omega arith)
to_high (negsuc a) = le-leb (4881175 + 0 * 2 + 0) (2000000000 + (0 + suc a * 2)) (omega arith)

neither : (a b : Bool) → not a && not b ≡ not (a || b)
neither true b = refl
neither false b = refl

same-integer : (a b : ℤ) → plus_z a + minus_z b ≡ minus_z a + plus_z b → a ≡ b
same-integer (pos a) (pos b) e = ap pos (omega arith)
same-integer (negsuc a) (negsuc b) e = ap negsuc (omega arith)
same-integer (pos a) (negsuc b) e = absurd (omega arith)
same-integer (negsuc a) (pos b) e = absurd (omega arith)

module _ (seconds : ℤ) (f : SFits w64 seconds) where
  abbrev n : ℤ
  n = unix_day seconds

  abbrev u : Float
  u = of_int binary64 n

  small-day : (plus_z n ≤ 2 ^ 48) × (minus_z n ≤ 2 ^ 48)
  small-day = sides_mag n (2 ^ 48) (omega (arith, day-size seconds f))

  u-val : Val u (plus_z n) (minus_z n) 1
  u-val = integer_val n (omega (arith, day-size seconds f))

  sum-val : Val (add binary64 unix_epoch_jd u) (4881175 + plus_z n * 2) (0 + minus_z n * 2) 2
  sum-val = let s = small-day in add_exact 1 (lit≤ tt) (omega arith) (omega arith) epoch_val (val-scale 2 u-val)

  -- 6 EXACTLY outside the days from -2509157 to 997559412
  pub day-accepted : accepted unix_epoch_jd u ≡ not (day_outside n)
  unfolding accepted in_julian_range
  day-accepted =
      (λ i. (le_val (lit< tt) low-val sum-val ∙ from_low n) i && (le_val (lit< tt) sum-val high-val ∙ to_high n) i)
      ∙ neither (lt_z n (negsuc 2509156)) (lt_z (pos 997559412) n)

  -- the day
  module _ (e : accepted unix_epoch_jd u ≡ true) where
    balance : (a b c d units : ℕ) → units < 2 ^ 52 → 4881175 * 2 ^ 51 + a * 2 ^ 52 + 2 ^ 51 + b * 2 ^ 52 ≡ 0 * 2 ^ 51 + c * 2 ^ 52 + d * 2 ^ 52 + units
        → a + 2440588 + b ≡ c + d
    balance a b c d units h k = omega arith

    pub unix_day_is : (day_of unix_epoch_jd u).day ≡ n +ℤ pos 2440588
    unfolding day_of
    unix_day_is =
        let s = small-day in
        let p = grid_pair unix_epoch_jd u epoch_fits (integer_fits n) e (4881175 * 2 ^ 51) (0 * 2 ^ 51) (plus_z n * 2 ^ 52) (minus_z n * 2 ^ 52)
        (val-scale (2 ^ 51) epoch_val) (val-scale (2 ^ 52) u-val) (omega arith) (omega arith) (omega arith) (omega arith) in
        same-integer (day_number unix_epoch_jd u) (n +ℤ pos 2440588)
        (omega (
          arith,
          balance (plus_z n) (minus_z (day_number unix_epoch_jd u)) (minus_z n) (plus_z (day_number unix_epoch_jd u)) p.units p.below p.total,
          add_pair n (pos 2440588),
        ))

    -- and its date
    low-day : (z : ℤ) (a b : ℕ) → plus_z z + (b + 0) ≡ minus_z z + (a + 2440588) → b ≤ 2509157 → lt_z z (negsuc 68568) ≡ false
    low-day (pos k) a b h g = refl
    low-day (negsuc k) a b h g = le-ltb 68568 k (omega arith)

    high-day : (z : ℤ) (a b : ℕ) → plus_z z + (b + 0) ≡ minus_z z + (a + 2440588) → a ≤ 997559412 → lt_z (pos 1000000000) z ≡ false
    high-day (pos k) a b h g = le-ltb 1000000000 k (omega arith)
    high-day (negsuc k) a b h g = refl

    from_first : (z : ℤ) → day_outside z ≡ false → (minus_z z ≤ 2509157) × (plus_z z ≤ 997559412)
    from_first (pos k) h = (omega arith, omega (arith, ltb-false 997559412 k h))
    from_first (negsuc k) h = (omega (arith, ltb-false 2509156 k (first (ltb 2509156 k) false h)), omega arith)
      where
        first : (a b : Bool) → a || b ≡ false → a ≡ false
        first true b h = h
        first false b h = refl

    pub unix_date_is : day_outside n ≡ false → gregorian_date (day_of unix_epoch_jd u).day ≡ date_of (n +ℤ pos 2440588)
    unix_date_is o =
        let r = from_first n o in
        ap gregorian_date unix_day_is ∙ gregorian_is_date_of_day (n +ℤ pos 2440588)
        (low-day (n +ℤ pos 2440588) (plus_z n) (minus_z n) (add_pair n (pos 2440588)) r.0)
        (high-day (n +ℤ pos 2440588) (plus_z n) (minus_z n) (add_pair n (pos 2440588)) r.1)
