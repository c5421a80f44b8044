-- The two parts of a week's date: the code's operations give the floats of the definition, the first is exact; and a count by one cast. Assumes nothing.
use Rattle.std.proofs.Common.{◌≡◌, ℕ, zero, suc, ◌+◌, ◌-◌, ◌*◌, ◌/◌, ◌^◌, ◌<◌, ◌≤◌, min, Bool, true, false, ℤ, pos, negsuc, neg_ℤ, sym, refl, ap, ◌∙◌, subst}
use Rattle.std.proofs.Common.{true≢false, div-lt_iff_lt-mul, mul-one, arith, lit<, lit≤, w64, SFits, ltb-true}
use lib.Ieee.{Float, nan, inf, fin, binary64, up, down, round, of_int, of_bits, sub, div, lt, to_unsigned, to_signed}
use lib.Ieee.Fits.{down_pos}
use Rattle.floats.specs.Whole.{half}
use Rattle.constants.specs.Constants.{decimal}
use Rattle.rounding.specs.Value.{Signed, Val, Rounds}
use Rattle.rounding.proofs.Value.{val-scale, sub_rounds, div_rounds}
use Rattle.rounding.proofs.Casts.{of_int_val}
use Rattle.rounding.proofs.Exact.{rounds-exact}
use Rattle.time_of_day.specs.TimeShown.{from_zero}
use Rattle.scales.specs.gps_weeks.WeekDate.{week_midnight, part_of_day}

-- 86400000.0
pub day-millis : of_bits binary64 0x4194_9970_0000_0000 ≡ decimal 86400000 0
unfolding of_bits round
day-millis = refl

pub day-millis-val : Val (decimal 86400000 0) 86400000 0 1
unfolding round
day-millis-val = record { sign = false; size = 86400000; has = (refl, refl); is = refl }

-- a rounded fraction above 0 has the sign +
positive : {z : Float} {p n d : ℕ} (a : ℕ) → Rounds binary64 z p n d → a + n ≡ p → 0 < a → z ≡ round binary64 false a d
positive {z} {p} {n} {d} a r e h = go r.sign r.size r.is r.eq
  where
    go : (s : Bool) (k : ℕ) → Signed s k p n → z ≡ round binary64 s k d → z ≡ round binary64 false a d
    go false k i q = let f : k ≡ a = omega arith in q ∙ ap (λ (x : ℕ). round binary64 false x d) f
    go true k i q = let f : ⊥ = omega arith in absurd f

half-val : Val half 1 0 2
half-val = record { sign = false; size = 1; has = (refl, refl); is = refl }

pub half_is : of_bits binary64 0x3fe0_0000_0000_0000 ≡ half
unfolding of_bits round
half_is = refl

pub midnight-is : (n : ℕ) → 0 < n → n ≤ 2 ^ 53 → sub binary64 (of_int binary64 (pos n)) half ≡ week_midnight n
unfolding week_midnight
midnight-is n h k = positive (2 * n - 1) (sub_rounds binary64 (lit< tt) (val-scale 2 (of_int_val (pos n) k (lit≤ tt))) half-val) (omega arith) (omega arith)

-- document 02: jd1 "is its day's midnight": n - 1 / 2, exactly
pub midnight-val : (n : ℕ) → 0 < n → n ≤ 2 ^ 51 → Val (week_midnight n) (2 * n) 1 2
unfolding week_midnight
midnight-val n h k = rounds-exact 1 (lit≤ tt) (omega arith) (omega arith) (record { sign = false; size = 2 * n - 1; eq = refl; is = omega arith })

pub part-is : (ms : ℕ) → ms ≤ 2 ^ 53 → div binary64 (of_int binary64 (pos ms)) (decimal 86400000 0) ≡ part_of_day ms
unfolding part_of_day div round of_int
part-is zero h = refl
part-is (suc n) h = positive (suc n) (div_rounds binary64 (lit< tt) (lit< tt) (lit< tt) (of_int_val (pos (suc n)) h (lit≤ tt)) day-millis-val) (omega arith)
    (omega arith)

-- what the two parts are found by
pub ruleset parts = (half_is, midnight-is, day-millis, part-is)

-- ---- a count of 64 bits, and one from 1 to 2 ^ 52 by one cast
pub from-zero-most : (z : ℤ) → SFits w64 z → from_zero z ≤ 9223372036854775807
unfolding from_zero
from-zero-most (pos n) f = omega (arith, f.sfits)
from-zero-most (negsuc n) f = omega arith

from-negative : (k : ℕ) → 0 ≡ from_zero (neg_ℤ (pos k))
unfolding from_zero
from-negative zero = refl
from-negative (suc k) = refl

pub short-cast : (r : Float) → lt r (fin false 1 (pos 52)) ≡ true → (k : ℕ) → k ≡ to_unsigned 64 r → (k ≡ from_zero (to_signed 63 r)) ×
    (k ≤ 9223372036854775807)
unfolding lt to_unsigned to_signed from_zero
short-cast nan h k e = (e, omega arith)
short-cast (inf true) h k e = (e, omega arith)
short-cast (inf false) h k e = absurd (true≢false (sym h))
short-cast (fin true m i) h k e = (e ∙ from-negative (min (m * up i / down i) (2 ^ 63)), omega arith)
short-cast (fin false m i) h k e =
    let q : m * up i / down i < 2 ^ 52 =
    (div-lt_iff_lt-mul (down_pos i)).1 (subst (λ (z : ℕ). z < 2 ^ 52 * down i) (mul-one (m * up i)) (ltb-true (m * up i * 1) (2 ^ 52 * down i) h)) in
    least (m * up i / down i) k e q
  where
    least : (q k : ℕ) → k ≡ min q 18446744073709551615 → q < 2 ^ 52 → (k ≡ min q 9223372036854775807) × (k ≤ 9223372036854775807)
    least q k e h = (omega arith, omega arith)
