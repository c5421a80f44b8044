-- The day number and the fraction of a two-part Julian date, operation by operation. Written from the Rust utc_tai/calendar.rs, whose bits it fixes: each
-- function here is the Rust's of the same name, with the days that it carries and borrows as two counts. Assumes nothing.
use Rattle.std.specs.Prelude.{Bool, cond, ◌&&◌, ℕ, ◌+◌, ℤ, pos, ◌+ℤ◌, ◌-ℤ◌, Float}
use Rattle.std.specs.Float.{binary64}
use Rattle.std.specs.Float.Ieee.{of_bits, add, sub, div, neg, lt, le, to_signed}
use Rattle.floats.specs.Whole.{abs, half, nought, one, nearest_int}
use Rattle.julian.specs.declared.day_number.Kahan.{Kahan}
use Rattle.julian.specs.declared.day_number.Summed.{Summed}
use Rattle.julian.specs.declared.day_number.Borrowed.{Borrowed}
use Rattle.julian.specs.declared.day_number.Carried.{Carried}
use Rattle.julian.specs.declared.day_number.Normalized.{Normalized}
use Rattle.julian.specs.declared.day_number.DayNumber.{DayNumber}

-- the Rust's constants by their bits: -DBL_EPSILON / 4.0 and -DBL_EPSILON / 2.0, that is -2 ^ -54 and -2 ^ -53
abbrev pub c_minus_eps_4 : Float
c_minus_eps_4 = div binary64 (neg (of_bits binary64 0x3cb0_0000_0000_0000)) (of_bits binary64 0x4010_0000_0000_0000)

abbrev pub c_minus_eps_2 : Float
c_minus_eps_2 = div binary64 (neg (of_bits binary64 0x3cb0_0000_0000_0000)) (of_bits binary64 0x4000_0000_0000_0000)

-- DJMIN and DJMAX, that is -68569.5 and 1e9
abbrev pub c_djmin : Float
c_djmin = of_bits binary64 0xc0f0_bd98_0000_0000

abbrev pub c_djmax : Float
c_djmax = of_bits binary64 0x41cd_cd65_0000_0000

-- the rounded sum lies in DJMIN..=DJMAX; a NaN does not
unfoldable pub in_julian_range : Float → Bool
unfolding le
in_julian_range dj = le c_djmin dj && le dj c_djmax

-- what the rounded sum `temp` lost
unfoldable pub compensation : Float → Float → Float → Float
unfolding le abs add sub
compensation sum frac temp = cond (le (abs frac) (abs sum)) (add binary64 (sub binary64 sum temp) frac) (add binary64 (sub binary64 frac temp) sum)

-- one turn of the loop
unfoldable pub add_fraction : ℕ → Kahan → Float → Summed
unfolding le compensation add sub
add_fraction carry kahan frac =
    let temp = add binary64 kahan.sum frac in
    let correction = add binary64 kahan.correction (compensation kahan.sum frac temp) in
    cond (le one temp)
    (record { carry = carry + 1; kahan = record { sum = sub binary64 temp one; correction = correction } })
    (record { carry = carry; kahan = record { sum = temp; correction = correction } })

-- the two fractions added from 0.5
abbrev pub kahan_start : Kahan
kahan_start = record { sum = half; correction = nought }

unfoldable pub sum_fractions : Float → Float → Summed
unfolding add_fraction
sum_fractions f g = add_fraction (add_fraction 0 kahan_start f).carry (add_fraction 0 kahan_start f).kahan g

-- one day borrowed: the sum with it, the fraction that it comes to, and both, with what the fraction differs from the sum
abbrev pub borrow_sum : Float → Float
borrow_sum sum = add binary64 sum one

abbrev pub borrow_fraction : Float → Float → Float
borrow_fraction sum correction = add binary64 (borrow_sum sum) (add binary64 correction (add binary64 (sub binary64 one (borrow_sum sum)) sum))

unfoldable pub borrow_day : Kahan → Borrowed
unfolding add sub
borrow_day kahan =
    let sum = borrow_sum kahan.sum in
    let fraction = borrow_fraction kahan.sum kahan.correction in
    record { borrow = 1; kahan = record { sum = sum; correction = sub binary64 fraction sum }; fraction = fraction }

-- one day carried, and the fraction that is left
unfoldable pub carry_end : Float → Carried
unfolding lt
carry_end rest = cond (lt c_minus_eps_2 rest) (record { carry = 1; fraction = cond (lt nought rest) rest nought }) (record { carry = 0; fraction = rest })

unfoldable pub carry_day : Kahan → Float → Carried
unfolding lt carry_end add sub
carry_day kahan fraction =
    let sum = sub binary64 kahan.sum one in
    let correction = add binary64 kahan.correction (sub binary64 (sub binary64 kahan.sum sum) one) in
    cond (lt (sub binary64 fraction one) c_minus_eps_4) (record { carry = 0; fraction = fraction }) (carry_end (add binary64 sum correction))

-- the days carried at the end beside those borrowed before
abbrev pub beside_borrowed : ℕ → Carried → Normalized
beside_borrowed borrow end = record { carry = end.carry; borrow = borrow; fraction = end.fraction }

-- the sum with what its fraction differs from it
abbrev pub kahan_of : Float → Float → Kahan
kahan_of sum fraction = record { sum = sum; correction = sub binary64 fraction sum }

unfoldable pub normalize_fraction : Kahan → Normalized
unfolding lt borrow_day carry_day add sub
normalize_fraction kahan =
    let fraction = add binary64 kahan.sum kahan.correction in
    let more = borrow_day (kahan_of kahan.sum fraction) in
    cond (lt fraction nought) (beside_borrowed more.borrow (carry_day more.kahan more.fraction))
    (beside_borrowed 0 (carry_day (kahan_of kahan.sum fraction) fraction))

-- a part less its whole number
unfoldable pub rest : Float → Float
unfolding sub nearest_int
rest x = sub binary64 x (nearest_int x)

-- the integer sum, each whole number cast to 64 bits, which saturates
abbrev pub total : Float → Float → ℕ → ℕ → ℕ → ℤ
total a b carry more borrow = to_signed 63 a +ℤ to_signed 63 b +ℤ pos carry +ℤ (pos more -ℤ pos borrow)

-- what the two fractions come to
unfoldable pub joined_fractions : Float → Float → Normalized
unfolding sum_fractions normalize_fraction
joined_fractions f g = normalize_fraction (sum_fractions f g).kahan

unfoldable pub day_number : Float → Float → ℤ
unfolding to_signed nearest_int sum_fractions joined_fractions rest
day_number jd1 jd2 = total (nearest_int jd1) (nearest_int jd2) (sum_fractions (rest jd1) (rest jd2)).carry (joined_fractions (rest jd1) (rest jd2)).carry
    (joined_fractions (rest jd1) (rest jd2)).borrow

unfoldable pub fraction_passed : Float → Float → Float
unfolding joined_fractions rest
fraction_passed jd1 jd2 = (joined_fractions (rest jd1) (rest jd2)).fraction

unfoldable pub day_of : Float → Float → DayNumber
unfolding day_number fraction_passed
day_of jd1 jd2 = record { day = day_number jd1 jd2; fraction = fraction_passed jd1 jd2 }

-- the pairs that have a day: their rounded sum is in the range
unfoldable pub accepted : Float → Float → Bool
unfolding in_julian_range add
accepted jd1 jd2 = in_julian_range (add binary64 jd1 jd2)
