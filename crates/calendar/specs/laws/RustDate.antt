-- The Rust's `gregorian_date` (scales/conversions/utc_tai/calendar.rs) line by line: signed numbers, and divisions that drop the fraction toward zero. For the
-- day numbers that its callers hand it no number here passes 2^33, so that its 64 bits never wrap and its casts to 32 bits lose nothing. Assumes nothing.
use Rattle.std.specs.Prelude.{ℤ, pos, ◌+ℤ◌, ◌-ℤ◌, ◌*ℤ◌}
use Rattle.std.specs.Int.Signed.{quot_z}

-- what it returns: (year, month, day)
pub record RustTriple : Type 0 where
  pub year : ℤ
  pub month : ℤ
  pub day : ℤ

-- let n = (4 * l) / 146097
abbrev pub centuries : ℤ → ℤ
centuries l = quot_z (pos 4 *ℤ l) (pos 146097)

-- l -= (146097 * n + 3) / 4
abbrev pub day_of_century : ℤ → ℤ → ℤ
day_of_century l n = l -ℤ quot_z (pos 146097 *ℤ n +ℤ pos 3) (pos 4)

-- let i = (4000 * (l + 1)) / 1461001
abbrev pub rust_years : ℤ → ℤ
rust_years l = quot_z (pos 4000 *ℤ (l +ℤ pos 1)) (pos 1461001)

-- l -= (1461 * i) / 4 - 31
abbrev pub day_of_year : ℤ → ℤ → ℤ
day_of_year l i = l -ℤ (quot_z (pos 1461 *ℤ i) (pos 4) -ℤ pos 31)

-- let k = (80 * l) / 2447
abbrev pub rust_months : ℤ → ℤ
rust_months l = quot_z (pos 80 *ℤ l) (pos 2447)

-- let day = l - (2447 * k) / 80; l_final = k / 11; month = k + 2 - 12 * l_final; year = 100 * (n - 49) + i + l_final
abbrev pub rust_triple : ℤ → ℤ → ℤ → ℤ → RustTriple
rust_triple n i l k =
    record {
      year = pos 100 *ℤ (n -ℤ pos 49) +ℤ i +ℤ quot_z k (pos 11);
      month = k +ℤ pos 2 -ℤ pos 12 *ℤ quot_z k (pos 11);
      day = l -ℤ quot_z (pos 2447 *ℤ k) (pos 80);
    }

-- the lines in their order, each with the `l` of the line before it
unfoldable pub from_day_of_year : ℤ → ℤ → ℤ → RustTriple
from_day_of_year n i l = rust_triple n i l (rust_months l)

unfoldable pub from_day_of_century : ℤ → ℤ → RustTriple
from_day_of_century n l = from_day_of_year n (rust_years l) (day_of_year l (rust_years l))

unfoldable pub from_shifted : ℤ → RustTriple
from_shifted l = from_day_of_century (centuries l) (day_of_century l (centuries l))

-- let mut l = jd + 68569
unfoldable pub rust_date : ℤ → RustTriple
rust_date jd = from_shifted (jd +ℤ pos 68569)
