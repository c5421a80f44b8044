-- What the digits of a text say, read with no knowledge of how it was written: the year stands before the last 19 bytes, which are -MM-DDThh:mm:ss.mmm. Written
-- from document 01, "UTC text", and document 02, item 6. Assumes nothing.
use Rattle.std.specs.Prelude.{ℕ, ◌+◌, ◌-◌, ◌*◌, ◌≤◌, ◌≡◌, List, [], ◌∷◌, false, cond, length, take, drop, ℤ, pos, negsuc, neg_ℤ, eqb}
use Rattle.std.specs.Int.Signed.{lt_z}
pub use Rattle.numerals.specs.digits.Decimal.{value, number}
use Rattle.calendar.specs.declared.CalendarDate.{CalendarDate}
use Rattle.time_of_day.specs.declared.TimeOfDay.{TimeOfDay}

-- with a minus sign, 45, or a plus sign, 43, in front of it or none
unfoldable pub signed_number : List ℕ → ℤ
signed_number [] = pos 0
signed_number (c ∷ cs) = cond (eqb c 45) (neg_ℤ (pos (number cs))) (cond (eqb c 43) (pos (number cs)) (pos (number (c ∷ cs))))

-- the n bytes that start k bytes before the end of t
abbrev pub from_end : ℕ → ℕ → List ℕ → List ℕ
from_end k n t = take n (drop (length t - k) t)

-- the bytes before the last 19
abbrev pub year_bytes : List ℕ → List ℕ
year_bytes t = take (length t - 19) t

unfoldable pub read_year : List ℕ → ℤ
unfolding signed_number
read_year t = signed_number (year_bytes t)

unfoldable pub read_month : List ℕ → ℕ
read_month t = number (from_end 18 2 t)

unfoldable pub read_day : List ℕ → ℕ
read_day t = number (from_end 15 2 t)

unfoldable pub read_hour : List ℕ → ℕ
read_hour t = number (from_end 12 2 t)

unfoldable pub read_minute : List ℕ → ℕ
read_minute t = number (from_end 9 2 t)

unfoldable pub read_second : List ℕ → ℕ
read_second t = number (from_end 6 2 t)

unfoldable pub read_milli : List ℕ → ℕ
read_milli t = number (from_end 3 3 t)

-- the milliseconds that the digits say: document 01's 3,600 × hour + 60 × minute + second, times 1000
unfoldable pub read_ms : List ℕ → ℕ
read_ms t = 3600000 * read_hour t + 60000 * read_minute t + 1000 * read_second t + read_milli t

-- the digits of t say the date d and the time u
pub record ReadsAs (t : List ℕ) (d : CalendarDate) (u : TimeOfDay) : Type 0 where
  pub year : read_year t ≡ d.year
  pub month : read_month t ≡ d.month
  pub day : read_day t ≡ d.day
  pub hour : read_hour t ≡ u.hour
  pub minute : read_minute t ≡ u.minute
  pub second : read_second t ≡ u.second
  pub milli : read_milli t ≡ u.milli

-- the dates and times that are written: years -4900 to 2733194, all that the calendar gives
pub record Writable (d : CalendarDate) (u : TimeOfDay) : Type 0 where
  pub year_low : lt_z d.year (negsuc 4899) ≡ false
  pub year_high : lt_z (pos 2733194) d.year ≡ false
  pub month : d.month ≤ 12
  pub day : d.day ≤ 31
  pub hour : u.hour ≤ 23
  pub minute : u.minute ≤ 59
  pub second : u.second ≤ 60
  pub milli : u.milli ≤ 999
