-- UTC and TAI in the years 1961 to 1971, in which TAI-UTC grew by a fixed rate a day and now and then stepped. Written from the IERS table of TAI-UTC: on a day
-- of a row, TAI-UTC is the row's seconds, and its rate times the days since the Modified Julian Date of its start. Here the decimals are whole numbers of
-- 10^-10 s. Assumes nothing.
use Rattle.std.specs.Prelude.{◌≡◌, ℕ, suc, ◌+◌, ◌-◌, ◌*◌, ◌≤◌, pos, T}
use Rattle.std.specs.Float.{binary64}
use Rattle.std.specs.Float.Ieee.{fits}
use Rattle.refusals.specs.Outcome.{answer}
use Rattle.rounding.specs.Value.{Val, InUnit, L}
use Rattle.calendar.specs.Calendar.{date_of}
use Rattle.julian.specs.declared.JulianDate.{JulianDate}
use Rattle.leap_table.specs.rows.Table.{Row, fixed, starts, reached, month_number}
use Rattle.leap_table.specs.offsets.Offset.{row_at}
use Rattle.scales.specs.laws.Meaning.{Meaning, Means}
use Rattle.utc_scales.specs.UtcTai.{utc_to_tai}

-- the row of a day, by its number: the last that has begun in the day's month
unfoldable pub row_on : ℕ → Row
row_on n = row_at (reached (starts fixed) (month_number (date_of (pos n)).year (date_of (pos n)).month))

-- the row's line through all days: TAI = UTC + (seconds + (UTC - 2400000.5 - start) * rate) / 86400, in units of 10^-10 s, of which 864 * 10 ^ 12 are
-- a day; all of it twice, since 2400000.5 is a half
abbrev pub line : Row → Meaning
line r = record {
  num = 2 * (864000000000000 + r.rate);
  den = 2 * 864000000000000;
  more = 2 * (r.units * 1000) * L;
  less = (2 * r.start + 4800001) * r.rate * L;
}

-- a day that ends without a step: at its end its row says what the next day's row says then, day n being Modified Julian Date n - 2400001
pub record NoStep (n : ℕ) : Type 0 where
  pub same : (row_on (suc n)).units * 1000 + (n - 2400000) * (row_on (suc n)).rate + (row_on n).start * (row_on n).rate
      ≡ (row_on n).units * 1000 + (n - 2400000) * (row_on n).rate + (row_on (suc n)).start * (row_on (suc n)).rate

-- jd1 is midnight of day n, from 1961-01-01 to 1971-12-30, and 0 ≤ jd2 < 1. (1971-12-31 ends with a step.)
pub record DriftDate (n : ℕ) (d : JulianDate) : Type 0 where
  pub first_held : T (fits binary64 d.jd1)
  pub second_held : T (fits binary64 d.jd2)
  pub midnight : Val d.jd1 (2 * n - 1) 0 2
  pub inside : InUnit d.jd2
  pub low : 2437301 ≤ n
  pub high : n ≤ 2441316

-- how far the answer may be off the line, in picoseconds
abbrev pub drift_ps : ℕ
drift_ps = 77

-- UTC to TAI answers, and the answer is the line's to ps picoseconds
pub record OnLine (ps n : ℕ) (d : JulianDate) : Type 0 where
  pub date : JulianDate
  pub is : utc_to_tai fixed d ≡ answer date
  pub means : Means ps (line (row_on n)) d date
