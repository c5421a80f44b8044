-- UT1 to UTC about a leap second that is inserted. Written from SOFA's Time Scale and Calendar Tools (iauUt1utc): with the DUT1 before the leap second, UT1 is
-- UTC and DUT1 until the day begins that ends with it; on that day of 86,401 s, which UTC spreads over one day, UT1 runs ahead by the part of the leap second
-- that has passed; and from its end on by all of it. Assumes nothing.
use Rattle.std.specs.Prelude.{◌≡◌, List, ℕ, suc, ◌+◌, ◌*◌, ◌≤◌, ◌<◌, pos, negsuc, Float}
use Rattle.refusals.specs.Outcome.{answer}
use Rattle.floats.specs.Whole.{one}
use Rattle.rounding.specs.Value.{Val, L}
use Rattle.julian.specs.declared.JulianDate.{JulianDate}
use Rattle.julian.specs.JulianDate.{julian}
use Rattle.julian.specs.Worth.{Worth}
use Rattle.leap_table.specs.rows.Table.{Row}
use Rattle.scales.specs.laws.Meaning.{Meaning, Means, back, later_by}
use Rattle.utc_scales.specs.from_ut1.Ut1Utc.{before_step, ut1_to_utc}
use Rattle.utc_scales.specs.round_trip.UtcDays.{H}
use Rattle.utc_scales.specs.ut1_laws.Back.{FoundWith}

-- of the days that are looked up, from the day before the date on, the first on which TAI-UTC is another is the day after day k, at most three days after the
-- date, and it is one second more there; day k is before 2038-04-22
pub record LeapFound (rows : List Row) (k : ℕ) (d : JulianDate) : Type 0 where
  pub D : ℕ
  pub i : ℕ
  pub most : i ≤ 3
  pub before : FoundWith rows D d (negsuc 0)
  pub same : (j : ℕ) → j < i → FoundWith rows D d (pos j)
  pub after : FoundWith rows (suc D) d (pos i)
  pub day : after.n ≡ suc k
  pub until : k ≤ 2465533

-- UT1 from UTC on day k, of 86,401 s, by a DUT1 of (x - y) / L seconds before the leap second
abbrev pub on_leap_day : ℕ → ℕ → ℕ → Meaning
on_leap_day k x y = record { num = 86401; den = 86400; more = x + H; less = y + k * L }

-- how far the answer may be off, in picoseconds: 9.6 are one rounding of jd2, and 7.3 those of the days since the start of day k
abbrev pub near_ps : ℕ
near_ps = 17

-- UT1 to UTC answers, jd1 is kept, and with the DUT1 before the leap second, (x - y) / L seconds, which is DUT1 itself or, where that is not below 0, DUT1 less
-- the leap second: the answer is UT1 less that before day k begins by UT1, the relation of day k on it, and UT1 less that and the leap second after it
pub record RightUtcNear (rows : List Row) (ps k : ℕ) (d : JulianDate) (dut1 : Float) : Type 0 where
  pub x : ℕ
  pub y : ℕ
  pub offset : Val (before_step one dut1) x y L
  pub jd2 : Float
  pub is : ut1_to_utc rows d dut1 ≡ answer (julian d.jd1 jd2)
  pub p : ℕ
  pub n : ℕ
  pub worth : Worth d p n L
  pub early : 86400 * (p + H) + y ≤ 86400 * (n + k * L) + x → Means ps (back (later_by x y)) d (julian d.jd1 jd2)
  pub on-day : 86400 * (n + k * L) + x ≤ 86400 * (p + H) + y → 86400 * (p + H) + y ≤ 86400 * (n + k * L) + x + 86401 * L
      → Means ps (back (on_leap_day k x y)) d (julian d.jd1 jd2)
  pub late : 86400 * (n + k * L) + x + 86401 * L ≤ 86400 * (p + H) + y → Means ps (back (later_by (x + L) y)) d (julian d.jd1 jd2)
