-- A day in hand: what UTC to TAI computes of one day alone, and what it answers by it. Written from UtcTai: `stretch_day_fraction` and `tai_from_midnight` with
-- the operations that read the day's offsets alone taken out, each as it stands there. This project's own: the Rust computes them anew for each date. Assumes
-- nothing.
use Rattle.std.specs.Prelude.{◌≡◌, ℕ, true, List, pos, ◌-ℤ◌, T, Float, Option, None, Some}
use Rattle.std.specs.Float.{fin, binary64}
use Rattle.std.specs.Float.Ieee.{fits, add, sub, mul, div, lt, le, of_int}
use Rattle.refusals.specs.Outcome.{answer}
use Rattle.constants.specs.Constants.{seconds_per_day, mjd_zero_point}
use Rattle.floats.specs.Whole.{nought, one}
use Rattle.calendar.specs.Gregorian.{gregorian_date}
use Rattle.julian.specs.declared.JulianDate.{JulianDate}
use Rattle.julian.specs.JulianDate.{julian}
use Rattle.julian.specs.day_number.DayNumber.{accepted}
use Rattle.julian.specs.day_number.Answer.{day_number_and_fraction}
use Rattle.julian.specs.day_number.Midnights.{day_from, Midnight}
use Rattle.leap_table.specs.declared.offsets.DayOffsets.{DayOffsets}
use Rattle.leap_table.specs.rows.Table.{Row}
use Rattle.leap_table.specs.offsets.Leap.{drift_rate, leap_amount}
use Rattle.runs.specs.declared.by_day.DayInHand.{DayInHand}
use Rattle.utc_scales.specs.days.Dates.{offsets_of}
use Rattle.utc_scales.specs.days.LargerPart.{first_is_kept}
use Rattle.utc_scales.specs.UtcTai.{utc_to_tai, refined, tai_to_utc}
use Rattle.runs.specs.ways.Ways.{way_of}

-- what is kept of a day by its offsets
unfoldable pub hand_of : Float → Float → DayOffsets → DayInHand
hand_of midnight mjd o = record {
  midnight = midnight;
  top = one;
  zero = add binary64 (sub binary64 mjd_zero_point midnight) mjd;
  leap = div binary64 (add binary64 seconds_per_day (leap_amount o)) seconds_per_day;
  drift = div binary64 (add binary64 seconds_per_day (drift_rate o)) seconds_per_day;
  start = div binary64 o.at_0h seconds_per_day;
}

unfoldable pub serves_none : Float → Float → DayInHand
serves_none midnight top = record { midnight = midnight; top = top; zero = nought; leap = nought; drift = nought; start = nought }

-- the day that begins at h's midnight, by the rows of a table
pub record HeldDay (rows : List Row) (h : DayInHand) : Type 0 where
  pub offsets : DayOffsets
  pub begins : Midnight h.midnight
  pub read : offsets_of rows (gregorian_date (day_from h.midnight)) ≡ answer offsets
  pub same : h ≡ hand_of h.midnight (of_int binary64 (day_from h.midnight -ℤ pos 2400001)) offsets

-- where it serves, it is the day of its midnight by these rows
unfoldable pub RightHand : List Row → DayInHand → Type 0
RightHand rows h = lt nought h.top ≡ true → HeldDay rows h

-- the smaller part in TAI, from the fraction of the day that has passed
unfoldable pub tai_part : DayInHand → Float → Float
tai_part h f = add binary64 h.zero (add binary64 (mul binary64 (mul binary64 f h.leap) h.drift) h.start)

-- a fraction that is found is that of the day of the midnight x
unfoldable pub InDayOf : Float → Float → Option Float → Type 0
InDayOf x y (Some f) = day_number_and_fraction x y ≡ answer (record { day = day_from x; fraction = f })
InDayOf x y None = Unit

-- a date that is found is UTC to TAI of the date, whose larger part is jd1
unfoldable pub RightTaiByHand : List Row → JulianDate → Option JulianDate → Type 0
RightTaiByHand rows d (Some t) = (utc_to_tai rows d ≡ answer t) × (first_is_kept d ≡ true)
RightTaiByHand rows d None = Unit

-- what `fraction_in_day` finds, for every midnight
unfoldable pub FindsFraction : Float → Option Float → Type 0
FindsFraction y r = (x : Float) → T (fits binary64 x) → Midnight x → accepted x y ≡ true → InDayOf x y r

-- -1.0, the midnight of no day
abbrev pub minus_one : Float
minus_one = fin true 1 (pos 0)

-- a date that is found by a day that begins at jd1, where jd2 is from 0.0 to below 1.0
unfoldable pub FindsTaiOf : JulianDate → DayInHand → Option JulianDate → Type 0
FindsTaiOf d h r = (rows : List Row) → HeldDay rows h → d.jd1 ≡ h.midnight → le nought d.jd2 ≡ true → lt d.jd2 one ≡ true → RightTaiByHand rows d r

-- a date that is found by a day in hand, whichever table it is right for
unfoldable pub FindsTai : JulianDate → DayInHand → Option JulianDate → Type 0
FindsTai d h r = (rows : List Row) → RightHand rows h → RightTaiByHand rows d r

-- a part that a round finds is that of the round of TAI to UTC
unfoldable pub RightRound : List Row → Float → Float → Float → Option Float → Type 0
RightRound rows big small guess (Some x) = (refined rows big small guess ≡ answer x) × (first_is_kept (julian big guess) ≡ true)
RightRound rows big small guess None = Unit

unfoldable pub FindsRound : Float → Float → Float → DayInHand → Option Float → Type 0
FindsRound big small guess h r = (rows : List Row) → RightHand rows h → RightRound rows big small guess r

-- a date that is found is TAI to UTC of the date
unfoldable pub RightUtcByHand : List Row → JulianDate → Option JulianDate → Type 0
RightUtcByHand rows d (Some u) = tai_to_utc rows d ≡ answer u
RightUtcByHand rows d None = Unit

unfoldable pub FindsUtc : JulianDate → DayInHand → Option JulianDate → Type 0
FindsUtc d h r = (rows : List Row) → RightHand rows h → RightUtcByHand rows d r

-- a date that is found is that of the way from one scale to another
unfoldable pub RightWay : List Row → ℕ → ℕ → JulianDate → Option JulianDate → Type 0
RightWay rows from to d (Some t) = way_of rows from to d ≡ answer t
RightWay rows from to d None = Unit

unfoldable pub FindsWay : ℕ → ℕ → JulianDate → DayInHand → Option JulianDate → Type 0
FindsWay from to d h r = (rows : List Row) → RightHand rows h → RightWay rows from to d r
