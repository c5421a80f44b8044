-- When the two ways of a GPS week answer, and when they refuse with which number: 18 alone for a week; 9, then 6, then 18 for a date. Written from document 02,
-- item 7. Assumes nothing.
use Rattle.std.specs.Prelude.{◌≡◌, ℕ, ◌+◌, ◌*◌, ◌%◌, ◌<◌, ◌≤◌, true, false, ◌⊎◌, pos, negsuc}
use Rattle.refusals.specs.Outcome.{Outcome, answer, refusal}
use Rattle.julian.specs.day_number.DayNumber.{accepted, day_of}
use Rattle.julian.specs.declared.JulianDate.{JulianDate}
use Rattle.julian.specs.JulianDate.{julian}
use Rattle.julian.specs.Finite.{finite_parts}
use Rattle.scales.specs.declared.gps_weeks.WeekTime.{WeekTime}
use Rattle.scales.specs.gps_weeks.WeekDate.{week_midnight, part_of_day, day_in}
use Rattle.scales.specs.gps_weeks.WeekOf.{day_millis}

-- a week's date: answered exactly where both fields are within their limits, and else 18
pub data FromWeek (week ms : ℕ) : Outcome JulianDate → Type 0 where
  dated : week ≤ 100000 → ms < 604800000 → FromWeek week ms (answer (julian (week_midnight (day_in week ms)) (part_of_day (ms % 86400000))))
  over : (100000 < week) ⊎ (604800000 ≤ ms) → FromWeek week ms (refusal 18)

-- the rounded count, in milliseconds since midnight of day 0: the first week begins at 211182768000000 and the last ends at 271663372800000
pub data AtCount (count : ℕ) : Outcome WeekTime → Type 0 where
  within : (t : WeekTime) → 211182768000000 ≤ count → count < 271663372800000 → t.week ≤ 100000 → t.millis < 604800000 → AtCount count (answer t)
  outside : (count < 211182768000000) ⊎ (271663372800000 ≤ count) → AtCount count (refusal 18)

-- 9 exactly where a part is not finite, else 6 exactly where the rounded sum is out of document 01's range, else 18 exactly where the rounded count is before
-- the first week or past the last; a day below 0 is before the first
pub data ToWeek (d : JulianDate) : Outcome WeekTime → Type 0 where
  not_finite : finite_parts d ≡ false → ToWeek d (refusal 9)
  no_day : finite_parts d ≡ true → accepted d.jd1 d.jd2 ≡ false → ToWeek d (refusal 6)
  before_day_0 : (n : ℕ) → finite_parts d ≡ true → accepted d.jd1 d.jd2 ≡ true → (day_of d.jd1 d.jd2).day ≡ negsuc n → ToWeek d (refusal 18)
  counted : (n : ℕ) (o : Outcome WeekTime) → finite_parts d ≡ true → accepted d.jd1 d.jd2 ≡ true → (day_of d.jd1 d.jd2).day ≡ pos n
      → AtCount (n * 86400000 + day_millis (day_of d.jd1 d.jd2).fraction) o → ToWeek d o
