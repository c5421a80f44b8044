-- A day that has been looked up is known rightly: its offsets and its rule are those of the table's rows. What the code of TAI to UTC carries from round to
-- round, and that of UTC to UT1 from TAI on, so that they look a day up once. This project's own: the Rust looks the day up anew. No public function cites it.
-- Assumes nothing.
use Rattle.std.specs.Prelude.{◌≡◌, List, Float, Option, None, Some, Result, Ok, Err}
use Rattle.refusals.specs.declared.Refusal.{Refusal}
use Rattle.refusals.specs.Outcome.{Outcome, answer}
use Rattle.calendar.specs.declared.CalendarDate.{CalendarDate}
use Rattle.calendar.specs.Gregorian.{gregorian_date}
use Rattle.leap_table.specs.declared.offsets.DayOffsets.{DayOffsets}
use Rattle.leap_table.specs.declared.offsets.Rule.{Rule}
use Rattle.leap_table.specs.offsets.Rule.{with_rule}
use Rattle.leap_table.specs.rows.Table.{Row}
use Rattle.utc_scales.specs.declared.table.KnownDay.{KnownDay}
use Rattle.utc_scales.specs.declared.utc_tai.KnownPart.{KnownPart}
use Rattle.utc_scales.specs.days.Dates.{offsets_of, offset_of_date}
use Rattle.utc_scales.specs.days.DateRule.{rule_on, rule_of_date}

-- the offsets of a date with the rule of the day
unfoldable pub read_on : List Row → CalendarDate → Outcome (DayOffsets × Rule)
read_on rows t = with_rule (offsets_of rows t) (rule_on rows t)

unfoldable pub RightDay : List Row → KnownDay → Type 0
RightDay rows k = read_on rows (gregorian_date k.day) ≡ answer (k.offsets, k.rule)

unfoldable pub RightKnown : List Row → Option KnownDay → Type 0
RightKnown rows None = Unit
RightKnown rows (Some k) = RightDay rows k

unfoldable pub RightPart : List Row → Result KnownPart Refusal → Type 0
RightPart rows (Ok p) = RightDay rows p.known
RightPart rows (Err r) = Unit

-- x and the rule are TAI-UTC at 0h and the rule of the day of the Julian date (jd1, jd2)
pub record SameDay (rows : List Row) (jd1 jd2 x : Float) (rule : Rule) : Type 0 where
  pub offset : offset_of_date rows jd1 jd2 ≡ answer x
  pub by_rule : rule_of_date rows jd1 jd2 ≡ answer rule

-- the day is known rightly, and it is the day of the Julian date (jd1, jd2)
pub record KnownOfDate (rows : List Row) (jd1 jd2 : Float) (k : KnownDay) : Type 0 where
  pub right : RightDay rows k
  pub same : SameDay rows jd1 jd2 k.offsets.at_0h k.rule

-- the same of the day that an answer carries
unfoldable pub DayOfDate : List Row → Float → Float → Result KnownPart Refusal → Type 0
DayOfDate rows jd1 jd2 (Ok p) = KnownOfDate rows jd1 jd2 p.known
DayOfDate rows jd1 jd2 (Err r) = Unit
