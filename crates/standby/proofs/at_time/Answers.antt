-- `standby::at_time` meets its contract: the sum of the day, the time and TAI-UTC. Assumes nothing.
use mathlib.Core.Path.{◌≡◌, ap, sym, subst, ◌∙◌}
use mathlib.Core.Bool.{Bool, true}
use Prim.Native.Nat.{ℕ, ◌+◌, ◌*◌, ◌≤◌}
use native.Mathlib.Omega.{arith}
use lib.IntN.{ℤ, pos}
use mir.Syntax.{w32}
use mir.Facts.{to_z-of_z}
use Rattle.refusals.specs.Refusal.{refusal_number}
use Rattle.leap_table.specs.rows.Table.{most_seconds}
use Rattle.refusals.specs.Outcome.{answer, seen}
use Rattle.calendar.specs.declared.CalendarDate.{CalendarDate}
use Rattle.calendar.proofs.Accepted.{date-accepted}
use Rattle.calendar.proofs.NextDates.{next-is}
use Rattle.leap_table.specs.declared.rows.AnnouncedRows.{AnnouncedRows}
use Rattle.leap_table.specs.rows.Announced.{rows_of}
use Rattle.leap_table.specs.offsets.WholeSeconds.{whole_seconds}
use Rattle.standby.specs.declared.UtcTime.{UtcTime}
use Rattle.standby.specs.declared.Instant.{Instant}
use Rattle.standby.specs.Times.{in_its_day, last_minute, offset_on_date, tai_ms}
use Rattle.standby.specs.Asked.{Dated, SmallInstant}
use Rattle.standby.proofs.Times.{same-instant, never-at, few_millis, offset-small, time-fits, time-refused}
use Rattle.standby.proofs.at_time.Goals as goal

offset-limit : (table : AnnouncedRows) (t : UtcTime) (day : ℕ) (next : CalendarDate) → Dated table t day next → offset_on_date (rows_of table) t ≤ most_seconds
offset-limit table t day next d =
    let a = date-accepted t.year (pos t.month) (pos t.day) (next-is t.year (pos t.month) (pos t.day) next d.has_next).0 in
    (offset-small table (rows_of table) d.taken t.year t.month d.from_1972 a.m_low a.m_high).1

-- TAI-UTC, as it was looked up
module _ (table : AnnouncedRows) (t : UtcTime) (o : ℕ) (y : ℤ) (e : o ≡ whole_seconds (rows_of table) y t.month) (r : y ≡ t.year) where
  offset-is : o ≡ offset_on_date (rows_of table) t
  offset-is = e ∙ ap (λ (x : ℤ). whole_seconds (rows_of table) x t.month) r

  offset-few : (day : ℕ) (next : CalendarDate) → Dated table t day next → o ≤ most_seconds
  offset-few day next d = omega (arith, offset-is, offset-limit table t day next d)

-- the test of the time
tested : (table : AnnouncedRows) (t : UtcTime) (next : CalendarDate) (l : ℕ) (b v : Bool) → l ≡ last_minute (rows_of table) t next → b ≡ in_its_day t l
    → b ≡ v → in_its_day t (last_minute (rows_of table) t next) ≡ v
tested table t next l b v e f p = ap (in_its_day t) (sym e) ∙ sym f ∙ p

pub last_minute-last-requires : goal.last_minute-last-requires
last_minute-last-requires c =
    let r = to_z-of_z {w = w32} {z = c.args.t.year} (record { sfits = c.struct_told-1.given.0.1 }) in (
      offset-is c.args.table.now c.args.t _ _ c.whole_seconds_by_rows-offset.ensures.0 r,
      omega (arith, offset-few c.args.table.now c.args.t _ _ c.whole_seconds_by_rows-offset.ensures.0 r c.args.day c.args.next c.requires),
    )

pub returns-then-in_its_day : goal.returns-then-in_its_day
unfolding seen tai_ms
returns-then-in_its_day c =
    let a = c.args in
    let r = to_z-of_z {w = w32} {z = c.args.t.year} (record { sfits = c.struct_told-1.given.0.1 }) in
    let e = tested a.table.now a.t a.next _ _ true c.last_minute-last.ensures c.in_its_day.ensures c.if-in_its_day.true in
    let o = offset-is a.table.now a.t _ _ c.whole_seconds_by_rows-offset.ensures.0 r in
    let few = offset-few a.table.now a.t _ _ c.whole_seconds_by_rows-offset.ensures.0 r a.day a.next c.requires in
    record {
      says = (λ j. answer (1000 * (86400 * (c.requires.day_is j) + (c.time_seconds.ensures.0 j) + (o j)) + a.t.millis))
          ∙ time-fits (rows_of a.table.now) a.t a.next e;
      small = λ x p. subst (λ (y : Instant). SmallInstant y) (same-instant p)
          (record {
            few_seconds = omega (arith, c.requires.few_days, c.time_seconds.ensures.1, few);
            few_millis = few_millis a.t (last_minute (rows_of a.table.now) a.t a.next) e;
          });
    }

pub returns-else-in_its_day : goal.returns-else-in_its_day
unfolding seen refusal_number
returns-else-in_its_day c =
    let a = c.args in
    record {
      says = time-refused (rows_of a.table.now) a.t a.next
          (tested a.table.now a.t a.next _ _ _ c.last_minute-last.ensures c.in_its_day.ensures c.if-in_its_day.false);
      small = λ x p. never-at _ x p;
    }
