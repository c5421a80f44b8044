-- `leap_table::offsets::whole_day::by_next_day` meets its contract: each branch is a case of the look-ups at 0h, at 12h and on the next day.
-- Assumes nothing.
use Rattle.std.proofs.Common.{◌≡◌, ℕ, ◌<◌, List, ℤ, nat_abs, sym, ap, ◌∙◌, subst, arith, to_z-of_z, w32, rules}
use Rattle.refusals.specs.Outcome.{answer, outcome}
use Rattle.refusals.proofs.Handed.{handed_on}
use Rattle.calendar.proofs.Signs.{to-unsigned, read_back}
use Rattle.calendar.proofs.Accepted.{date-accepted}
use Rattle.calendar.proofs.Mjd.{mjd-valid}
use Rattle.calendar.proofs.NextDates.{next-in-calendar}
use Rattle.leap_table.specs.rows.Table.{Row, month_number}
use Rattle.leap_table.specs.rows.Announced.{rows_of}
use Rattle.leap_table.specs.offsets.Leap.{offsets_of_day}
use Rattle.leap_table.specs.offsets.Rule.{rule_of, rule_at, day_by_rule}
use Rattle.leap_table.proofs.offsets.Month.{read-month}
use Rattle.leap_table.proofs.offsets.Mjd.{mjd-small, read, mjd-is, no_mjd, next-date, no_next_date}
use Rattle.leap_table.proofs.offsets.Days.{day-refused, no_next_day, day-given}
use Rattle.leap_table.proofs.offsets.Rules.{told, not_told}
use Rattle.leap_table.proofs.offsets.whole_day.by_next_day.Goals as goal

pub returns-in_err-n : goal.returns-in_err-n
unfolding day_by_rule
returns-in_err-n c =
    handed_on _ _ c.from_residual.ensures.1
    ∙ not_told _ _ _ (sym (day-refused _ _ _ _ _
    (no_mjd _ _ _ c.ranges.year c.ranges.month c.ranges.day c.modified_julian_day.result c.modified_julian_day.ensures _ c.in_err-n.was)))

pub returns-in_err-t : goal.returns-in_err-t
unfolding day_by_rule
returns-in_err-t c =
    let mjd = mjd-is _ _ _ c.ranges.year c.ranges.month c.ranges.day c.modified_julian_day.result c.modified_julian_day.ensures _ c.in_ok-n.was in
    handed_on _ _ c.from_residual-in_err-t.ensures.1
    ∙ not_told _ _ _ (sym (no_next_day _ _ _ _ _ mjd _
    (no_next_date _ _ _ c.ranges.year c.ranges.month c.ranges.day c.next_calendar_day.result c.next_calendar_day.ensures _ c.in_err-t.was)))

pub overflow_cast-month : goal.overflow_cast-month
overflow_cast-month c =
    let mjd = mjd-is _ _ _ c.ranges.year c.ranges.month c.ranges.day c.modified_julian_day.result c.modified_julian_day.ensures _ c.in_ok-n.was in
    to-unsigned c.args.month c.ranges.month (date-accepted _ _ _ (mjd-valid _ _ _ _ mjd)).m-sign

pub month_number-requires : goal.month_number-requires
month_number-requires c =
    let mjd = mjd-is _ _ _ c.ranges.year c.ranges.month c.ranges.day c.modified_julian_day.result c.modified_julian_day.ensures _ c.in_ok-n.was in
    let ok = date-accepted _ _ _ (mjd-valid _ _ _ _ mjd) in
    let m = read_back c.args.month c.ranges.month in
    (omega (arith, m, ok.m_low), omega (arith, m, ok.m_high))

pub month_number-requires-2 : goal.month_number-requires-2
month_number-requires-2 c =
    let next = next-date _ _ _ c.ranges.year c.ranges.month c.ranges.day c.next_calendar_day.result c.next_calendar_day.ensures _ c.in_ok-t.was in
    let g = next-in-calendar _ _ _ _ next in
    (g.m_low, g.m_high)

pub offsets_of_day-requires : goal.offsets_of_day-requires
offsets_of_day-requires c =
    let mjd = mjd-is _ _ _ c.ranges.year c.ranges.month c.ranges.day c.modified_julian_day.result c.modified_julian_day.ensures _ c.in_ok-n.was in
    let small = mjd-small _ _ _ _ c.ranges.year mjd in
    subst (λ (x : ℤ). nat_abs x < 1000000000000) (sym (read c.in_ok-n.n small)) small

same-day : (rows : List Row) (m m' n n' : ℕ) (z z' : ℤ) → m ≡ m' → n ≡ n' → z ≡ z' → offsets_of_day rows m n z ≡ offsets_of_day rows m' n' z'
same-day rows m m' n n' z z' p q r = λ i. offsets_of_day rows (p i) (q i) (r i)

pub returns : goal.returns
unfolding outcome day_by_rule rule_at
returns c =
    let rows = rows_of c.args.table.now in
    let mjd = mjd-is _ _ _ c.ranges.year c.ranges.month c.ranges.day c.modified_julian_day.result c.modified_julian_day.ensures _ c.in_ok-n.was in
    let next = next-date _ _ _ c.ranges.year c.ranges.month c.ranges.day c.next_calendar_day.result c.next_calendar_day.ensures _ c.in_ok-t.was in
    let t = c.in_ok-t.t in
    let day_month = c.month_number.ensures ∙ read-month _ _ c.ranges.year c.ranges.month in
    let f = to_z-of_z {w = w32} {z = t.year} (search rules) in
    let next_month = c.month_number-2.ensures ∙ ap (λ (y : ℤ). month_number y t.month) f in
    ap answer c.offsets_of_day.ensures
    ∙ told _ _ _ _
    (ap answer (same-day _ _ _ _ _ _ _ day_month next_month (read c.in_ok-n.n (mjd-small _ _ _ _ c.ranges.year mjd)))
    ∙ sym (day-given _ _ _ _ _ mjd _ next))
    (ap (rule_of rows) day_month)
