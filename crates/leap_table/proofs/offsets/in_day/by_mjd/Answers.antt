-- `leap_table::offsets::in_day::by_mjd` meets its contract: each branch is a case of the offset. Assumes nothing.
use Rattle.std.proofs.Common.{sym, ap, ◌∙◌, arith}
use Rattle.refusals.specs.Outcome.{answer, outcome}
use Rattle.refusals.proofs.Handed.{handed_on}
use Rattle.calendar.proofs.Signs.{to-unsigned, read_back}
use Rattle.calendar.proofs.Accepted.{date-accepted}
use Rattle.calendar.proofs.Mjd.{mjd-valid}
use Rattle.leap_table.specs.rows.Table.{starts, reached}
use Rattle.leap_table.specs.rows.Announced.{rows_of}
use Rattle.leap_table.specs.offsets.Rule.{rule_by, rule_of, rule_at, offset_by_rule}
use Rattle.leap_table.proofs.offsets.Month.{read-month}
use Rattle.leap_table.proofs.offsets.Mjd.{mjd-small, read, float_fits, mjd-is, no_mjd}
use Rattle.leap_table.proofs.offsets.At.{at_month}
use Rattle.leap_table.proofs.offsets.Offsets.{date_refused, offset-given}
use Rattle.leap_table.proofs.rows.ByParts.{few-rows}
use Rattle.leap_table.proofs.offsets.Rules.{told, not_told}
use Rattle.leap_table.proofs.offsets.in_day.by_mjd.Goals as goal

pub returns-in_err-n : goal.returns-in_err-n
unfolding offset_by_rule
returns-in_err-n c =
    handed_on _ _ c.from_residual.ensures.1
    ∙ not_told _ _ _
    (sym
    (date_refused _ _ _ _ _ c.requires _
    (no_mjd _ _ _ c.ranges.year c.ranges.month c.ranges.day c.modified_julian_day.result c.modified_julian_day.ensures _ c.in_err-n.was)))

pub overflow_cast-month : goal.overflow_cast-month
overflow_cast-month c =
    let mjd = mjd-is _ _ _ c.ranges.year c.ranges.month c.ranges.day c.modified_julian_day.result c.modified_julian_day.ensures _ c.in_ok-n.was in
    to-unsigned c.args.month c.ranges.month (date-accepted _ _ _ (mjd-valid _ _ _ _ mjd)).m-sign

pub month_number-requires : goal.month_number-requires
month_number-requires c =
    let mjd = mjd-is _ _ _ c.ranges.year c.ranges.month c.ranges.day c.modified_julian_day.result c.modified_julian_day.ensures _ c.in_ok-n.was in
    let ok = date-accepted _ _ _ (mjd-valid _ _ _ _ mjd) in
    let m = read_back c.args.month c.ranges.month in
    (omega (arith, m, ok.m_low), omega (arith, m, ok.m_high))

pub int_to_float-n : goal.int_to_float-n
int_to_float-n c =
    let mjd = mjd-is _ _ _ c.ranges.year c.ranges.month c.ranges.day c.modified_julian_day.result c.modified_julian_day.ensures _ c.in_ok-n.was in
    float_fits c.in_ok-n.n (mjd-small _ _ _ _ c.ranges.year mjd)

pub rule_by-requires : goal.rule_by-requires
rule_by-requires c = few-rows c.args.table.now _ c.table_rows_reached-rows.ensures.1

pub returns : goal.returns
unfolding outcome offset_by_rule rule_of rule_at
returns c =
    let rows = rows_of c.args.table.now in
    let mjd = mjd-is _ _ _ c.ranges.year c.ranges.month c.ranges.day c.modified_julian_day.result c.modified_julian_day.ensures _ c.in_ok-n.was in
    let e = c.table_rows_reached-rows.ensures.0
    ∙ ap (reached (starts rows)) (c.month_number.ensures ∙ read-month _ _ c.ranges.year c.ranges.month) in
    let h = c.table_rows_reached-rows.ensures.1 in
    told _ _ _ _
    (ap answer
    (c.offset_by.ensures
    ∙ at_month _ _ _ _ _ _ e (read c.in_ok-n.n (mjd-small _ _ _ _ c.ranges.year mjd)))
    ∙ sym (offset-given _ _ _ _ _ c.requires _ mjd))
    (c.rule_by.ensures c.args.table.now h ∙ ap (rule_by rows) e)
