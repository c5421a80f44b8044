-- Both tests are those of the rows before place i, `second` has the seconds of the row before it, and while the rows rise `month` is its month.
use Rattle.std.proofs.Common.{◌≡◌, ◌<◌, true, pos}
use Rattle.leap_table.specs.rows.Table.{starts, rising}
use Rattle.leap_table.specs.rows.Announced.{rows_to, by_seconds}
use Rattle.leap_table.proofs.rows.Tables.{month_before, seconds_before}
use Rattle.leap_table.proofs.rows.announced.tests_of.Given as goal

abbrev pub invariant-loop-i : goal.invariant-loop-i
invariant-loop-i l = record {
  small : l.second < 2147483648;
  second_is : l.second ≡ seconds_before l.table l.i;
  steps_are : l.steps ≡ by_seconds (rows_to l.table l.i);
  rises_are : l.rises ≡ rising (starts (rows_to l.table l.i));
  month_is : l.rises ≡ true → l.month ≡ pos (month_before l.table l.i);
}
