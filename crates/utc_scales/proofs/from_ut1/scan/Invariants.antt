-- What the scan keeps: the scan from day i on gives what the whole of it does. Assumes nothing.
use Rattle.std.proofs.Common.{◌≡◌, ◌-◌}
use Rattle.leap_table.specs.rows.Announced.{rows_of}
use Rattle.utc_scales.specs.from_ut1.KnownMonths.{RightMonth}
use Rattle.utc_scales.specs.from_ut1.Ut1Utc.{scan}
use Rattle.utc_scales.proofs.from_ut1.scan.Given as goal

abbrev pub invariant-loop-i : goal.invariant-loop-i
invariant-loop-i l =
    (scan (rows_of l.table) l.big l.small l.dut1 (4 - l.i) l.i l.before.seconds
    ≡ scan (rows_of l.table) l.big l.small l.dut1 4 0 l.initial.before.seconds)
    × RightMonth (rows_of l.table) l.before
