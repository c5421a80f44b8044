-- `utc_scales::from_ut1::adjust_dut1_for_leap_second` meets its contract. Assumes nothing.
use mathlib.Core.Path.{◌∙◌}
use lib.Ieee.{of_bits, of_int, neg, round}
use Rattle.refusals.proofs.Handed.{stops_seen, seen_goes}
use Rattle.utc_scales.specs.from_ut1.KnownMonths.{RightMonths}
use Rattle.utc_scales.specs.from_ut1.Ut1Utc.{adjust_dut1}
use Rattle.utc_scales.proofs.from_ut1.adjust_dut1_for_leap_second.Goals as goal

pub scan-requires : goal.scan-requires
unfolding RightMonths
scan-requires c = c.in_ok-first.ensures.1

pub returns-in_err-first : goal.returns-in_err-first
unfolding adjust_dut1 of_bits neg of_int round
returns-in_err-first c = stops_seen _ _ _ _ _ c.from_residual.ensures.1 c.in_err-first.ensures.0

pub returns : goal.returns
unfolding adjust_dut1 of_bits neg of_int round
returns c = c.scan.ensures ∙ seen_goes _ _ _ _ c.in_ok-first.ensures.0
