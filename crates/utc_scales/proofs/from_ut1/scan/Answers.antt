-- `utc_scales::from_ut1::scan` meets its contract. Assumes nothing.
use mathlib.Core.Path.{refl, sym, ap, subst, ◌∙◌}
use native.Mathlib.Omega.{arith}
use Rattle.std.specs.Prelude.{Ok}
use Rattle.refusals.specs.Outcome.{answer, outcome, seen}
use Rattle.refusals.proofs.Handed.{handed_on}
use Rattle.leap_table.specs.rows.Announced.{rows_of}
use Rattle.utc_scales.specs.declared.from_ut1.DayScan.{DayScan}
use Rattle.utc_scales.specs.from_ut1.KnownMonths.{RightScan}
use Rattle.utc_scales.specs.from_ut1.Ut1Utc.{scanned}
use Rattle.utc_scales.proofs.from_ut1.Steps.{scan-on, scan-ends, scan-refused, scan-done}
use Rattle.utc_scales.proofs.from_ut1.scan.Goals as goal

pub loop-i-init : goal.loop-i-init
loop-i-init c = (refl, c.requires)

pub scan_day-requires : goal.scan_day-requires
scan_day-requires c = c.loop-i.invariant.1

pub returns-in_err-k : goal.returns-in_err-k
unfolding seen
returns-in_err-k c =
    handed_on _ _ c.from_residual.ensures.1
    ∙ sym (scan-refused (rows_of c.args.table.now) _ _ _ _ _ (omega arith) _ (sym c.in_err-k.ensures.0))
    ∙ c.loop-i.invariant.0

pub returns-in-Step : goal.returns-in-Step
unfolding outcome seen scanned
returns-in-Step c =
    sym (scan-ends (rows_of c.args.table.now) _ _ _ _ _ (omega arith) _
    (sym c.in_ok-k.ensures.0 ∙ ap (λ (s : DayScan). answer (scanned s)) c.in-Step.is))
    ∙ c.loop-i.invariant.0

pub loop-i-preserved : goal.loop-i-preserved
unfolding seen scanned RightScan
loop-i-preserved c =
    let rows = rows_of c.args.table.now in (
      sym (scan-on rows _ _ _ _ _ (omega arith) _ (sym c.in_ok-k.ensures.0 ∙ ap (λ (s : DayScan). answer (scanned s)) c.in-NoStep.is))
          ∙ c.loop-i.invariant.0,
      subst (λ (s : DayScan). RightScan rows (Ok s)) c.in-NoStep.is c.in_ok-k.ensures.1,
    )

pub returns : goal.returns
unfolding outcome
returns c = sym (scan-done (rows_of c.args.table.now) _ _ _ _ _ (omega arith)) ∙ c.loop-i.invariant.0
