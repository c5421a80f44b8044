-- `parsing::scan::digits_run` meets its contract: a digit more is read. Assumes nothing.
use Prim.Native.Nat.{◌+◌, ◌-◌}
use native.Mathlib.Omega.{arith}
use mathlib.Core.Path.{◌≡◌, sym, ◌∙◌}
use Rattle.parsing.proofs.scan.Runs.{small-more, run_on}
use Rattle.parsing.proofs.scan.digits_run.Goals as goal

pub loop-i-preserved : goal.loop-i-preserved
loop-i-preserved c =
    let l = c.loop-i in
    let e : l.i + 1 - c.args.at ≡ l.i - c.args.at + 1 = omega arith in (
      rw (e, c.joined-whole.ensures) (small-more _ _ _ l.invariant.0),
      run_on c.args.second c.args.at c.args.text.now l.whole l.i (omega arith) c.joined-whole.result c.loop-i-test.true
          (sym c.digit.ensures ∙ c.if-not-digit.false) c.joined-whole.ensures l.invariant.1,
    )
