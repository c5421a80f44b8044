-- `leap_lists::lines::behind_blanks` meets its contract: blank by blank. Assumes nothing.
use Rattle.std.proofs.Common.{◌≤◌, length, length-drop, sym, ap, ◌∙◌, arith}
use Rattle.std.proofs.lemmas.List.{take_all}
use lib.ListN.{drop_of_length-le}
use Rattle.leap_lists.proofs.lines.Runs.{blank_skipped, blanks-stop, blanks-out}
use Rattle.leap_lists.proofs.lines.behind_blanks.Goals as goal

pub returns-then-not-blank : goal.returns-then-not-blank
returns-then-not-blank c =
    let s = c.args.s.now in
    take_all _ _ (omega (arith, length-drop c.loop-i.i s))
    ∙ blanks-stop c.args.returns s c.loop-i.i c.loop-i-test.true (sym c.blank.ensures ∙ c.if-not-blank.true)
    ∙ c.loop-i.invariant

pub loop-i-preserved : goal.loop-i-preserved
loop-i-preserved c =
    let s = c.args.s.now in
    sym (blank_skipped c.args.returns s c.loop-i.i c.loop-i-test.true (sym c.blank.ensures ∙ c.if-not-blank.false)) ∙ c.loop-i.invariant

pub returns : goal.returns
returns c =
    let s = c.args.s.now in
    let past : length s ≤ c.loop-i.i = omega (arith, c.loop-i-test.false) in
    sym (drop_of_length-le s past) ∙ blanks-out c.args.returns s c.loop-i.i past ∙ c.loop-i.invariant
