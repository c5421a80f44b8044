-- `parsing::scan::fraction` meets its contract. Assumes nothing.
use mathlib.Core.Path.{sym, ◌∙◌}
use Rattle.parsing.proofs.scan.Runs.{fraction-none, fraction-empty, fraction-some}
use Rattle.parsing.proofs.scan.fraction.Goals as goal

pub returns-then-byte_at-ne46 : goal.returns-then-byte_at-ne46
returns-then-byte_at-ne46 c =
    fraction-none c.args.second c.args.at c.args.text.now c.requires.0 (λ e. c.if-byte_at-ne46.true (c.byte_at.ensures ∙ e))

pub returns-then-run-eq0 : goal.returns-then-run-eq0
returns-then-run-eq0 c =
    fraction-empty c.args.second c.args.at c.args.text.now (sym c.byte_at.ensures ∙ c.if-byte_at-ne46.false) _ c.requires.0 c.digits_run-run.ensures
    c.if-run-eq0.true

pub returns : goal.returns
returns c =
    fraction-some c.args.second c.args.at c.args.text.now (sym c.byte_at.ensures ∙ c.if-byte_at-ne46.false) _ c.digits_run-run.ensures c.if-run-eq0.false
