-- `parsing::scan::scan` meets its contract. Assumes nothing.
use native.Mathlib.Omega.{arith}
use mathlib.Core.Path.{sym, ap, ◌∙◌}
use lib.ListN.{drop, length-drop}
use lib.Seq.{drop-drop}
use Rattle.refusals.specs.Outcome.{outcome}
use Rattle.refusals.specs.Refusal.{refusal_number}
use Rattle.parsing.specs.scan.Form.{after_fraction, end_right}
use Rattle.parsing.proofs.scan.Bytes.{outside, within, too_short, not_date, not_time, not_end, whole-form, form-is}
use Rattle.parsing.proofs.scan.scan.Goals as goal
use Rattle.parsing.proofs.scan.scan.Goals.{then-text-at-lt19-via-then-text-at-lt19, then-text-at-lt19-via-else-text-at-lt19+then-not-date_right}
use Rattle.parsing.proofs.scan.scan.Goals.{then-text-at-lt19-via-else-text-at-lt19+else-not-date_right+then-not-time_right}

pub returns-then-text-at-lt19 : goal.returns-then-text-at-lt19
unfolding outcome refusal_number
returns-then-text-at-lt19 c =
    let s = drop c.blanks_end-at.result c.args.text.now in
    outside c.args.utc c.args.text.now s c.blanks_end-at.ensures.1
    (elim c.then-text-at-lt19.branch [
      | then-text-at-lt19-via-then-text-at-lt19 w ↦ too_short c.args.utc s (simp length-drop (omega (arith, w.if-text-at-lt19.true)))
      | then-text-at-lt19-via-else-text-at-lt19+then-not-date_right w ↦ not_date c.args.utc s (sym w.date_right.ensures ∙ w.if-not-date_right.true)
      | then-text-at-lt19-via-else-text-at-lt19+else-not-date_right+then-not-time_right w ↦
          not_time c.args.utc s (sym w.time_right.ensures ∙ w.if-not-time_right.true)
    ])

pub returns-then-not-end_right : goal.returns-then-not-end_right
unfolding outcome refusal_number
returns-then-not-end_right c =
    let at = c.blanks_end-at.result in
    let s = drop at c.args.text.now in
    outside c.args.utc c.args.text.now s c.blanks_end-at.ensures.1
    (not_end c.args.utc s
    (ap (end_right c.args.utc) (ap after_fraction (drop-drop 19 at c.args.text.now) ∙ sym c.fraction-run.ensures.behind)
    ∙ sym c.end_right.ensures ∙ c.if-not-end_right.true))

pub returns : goal.returns
unfolding outcome refusal_number
returns c =
    let at = c.blanks_end-at.result in
    let s = drop at c.args.text.now in
    within c.args.utc c.args.text.now s c.form_at.result c.blanks_end-at.ensures.1
    (whole-form c.args.utc s (sym c.date_right.ensures ∙ c.if-not-date_right.false) (sym c.time_right.ensures ∙ c.if-not-time_right.false)
    (ap (end_right c.args.utc) (ap after_fraction (drop-drop 19 at c.args.text.now) ∙ sym c.fraction-run.ensures.behind)
    ∙ sym c.end_right.ensures ∙ c.if-not-end_right.false))
    (form-is c.args.text.now at c.two.result c.fraction-run.result c.form_at.result c.two.ensures.0 c.fraction-run.ensures c.form_at.ensures)
