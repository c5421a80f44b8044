-- `utc_scales::to_ut1::utc_to_ut1_with_dut1_by_rows` meets its contract. Assumes nothing.
use mathlib.Core.Path.{sym, ap, ◌∙◌}
use lib.Ieee.{binary64, sub}
use Rattle.refusals.specs.Outcome.{onward, outcome, seen}
use Rattle.leap_table.specs.rows.Announced.{rows_of}
use Rattle.scales.specs.Conversions.{answer_of, tai-ut1}
use Rattle.refusals.proofs.Onward.{went, stopped}
use Rattle.refusals.proofs.Handed.{seen_handed_on}
use Rattle.utc_scales.specs.Known.{RightKnown, DayOfDate}
use Rattle.utc_scales.specs.days.LargerPart.{placed}
use Rattle.utc_scales.specs.UtcTai.{tai_fraction, utc_to_tai}
use Rattle.utc_scales.specs.to_ut1.UtcUt1.{utc_to_ut1}
use Rattle.utc_scales.specs.to_ut1.ByRule.{utc_to_ut1_by_rule}
use Rattle.utc_scales.proofs.days.Steps.{changes}
use Rattle.utc_scales.proofs.to_ut1.Steps.{date-offset}
use Rattle.utc_scales.proofs.days.Rules.{passed, not_passed, offset-refused, offset-answered}
use Rattle.utc_scales.proofs.to_ut1.utc_to_ut1_with_dut1_by_rows.Goals as goal

pub returns-in_err-finite_arg : goal.returns-in_err-finite_arg
unfolding outcome utc_to_ut1 utc_to_ut1_by_rule
returns-in_err-finite_arg c =
    seen_handed_on _ _ _ c.from_residual.ensures.1 ∙ not_passed _ _ _ (stopped _ (sym c.in_err-finite_arg.ensures))

pub tai_fraction-requires : goal.tai_fraction-requires
unfolding RightKnown
tai_fraction-requires c = tt

pub offset_with-requires : goal.offset_with-requires
unfolding DayOfDate
offset_with-requires c = c.in_ok-k.ensures.1.same

pub returns-in_err-k : goal.returns-in_err-k
unfolding outcome seen onward utc_to_tai utc_to_ut1 utc_to_ut1_by_rule
returns-in_err-k c =
    let f = tai_fraction (rows_of c.args.table.now) in
    let u = sym (changes f _ _ _ c.kept_parts-p.ensures c.in_err-k.ensures.0) in
    seen_handed_on _ _ _ c.from_residual-in_err-k.ensures.1 ∙ not_passed _ _ _ (went _ (sym c.in_ok-finite_arg.ensures) ∙ stopped _ u)

pub returns-in_err-offset : goal.returns-in_err-offset
unfolding outcome seen onward placed utc_to_tai utc_to_ut1 utc_to_ut1_by_rule
returns-in_err-offset c =
    let rows = rows_of c.args.table.now in
    let u = sym (changes (tai_fraction rows) _ _ _ c.kept_parts-p.ensures c.in_ok-k.ensures.0) in
    let o = offset-refused rows _ _ _ (sym (c.in_err-offset.ensures ∙ date-offset rows _ _ c.kept_parts-p.ensures)) in
    seen_handed_on _ _ _ c.from_residual-in_err-offset.ensures.1
    ∙ not_passed _ _ _ (went _ (sym c.in_ok-finite_arg.ensures) ∙ went _ u ∙ stopped _ o)

pub returns-in_err-ut1 : goal.returns-in_err-ut1
unfolding outcome seen onward placed utc_to_tai utc_to_ut1 utc_to_ut1_by_rule
returns-in_err-ut1 c =
    let rows = rows_of c.args.table.now in
    let u = sym (changes (tai_fraction rows) _ _ _ c.kept_parts-p.ensures c.in_ok-k.ensures.0) in
    let o = offset-answered rows _ _ _ _ (sym (c.in_ok-offset.ensures ∙ date-offset rows _ _ c.kept_parts-p.ensures)) in
    let z = tai-ut1 (sub binary64 c.args.dut1 c.in_ok-offset.offset) in
    seen_handed_on _ _ _ c.from_residual-in_err-ut1.ensures.1
    ∙ not_passed _ _ _ (went _ (sym c.in_ok-finite_arg.ensures) ∙ went _ u ∙ went _ o.0
    ∙ sym (c.in_err-ut1.ensures ∙ ap (answer_of z) c.put_beside-tai.ensures))

pub returns : goal.returns
unfolding outcome seen onward placed utc_to_tai utc_to_ut1 utc_to_ut1_by_rule
returns c =
    let rows = rows_of c.args.table.now in
    let u = sym (changes (tai_fraction rows) _ _ _ c.kept_parts-p.ensures c.in_ok-k.ensures.0) in
    let o = offset-answered rows _ _ _ _ (sym (c.in_ok-offset.ensures ∙ date-offset rows _ _ c.kept_parts-p.ensures)) in
    let z = tai-ut1 (sub binary64 c.args.dut1 c.in_ok-offset.offset) in
    passed _ _ _ _
    (went _ (sym c.in_ok-finite_arg.ensures) ∙ went _ u ∙ went _ o.0 ∙ sym (c.in_ok-ut1.ensures ∙ ap (answer_of z) c.put_beside-tai.ensures))
    o.1
