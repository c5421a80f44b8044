-- `runs::by_formula::changes::change_stamp` meets its contract: by the patterns, of which the larger decides for both, and the part that stays by its own.
-- Assumes nothing.
use mathlib.Core.Path.{refl, sym, ap, ◌∙◌}
use lib.Ieee.{binary64, to_bits}
use Rattle.runs.specs.by_formula.Asked.{kind_number, change_of}
use Rattle.runs.proofs.by_formula.Puts.{put_refused, put-patterns}
use Rattle.runs.proofs.by_formula.PatternOrder.{larger-pattern}
use Rattle.runs.proofs.by_formula.Judged.{field_most, no_nan, pattern_back, smaller-first, smaller-second, not_finite_first, not_finite_either}
use Rattle.runs.proofs.by_formula.Judged.{changed-first, changed-second}
use Rattle.runs.proofs.by_formula.changes.change_stamp.Goals as goal

pub returns-then-not-is_number : goal.returns-then-not-is_number
returns-then-not-is_number c =
    let a = c.args in
    put_refused _ 9 a.i _ a.out1.now a.out2.now
    (not_finite_first (change_of (kind_number a.kind) a.days) a.jd1s.now a.jd2s.now a.i _ _
    c.pattern_at-a.ensures c.pattern_at-b.ensures
    (sym c.is_number.ensures ∙ c.if-not-is_number.true)) refl

pub float_from_bits-x : goal.float_from_bits-x
float_from_bits-x c = no_nan _ (sym c.is_number.ensures ∙ c.if-not-is_number.false)

pub float_from_bits-y : goal.float_from_bits-y
float_from_bits-y c = no_nan _ (smaller-second c.pattern_at-a.result
    c.pattern_at-b.result (sym c.is_larger.ensures ∙ c.if-is_larger.true)
    (sym c.is_number.ensures ∙ c.if-not-is_number.false))

pub returns-then-is_larger : goal.returns-then-is_larger
returns-then-is_larger c =
    let a = c.args in
    let fa = sym c.is_number.ensures
    ∙ c.if-not-is_number.false in
    let fb = smaller-second c.pattern_at-a.result c.pattern_at-b.result (sym c.is_larger.ensures
    ∙ c.if-is_larger.true) fa in
    put-patterns _ _ a.i a.out1.now a.out2.now _ _ _ _
    (changed-second (change_of (kind_number a.kind) a.days) a.jd1s.now a.jd2s.now a.i _ _
    c.pattern_at-a.ensures
    c.pattern_at-b.ensures fa fb
    c.is_larger.result
    (c.is_larger.ensures
    ∙ larger-pattern _ _ (field_most _) (field_most _) fa fb)
    c.if-is_larger.true)
    (sym (pattern_back _ c.pattern_at-a.type_inv fa))
    (c.to_bits.ensures ∙ ap (to_bits binary64) c.changed_part.ensures)
    c.put_pattern.ensures c.put_pattern-then-is_larger.ensures

pub returns-then-not-is_number-2 : goal.returns-then-not-is_number-2
returns-then-not-is_number-2 c =
    let a = c.args in
    put_refused _ 9 a.i _ a.out1.now a.out2.now
    (not_finite_either (change_of (kind_number a.kind) a.days) a.jd1s.now a.jd2s.now a.i _ _
    c.pattern_at-a.ensures c.pattern_at-b.ensures
    (sym c.is_number-2.ensures ∙ c.if-not-is_number-2.true)) refl

pub float_from_bits-x-2 : goal.float_from_bits-x-2
float_from_bits-x-2 c = no_nan _
    (smaller-first c.pattern_at-a.result c.pattern_at-b.result
    (sym c.is_larger.ensures ∙ c.if-is_larger.false) (sym c.is_number-2.ensures ∙ c.if-not-is_number-2.false))

pub float_from_bits-y-2 : goal.float_from_bits-y-2
float_from_bits-y-2 c = no_nan _ (sym c.is_number-2.ensures ∙ c.if-not-is_number-2.false)

pub returns : goal.returns
returns c =
    let a = c.args in
    let fb = sym c.is_number-2.ensures
    ∙ c.if-not-is_number-2.false in
    let fa = smaller-first c.pattern_at-a.result c.pattern_at-b.result (sym c.is_larger.ensures
    ∙ c.if-is_larger.false) fb in
    put-patterns _ _ a.i a.out1.now a.out2.now _ _ _ _
    (changed-first (change_of (kind_number a.kind) a.days) a.jd1s.now a.jd2s.now a.i _ _
    c.pattern_at-a.ensures
    c.pattern_at-b.ensures fa fb
    c.is_larger.result
    (c.is_larger.ensures
    ∙ larger-pattern _ _ (field_most _) (field_most _) fa fb)
    c.if-is_larger.false)
    (c.to_bits-2.ensures
    ∙ ap (to_bits binary64) c.changed_part-2.ensures)
    (sym (pattern_back _ c.pattern_at-b.type_inv
    fb))
    c.put_pattern-2.ensures c.put_pattern-3.ensures
