-- `runs::by_formula::pairs::offset_kind` meets its contract. Assumes nothing.
use Rattle.std.proofs.Common.{refl, sym, ◌∙◌}
use Rattle.runs.proofs.by_formula.KindLaws.{tai_to_ut1, ut1_to_tai, ut1_to_tt, tt_to_ut1, tt_to_tdb, tdb_to_tt, found, no_formula}
use Rattle.runs.proofs.by_formula.pairs.offset_kind.Goals as goal

pub returns-then-are : goal.returns-then-are
returns-then-are c days = found 1 2 1 (sym c.are.ensures ∙ c.if-are.true) refl refl (tai_to_ut1 days)

pub returns-then-are-2 : goal.returns-then-are-2
returns-then-are-2 c days = found 2 1 2 (sym c.are-2.ensures ∙ c.if-are-2.true) refl refl (ut1_to_tai days)

pub returns-then-are-3 : goal.returns-then-are-3
returns-then-are-3 c days = found 2 3 1 (sym c.are-3.ensures ∙ c.if-are-3.true) refl refl (ut1_to_tt days)

pub returns-then-are-4 : goal.returns-then-are-4
returns-then-are-4 c days = found 3 2 2 (sym c.are-4.ensures ∙ c.if-are-4.true) refl refl (tt_to_ut1 days)

pub returns-then-are-5 : goal.returns-then-are-5
returns-then-are-5 c days = found 3 7 1 (sym c.are-5.ensures ∙ c.if-are-5.true) refl refl (tt_to_tdb days)

pub returns-then-are-6 : goal.returns-then-are-6
returns-then-are-6 c days = found 7 3 2 (sym c.are-6.ensures ∙ c.if-are-6.true) refl refl (tdb_to_tt days)

pub returns : goal.returns
returns c days =
    no_formula c.args.from c.args.to days c.requires
    (sym c.are.ensures ∙ c.if-are.false)
    (sym c.are-2.ensures ∙ c.if-are-2.false)
    (sym c.are-3.ensures ∙ c.if-are-3.false)
    (sym c.are-4.ensures ∙ c.if-are-4.false)
    (sym c.are-5.ensures ∙ c.if-are-5.false)
    (sym c.are-6.ensures ∙ c.if-are-6.false)
