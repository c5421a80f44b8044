-- `runs::by_formula::pairs::formula_of` meets its contract. Assumes nothing.
use Rattle.std.proofs.Common.{sym, ap, ◌∙◌}
use lib.Ieee.{neg}
use Rattle.runs.specs.by_formula.Asked.{kind_number, needs_none}
use Rattle.runs.proofs.by_formula.KindLaws.{gps_to_tai, tai_to_gps, tai_to_tt, tt_to_tai, tt-to-tcg, tcg-to-tt, tcb-to-tdb, tdb-to-tcb, found, kept}
use Rattle.runs.proofs.by_formula.pairs.formula_of.Goals as goal

pub returns-then-are : goal.returns-then-are
returns-then-are c =
    found 4 1 3 (sym c.are.ensures ∙ c.if-are.true) (ap kind_number c.of_kind.ensures.0)
    (c.of_kind.ensures.1 ∙ c.gps_days.ensures) gps_to_tai

pub returns-then-are-2 : goal.returns-then-are-2
returns-then-are-2 c =
    found 1 4 3 (sym c.are-2.ensures ∙ c.if-are-2.true) (ap kind_number c.of_kind-then-are-2.ensures.0)
    (c.of_kind-then-are-2.ensures.1 ∙ ap neg c.gps_days-then-are-2.ensures) tai_to_gps

pub returns-then-are-3 : goal.returns-then-are-3
returns-then-are-3 c =
    found 1 3 3 (sym c.are-3.ensures ∙ c.if-are-3.true) (ap kind_number c.of_kind-then-are-3.ensures.0)
    (c.of_kind-then-are-3.ensures.1 ∙ c.tt_days.ensures) tai_to_tt

pub returns-then-are-4 : goal.returns-then-are-4
returns-then-are-4 c =
    found 3 1 3 (sym c.are-4.ensures ∙ c.if-are-4.true) (ap kind_number c.of_kind-then-are-4.ensures.0)
    (c.of_kind-then-are-4.ensures.1 ∙ ap neg c.tt_days-then-are-4.ensures) tt_to_tai

pub returns-then-are-5 : goal.returns-then-are-5
returns-then-are-5 c =
    found 3 5 4 (sym c.are-5.ensures ∙ c.if-are-5.true) (ap kind_number c.of_kind-then-are-5.ensures.0)
    c.of_kind-then-are-5.ensures.1 (tt-to-tcg _)

pub returns-then-are-6 : goal.returns-then-are-6
returns-then-are-6 c =
    found 5 3 5 (sym c.are-6.ensures ∙ c.if-are-6.true) (ap kind_number c.of_kind-then-are-6.ensures.0)
    c.of_kind-then-are-6.ensures.1 (tcg-to-tt _)

pub returns-then-are-7 : goal.returns-then-are-7
returns-then-are-7 c =
    found 6 7 6 (sym c.are-7.ensures ∙ c.if-are-7.true) (ap kind_number c.of_kind-then-are-7.ensures.0)
    c.of_kind-then-are-7.ensures.1 (tcb-to-tdb _)

pub returns-then-are-8 : goal.returns-then-are-8
returns-then-are-8 c =
    found 7 6 7 (sym c.are-8.ensures ∙ c.if-are-8.true) (ap kind_number c.of_kind-then-are-8.ensures.0)
    c.of_kind-then-are-8.ensures.1 (tdb-to-tcb _)

pub offset_kind-requires : goal.offset_kind-requires
unfolding needs_none
offset_kind-requires c = rw (
  sym c.are.ensures ∙ c.if-are.false,
  sym c.are-2.ensures ∙ c.if-are-2.false,
  sym c.are-3.ensures ∙ c.if-are-3.false,
  sym c.are-4.ensures ∙ c.if-are-4.false,
  sym c.are-5.ensures ∙ c.if-are-5.false,
  sym c.are-6.ensures ∙ c.if-are-6.false,
  sym c.are-7.ensures ∙ c.if-are-7.false,
  sym c.are-8.ensures ∙ c.if-are-8.false,
)

pub returns : goal.returns
returns c = kept (ap kind_number c.of_kind-2.ensures.0) c.of_kind-2.ensures.1 c.offset_kind.ensures
