-- `runs::is_short` meets its contract. Assumes nothing.
use mathlib.Core.Path.{sym, ◌∙◌}
use Rattle.runs.specs.Asked.{is_short}
use Rattle.runs.proofs.is_short.Goals as goal

pub returns-then-are : goal.returns-then-are
unfolding is_short
returns-then-are c = rw (sym c.are.ensures ∙ c.if-are.true)

pub returns-then-are-2 : goal.returns-then-are-2
unfolding is_short
returns-then-are-2 c = rw (sym c.are.ensures ∙ c.if-are.false, sym c.are-2.ensures ∙ c.if-are-2.true)

pub returns-then-are-3 : goal.returns-then-are-3
unfolding is_short
returns-then-are-3 c = rw (
  sym c.are.ensures ∙ c.if-are.false,
  sym c.are-2.ensures ∙ c.if-are-2.false,
  sym c.are-3.ensures ∙ c.if-are-3.true,
)

pub returns-then-are-4 : goal.returns-then-are-4
unfolding is_short
returns-then-are-4 c = rw (
  sym c.are.ensures ∙ c.if-are.false,
  sym c.are-2.ensures ∙ c.if-are-2.false,
  sym c.are-3.ensures ∙ c.if-are-3.false,
  sym c.are-4.ensures ∙ c.if-are-4.true,
)

pub returns-then-are-5 : goal.returns-then-are-5
unfolding is_short
returns-then-are-5 c = rw (
  sym c.are.ensures ∙ c.if-are.false,
  sym c.are-2.ensures ∙ c.if-are-2.false,
  sym c.are-3.ensures ∙ c.if-are-3.false,
  sym c.are-4.ensures ∙ c.if-are-4.false,
  sym c.are-5.ensures ∙ c.if-are-5.true,
)

pub returns : goal.returns
unfolding is_short
returns c =
    rw (
      sym c.are.ensures ∙ c.if-are.false,
      sym c.are-2.ensures ∙ c.if-are-2.false,
      sym c.are-3.ensures ∙ c.if-are-3.false,
      sym c.are-4.ensures ∙ c.if-are-4.false,
      sym c.are-5.ensures ∙ c.if-are-5.false,
    ) c.are-6.ensures
