-- `julian::finite_arg` meets its contract. Assumes nothing.
use mathlib.Core.Path.{sym, ◌∙◌}
use Rattle.refusals.specs.Outcome.{outcome}
use Rattle.refusals.specs.Refusal.{refusal_number}
use Rattle.julian.specs.Finite.{finite_arg}
use Rattle.julian.proofs.finite_arg.Goals as goal

pub returns-then-is_finite : goal.returns-then-is_finite
unfolding outcome finite_arg refusal_number
returns-then-is_finite c = rw (sym c.is_finite.ensures ∙ c.if-is_finite.true)

pub returns : goal.returns
unfolding outcome finite_arg refusal_number
returns c = rw (sym c.is_finite.ensures ∙ c.if-is_finite.false)
