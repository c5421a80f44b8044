-- `julian::finite_jd` meets its contract. Assumes nothing.
use mathlib.Core.Path.{sym, ◌∙◌}
use Rattle.refusals.specs.Outcome.{outcome}
use Rattle.refusals.specs.Refusal.{refusal_number}
use Rattle.julian.specs.Finite.{finite_jd}
use Rattle.julian.proofs.finite_jd.Goals as goal

pub returns-then-both_finite : goal.returns-then-both_finite
unfolding outcome finite_jd refusal_number
returns-then-both_finite c = rw (sym c.both_finite.ensures ∙ c.if-both_finite.true)

pub returns : goal.returns
unfolding outcome finite_jd refusal_number
returns c = rw (sym c.both_finite.ensures ∙ c.if-both_finite.false)
