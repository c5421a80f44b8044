-- `julian::order::compare` meets its contract, way by way. Assumes nothing.
use mathlib.Core.Path.{sym, ◌∙◌}
use Rattle.refusals.specs.Refusal.{refusal_number}
use Rattle.refusals.specs.Outcome.{seen}
use Rattle.julian.specs.order.Order.{place}
use Rattle.julian.proofs.order.Tests.{first-refused, second-refused, is-before, is-after, is-equal}
use Rattle.julian.proofs.order.compare.Goals as goal

pub returns-then-not-is_finite : goal.returns-then-not-is_finite
unfolding seen refusal_number place
returns-then-not-is_finite c =
    first-refused c.args.a c.args.b c.exact_sum-one.result c.exact_sum-two.result c.exact_sum-one.ensures c.exact_sum-two.ensures
    (sym c.is_finite.ensures ∙ c.if-not-is_finite.true)

pub returns-then-not-is_finite-2 : goal.returns-then-not-is_finite-2
unfolding seen refusal_number place
returns-then-not-is_finite-2 c =
    second-refused c.args.a c.args.b c.exact_sum-one.result c.exact_sum-two.result c.exact_sum-one.ensures c.exact_sum-two.ensures
    (sym c.is_finite.ensures ∙ c.if-not-is_finite.false) (sym c.is_finite-2.ensures ∙ c.if-not-is_finite-2.true)

pub returns-then-sooner : goal.returns-then-sooner
unfolding seen refusal_number place
returns-then-sooner c =
    is-before c.args.a c.args.b c.exact_sum-one.result c.exact_sum-two.result c.exact_sum-one.ensures c.exact_sum-two.ensures
    (sym c.is_finite.ensures ∙ c.if-not-is_finite.false) (sym c.is_finite-2.ensures ∙ c.if-not-is_finite-2.false)
    (sym c.sooner.ensures ∙ c.if-sooner.true)

pub returns-then-sooner-2 : goal.returns-then-sooner-2
unfolding seen refusal_number place
returns-then-sooner-2 c =
    is-after c.args.a c.args.b c.exact_sum-one.result c.exact_sum-two.result c.exact_sum-one.ensures c.exact_sum-two.ensures
    (sym c.is_finite.ensures ∙ c.if-not-is_finite.false) (sym c.is_finite-2.ensures ∙ c.if-not-is_finite-2.false)
    (sym c.sooner.ensures ∙ c.if-sooner.false) (sym c.sooner-2.ensures ∙ c.if-sooner-2.true)

pub returns : goal.returns
unfolding seen refusal_number place
returns c =
    is-equal c.args.a c.args.b c.exact_sum-one.result c.exact_sum-two.result c.exact_sum-one.ensures c.exact_sum-two.ensures
    (sym c.is_finite.ensures ∙ c.if-not-is_finite.false) (sym c.is_finite-2.ensures ∙ c.if-not-is_finite-2.false)
    (sym c.sooner.ensures ∙ c.if-sooner.false) (sym c.sooner-2.ensures ∙ c.if-sooner-2.false)
