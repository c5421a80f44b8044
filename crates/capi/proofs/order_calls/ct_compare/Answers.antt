-- `capi::order_calls::ct_compare` meets its contract. Assumes nothing.
use mathlib.Core.Path.{◌≡◌, sym, ap, ◌∙◌}
use lib.IntN.{pos}
use Rattle.std.specs.Prelude.{Result, Ok, Err}
use Rattle.std.specs.declared.cmp.Ordering.{Ordering}
use Rattle.std.specs.declared.cmp.Ordering.TheVariants.{Less, Equal, Greater}
use Rattle.refusals.specs.declared.Refusal.{Refusal}
use Rattle.refusals.specs.Refusal.{refusal_number}
use Rattle.refusals.specs.Outcome.{Outcome, refusal, onward, seen}
use Rattle.refusals.proofs.Handed.{seen_answered, seen_handed}
use Rattle.julian.specs.order.Order.{Order, place, comparison}
use Rattle.c_answers.specs.Delivery.{code}
use Rattle.c_answers.proofs.Deliveries.{code-back}
use Rattle.capi.specs.OrderNumber.{order_number, numbered}
use Rattle.capi.proofs.order_calls.ct_compare.Goals as goal

module _ {found : Result Ordering Refusal} {o : Outcome Order} (e : seen place found ≡ o) where
  numbered-order : {x : Ordering} (y : Ordering) → found ≡ Ok x → x ≡ y → pos (order_number (place y)) ≡ code (numbered o)
  unfolding code numbered onward
  numbered-order y p q =
      ap (λ (z : Ordering). pos (order_number (place z))) (sym q)
      ∙ ap (λ (x : Outcome Order). code (numbered x)) (sym (seen_answered place p) ∙ e)

  not_taken : {k : Refusal} → found ≡ Err k → code (refusal (refusal_number k)) ≡ code (numbered o)
  unfolding numbered onward
  not_taken p = ap (λ (x : Outcome Order). code (numbered x)) (sym (seen_handed place p) ∙ e)

pub returns-in-Ok-Less : goal.returns-in-Ok-Less
unfolding place order_number
returns-in-Ok-Less c =
    numbered-order (c.compare.ensures ∙ λ i. comparison (c.new.ensures i) (c.new-2.ensures i)) Less c.in-Ok-Less.is c.in-Ok-Less.field-0-is

pub returns-in-Ok-Equal : goal.returns-in-Ok-Equal
unfolding place order_number
returns-in-Ok-Equal c =
    numbered-order (c.compare.ensures ∙ λ i. comparison (c.new.ensures i) (c.new-2.ensures i)) Equal c.in-Ok-Equal.is c.in-Ok-Equal.field-0-is

pub returns-in-Ok-Greater : goal.returns-in-Ok-Greater
unfolding place order_number
returns-in-Ok-Greater c =
    numbered-order (c.compare.ensures ∙ λ i. comparison (c.new.ensures i) (c.new-2.ensures i)) Greater c.in-Ok-Greater.is c.in-Ok-Greater.field-0-is

pub returns-in-Err : goal.returns-in-Err
returns-in-Err c =
    code-back c.refused.type_inv
    ∙ c.refused.ensures
    ∙ not_taken (c.compare.ensures ∙ λ i. comparison (c.new.ensures i) (c.new-2.ensures i)) c.in-Err.is
