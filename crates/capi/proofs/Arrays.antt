-- A call that is lent a table and lends it on: what the table refuses is handed on before every other refusal, and with its rows the call goes on.
-- Assumes nothing.
use Prim.Native.Nat.{ℕ, ◌<◌, ◌≤◌, ◌^◌}
use mathlib.Core.Path.{◌≡◌, refl, sym, subst, ◌∙◌}
use mathlib.Core.List.{List}
use lib.ListN.{length}
use lib.IntN.{ℤ}
use lib.Signed.{mag}
use mir.Syntax.{w64}
use mir.Val.{to_z, of_z}
use Rattle.std.specs.Prelude.{Result, Ok, Err, IfOk}
use Rattle.refusals.specs.declared.Refusal.{Refusal}
use Rattle.refusals.specs.Refusal.{refusal_number}
use Rattle.refusals.specs.Outcome.{Outcome, refusal, onward, seen}
use Rattle.leap_table.specs.declared.offsets.Rule.{Rule}
use Rattle.leap_table.specs.rows.Table.{Row}
use Rattle.c_answers.specs.table.TableBytes.{table_bytes}
use Rattle.c_answers.proofs.table.Laws.{not-refused, not_taken, gone-on}
use Rattle.utc.specs.iso_texts.TextCall.{buffer_holds}
use Rattle.c_answers.specs.Delivery.{code, in_bytes, Delivered}
use Rattle.c_answers.specs.TwoBuffers.{both_fit, DeliveredTwo}
use Rattle.c_answers.proofs.Deliveries.{code-back, refused-on, same_outcome}
use Rattle.capi.specs.TextRule.{ruled}

-- what the code reads in the bytes s: a table with these rows
module _ (s : List ℕ) (rows : List Row) (lent : Result Unit Refusal) (judged : seen (λ (u : Unit). rows) lent ≡ table_bytes s) where
  -- ---- an answer in bytes
  module _ {A : Type 0} (bytes : A → List ℕ) (next : List Row → Outcome A) {r : ℤ} (ok : mag r < 2 ^ 63) where
    pub lent_refused : {b : List ℕ} (k : Refusal) → lent ≡ Err k → r ≡ code (refusal (refusal_number k))
        → Delivered (in_bytes bytes (onward (table_bytes s) next)) b (to_z w64 (of_z w64 r)) b
    lent_refused k h c = refused-on bytes ok (refusal_number k) (not_taken (λ (u : Unit). rows) lent judged next k h) c

    pub with_announced : {o : Outcome A} {b out : List ℕ} → ((k : Refusal) → lent ≡ Err k → ⊥) → o ≡ next rows → Delivered (in_bytes bytes o) b r out
        → Delivered (in_bytes bytes (onward (table_bytes s) next)) b (to_z w64 (of_z w64 r)) out
    with_announced h p d = same_outcome bytes ok (p ∙ gone-on (λ (u : Unit). rows) lent judged next tt (not-refused lent h)) d

  -- ---- a text and its rule in two buffers
  module _ (next : List Row → Outcome (List ℕ × Rule)) {r : ℤ} (ok : mag r < 2 ^ 63) where
    pub text-lent-refused : {b b' : List ℕ} (k : Refusal) → lent ≡ Err k → r ≡ code (refusal (refusal_number k))
        → DeliveredTwo (ruled (length b') (onward (table_bytes s) next)) b b' (to_z w64 (of_z w64 r)) b b'
    unfolding onward both_fit buffer_holds ruled
    text-lent-refused {b} {b'} k h c =
        subst (λ (o : Outcome (List ℕ × Rule)). DeliveredTwo (ruled (length b') o) b b' (to_z w64 (of_z w64 r)) b b')
        (sym (not_taken (λ (u : Unit). rows) lent judged next k h))
        (record { returned = code-back ok ∙ c; holds = refl; holds_second = refl })

    pub text-with-announced : {b b' out out' : List ℕ} → ((k : Refusal) → lent ≡ Err k → ⊥) → DeliveredTwo (ruled (length b') (next rows)) b b' r out out'
        → DeliveredTwo (ruled (length b') (onward (table_bytes s) next)) b b' (to_z w64 (of_z w64 r)) out out'
    text-with-announced {b} {b'} {out} {out'} h d =
        subst (λ (z : ℤ). DeliveredTwo (ruled (length b') (onward (table_bytes s) next)) b b' z out out') (sym (code-back ok))
        (subst (λ (o : Outcome (List ℕ × Rule)). DeliveredTwo (ruled (length b') o) b b' r out out') (gone-on (λ (u : Unit). rows) lent judged next
        tt (not-refused lent h)) d)
