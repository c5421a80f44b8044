-- A run of readings is delivered, and its count fits a code. Assumes nothing.
use Prim.Native.Nat.{ℕ, ◌/◌, ◌≤◌, ◌<◌, ◌^◌}
use mathlib.Core.Path.{◌≡◌, sym, ap, ◌∙◌}
use mathlib.Core.List.{List}
use lib.IntN.{ℤ}
use lib.ListN.{length}
use lib.Signed.{mag}
use mir.Syntax.{w64}
use mir.Val.{to_z, of_z}
use mir.Facts.{to_z_pos}
use Rattle.std.specs.Prelude.{Result, Ok, Err}
use Rattle.refusals.specs.declared.Refusal.{Refusal}
use Rattle.refusals.specs.Refusal.{refusal_number}
use Rattle.refusals.specs.Outcome.{refusal, outcome}
use Rattle.ticks.specs.places.Places.{PlacesCall, places_call, placed_run}
use Rattle.ticks.proofs.places.Ladder.{run-count}
use Rattle.c_answers.specs.Delivery.{code}
use Rattle.c_answers.proofs.Deliveries.{code-back}
use Rattle.capi.specs.PlacesDelivery.{PlacesDelivered}

module _ (ps ls ms before ns : List ℕ) {after ns' : List ℕ} (res : Result ℕ Refusal)
    (e : places_call (outcome res) after ns' ≡ placed_run ps ls ms before ns) where
  ended : (r : ℤ) → r ≡ code (outcome res) → PlacesDelivered (placed_run ps ls ms before ns) r after ns'
  ended r h = record {
    returned = h ∙ ap (λ (x : PlacesCall). code x.answer) e;
    placed = ap (λ (x : PlacesCall). x.out) e;
    numbered = ap (λ (x : PlacesCall). x.numbers) e;
  }

  pub places-counted : (j : ℕ) → res ≡ Ok j → j ≤ length ms / 8
  unfolding outcome
  places-counted j i = run-count ps ls ms before ns j (sym (ap outcome i) ∙ ap (λ (x : PlacesCall). x.answer) e)

  pub places-written : (j : ℕ) → res ≡ Ok j → j < 2 ^ 63 → PlacesDelivered (placed_run ps ls ms before ns) (to_z w64 j) after ns'
  unfolding outcome code
  places-written j i b = ended (to_z w64 j) (to_z_pos w64 {n = j} b ∙ sym (ap (λ (x : Result ℕ Refusal). code (outcome x)) i))

  pub places-refused : {r : ℤ} (j : Refusal) → mag r < 2 ^ 63 → res ≡ Err j → r ≡ code (refusal (refusal_number j))
      → PlacesDelivered (placed_run ps ls ms before ns) (to_z w64 (of_z w64 r)) after ns'
  unfolding outcome
  places-refused {r} j ok i c = ended (to_z w64 (of_z w64 r)) (code-back ok ∙ c ∙ sym (ap (λ (x : Result ℕ Refusal). code (outcome x)) i))
