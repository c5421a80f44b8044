-- The milliseconds of a run are delivered, and their count fits a code. Assumes nothing.
use Prim.Native.Nat.{ℕ, ◌/◌, ◌≤◌, ◌<◌, ◌^◌}
use mathlib.Core.Path.{◌≡◌, sym, ap, ◌∙◌}
use mathlib.Core.List.{List}
use lib.IntN.{ℤ}
use lib.ListN.{length}
use lib.Signed.{mag}
use mir.Syntax.{w64}
use mir.Val.{to_z, of_z}
use mir.Facts.{to_z_pos}
use Rattle.std.specs.Prelude.{Result, Ok, Err}
use Rattle.refusals.specs.declared.Refusal.{Refusal}
use Rattle.refusals.specs.Refusal.{refusal_number}
use Rattle.refusals.specs.Outcome.{refusal, outcome}
use Rattle.julian.specs.declared.JulianDate.{JulianDate}
use Rattle.since_launch.specs.Run.{MillisCall, millis_call, millis_of_run}
use Rattle.since_launch.proofs.Calls.{run-count}
use Rattle.c_answers.specs.Delivery.{code}
use Rattle.c_answers.proofs.Deliveries.{code-back}
use Rattle.capi.specs.MillisDelivery.{MillisDelivered}

-- a call that ends so is delivered by its code
ended : (c : MillisCall) (res : Result ℕ Refusal) (r : ℤ) (out numbers : List ℕ) → millis_call (outcome res) out numbers ≡ c → r ≡ code
    (outcome res)
    → MillisDelivered c r out numbers
ended c res r out numbers e h = record {
  returned = h ∙ ap (λ (x : MillisCall). code x.answer) e;
  first = ap (λ (x : MillisCall). x.out) e;
  second = ap (λ (x : MillisCall). x.numbers) e;
}

module _ (from : JulianDate) (js ks b1 b2 : List ℕ) {out numbers : List ℕ} (res : Result ℕ Refusal)
    (e : millis_call (outcome res) out numbers ≡ millis_of_run from js ks b1 b2) where
  pub all-written : (j : ℕ) → res ≡ Ok j → j < 2 ^ 63 → MillisDelivered (millis_of_run from js ks b1 b2) (to_z w64 j) out numbers
  unfolding outcome code
  all-written j i b = ended _ res (to_z w64 j) out numbers e (to_z_pos w64 {n = j} b ∙ sym (ap (λ (x : Result ℕ Refusal). code (outcome x)) i))

  pub all-refused : {r : ℤ} (j : Refusal) → mag r < 2 ^ 63 → res ≡ Err j → r ≡ code (refusal (refusal_number j))
      → MillisDelivered (millis_of_run from js ks b1 b2) (to_z w64 (of_z w64 r)) out numbers
  unfolding outcome
  all-refused {r} j ok i c = ended _ res (to_z w64 (of_z w64 r)) out numbers e (code-back ok ∙ c ∙ sym (ap (λ (x : Result ℕ Refusal). code (outcome x)) i))

  pub written_count : (j : ℕ) → res ≡ Ok j → j ≤ length js / 8
  unfolding outcome
  written_count j i = run-count from js ks b1 b2 j (sym (ap outcome i) ∙ ap (λ (x : MillisCall). x.answer) e)
