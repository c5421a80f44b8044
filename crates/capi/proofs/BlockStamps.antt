-- The number of a block's stamps as a code. Assumes nothing.
use Prim.Native.Nat.{ℕ, ◌<◌, ◌^◌}
use native.Mathlib.Omega.{arith}
use mathlib.Core.Path.{◌≡◌, sym, ap, ◌∙◌}
use mathlib.Core.List.{List}
use lib.IntN.{ℤ, pos}
use lib.Signed.{mag}
use mir.Syntax.{w64}
use mir.Val.{SFits, to_z, of_z}
use mir.Facts.{to_z_pos}
use Rattle.std.specs.Prelude.{Result, Ok, Err}
use Rattle.refusals.specs.declared.Refusal.{Refusal}
use Rattle.refusals.specs.Refusal.{refusal_number}
use Rattle.refusals.specs.Outcome.{refusal, outcome}
use Rattle.stamps.specs.Block.{block_of}
use Rattle.stamps.proofs.Blocks.{block-accepted}
use Rattle.c_answers.specs.Delivery.{code}
use Rattle.c_answers.proofs.Deliveries.{code-back}

module _ (s : List ℕ) {res : Result ℕ Refusal} (e : outcome res ≡ block_of s) where
  pub stamps-fit : (n : ℕ) → res ≡ Ok n → SFits w64 (pos n)
  unfolding outcome
  stamps-fit n i = record { sfits = omega (arith, (block-accepted s n (sym (ap outcome i) ∙ e)).0) }

  pub stamps-are : (n : ℕ) → res ≡ Ok n → to_z w64 n ≡ code (block_of s)
  unfolding outcome code
  stamps-are n i = to_z_pos w64 {n = n} (omega (arith, (block-accepted s n (sym (ap outcome i) ∙ e)).0)) ∙ ap code (sym (ap outcome i) ∙ e)

  pub block_refused : {r : ℤ} (k : Refusal) → mag r < 2 ^ 63 → res ≡ Err k → r ≡ code (refusal (refusal_number k)) → to_z w64 (of_z w64 r) ≡ code (block_of s)
  unfolding outcome
  block_refused k ok i c = code-back ok ∙ c ∙ ap code (sym (ap outcome i) ∙ e)
