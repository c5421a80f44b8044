-- THE CALL: what `place_ticks` means, from its contract alone. Assumes nothing.
use Prim.Native.Nat.{ℕ, ◌*◌, ◌<◌}
use native.Mathlib.Omega.{arith}
use native.Mathlib.Decide.{dec_lt}
use mathlib.Core.Path.{◌≡◌, refl, sym, ap, subst, ◌∙◌}
use mathlib.Core.List.{List, ◌++◌}
use lib.ListN.{length, drop, length-append, length-drop}
use lib.Seq.{drop_at}
use borrow.Author.Tests.{eq-eqb, ne_eqb}
use Rattle.std.specs.Prelude.{Result}
use Rattle.refusals.specs.declared.Refusal.{Refusal}
use Rattle.refusals.specs.Outcome.{answer, refusal, outcome}
use Rattle.ticks.specs.Passes.{millis_at}
use Rattle.ticks.specs.judging.Refusing.{number_at, numbers_in, refused_by}
use Rattle.ticks.specs.Ticks.{passes_of, bytes_of, placed_ticks, lent_after, TicksCall}
use Rattle.ticks.proofs.judging.Ladder.{ladder_passed}
use Rattle.ticks.proofs.Calls.{length-bytes}
use Rattle.ticks.specs.laws.Sound.{Sound, Inside, JustBelow}
use Rattle.ticks.specs.laws.Reasons.{PlacedRight, TicksMeaning}
use Rattle.ticks.proofs.laws.Laws.{on_line, at_a_pass, never-earlier, just_below}
use Rattle.ticks.proofs.laws.Refusals.{passes-sound, ticks-inside}
use Rattle.ticks.proofs.laws.Results.{result-at}
use Rattle.ticks.proofs.laws.Exactly.{answered, exactly-when}

module _ (ps ms ts before after : List ℕ) (r : Result ℕ Refusal) (call : TicksCall (placed_ticks ps ms ts (length before)) before r after) where
  abbrev f : ℕ → ℕ
  f i = millis_at (passes_of ps ms) (number_at ts i)

  unchanged : (n : ℕ) → outcome r ≡ refusal n → after ≡ before
  unfolding placed_ticks lent_after outcome
  unchanged n e = go (dec_lt 0 (refused_by ps ms ts (length before)))
    where
      go : Dec (0 < refused_by ps ms ts (length before)) → after ≡ before
      go (yes h) = call.holds ∙ rw (ne_eqb (refused_by ps ms ts (length before)) 0 (λ z. omega arith))
      go (no h) =
          let q : refusal n ≡ answer (length ts) = sym e ∙ ap outcome ((answered ps ms ts before after r call).1 (omega arith)) in
          let z : ◌≡◌ {A = ℕ} 0 1 = cc in
          absurd (omega arith)

  module _ (z : refused_by ps ms ts (length before) ≡ 0) where
    holds : after ≡ bytes_of f (numbers_in ts) ++ drop (8 * numbers_in ts) before
    unfolding placed_ticks lent_after
    holds = call.holds ∙ rw (eq-eqb (refused_by ps ms ts (length before)) 0 z)
        (ap (λ (m : ℕ). bytes_of f (numbers_in ts) ++ drop m before) (length-bytes f (numbers_in ts)))

    sound : Sound (passes_of ps ms)
    sound = passes-sound ps ms ts (length before) z

    tick-in : (i : ℕ) → i < numbers_in ts → Inside (passes_of ps ms) (number_at ts i)
    tick-in = ticks-inside ps ms ts (length before) z

    below : (i : ℕ) → i < numbers_in ts → JustBelow (passes_of ps ms) (number_at ts i) (f i)
    below i h = just_below (passes_of ps ms) sound (number_at ts i) (tick-in i h)

    result : (i : ℕ) → i < numbers_in ts → number_at after i ≡ f i
    result i h = ap (λ (l : List ℕ). number_at l i) holds ∙ result-at f (numbers_in ts) (drop (8 * numbers_in ts) before) i h (omega (arith, (below i h).small))

    placed-right : PlacedRight ps ms ts before after
    placed-right =
        record {
          as_long = ap length holds ∙ length-append (bytes_of f (numbers_in ts)) (drop (8 * numbers_in ts) before)
              ∙ omega (arith, length-bytes f (numbers_in ts), length-drop (8 * numbers_in ts) before, (ladder_passed ps ms ts (length before) z).fits);
          spare = ap (drop (8 * numbers_in ts)) holds
              ∙ drop_at (bytes_of f (numbers_in ts)) (drop (8 * numbers_in ts) before) (8 * numbers_in ts) (length-bytes f (numbers_in ts));
          on_any_line = λ i j h n a b. result i h
              ∙ sym (on_line (passes_of ps ms) sound (number_at ts i) _ (record { j = j; next = n; from = a; to = b; is = refl }));
          at_passes = λ i j h n e. result i h ∙ ap (millis_at (passes_of ps ms)) e ∙ at_a_pass (passes_of ps ms) sound j n;
          in_order = λ i i' h h' l. omega
              (arith, result i h, result i' h', never-earlier (passes_of ps ms) sound (number_at ts i) (number_at ts i') (tick-in i h) (tick-in i' h') l);
          near_line = λ i h. subst (JustBelow (passes_of ps ms) (number_at ts i)) (sym (result i h)) (below i h);
        }

  -- from `place_ticks`'s contract: everything that document 02 asks of the call
  pub call-means : TicksMeaning ps ms ts before r after
  call-means = record {
    decided = exactly-when ps ms ts before after r call;
    refused = unchanged;
    placed =
        λ e. placed-right ((answered ps ms ts before after r call).0 e);
  }
