-- Each refusal exactly where its reason holds and none before it. Assumes nothing.
use Prim.Native.Nat.{ℕ, ◌*◌, ◌/◌, ◌%◌, ◌<◌}
use native.Mathlib.Omega.{arith}
use native.Mathlib.Decide.{dec_lt}
use mathlib.Core.Path.{◌≡◌, sym, ap, ◌∙◌}
use mathlib.Core.Bool.{◌&&◌}
use mathlib.Core.Logic.{◌↔◌}
use mathlib.Core.List.{List}
use lib.ListN.{length}
use lib.Dec.{leb}
use borrow.Author.Tests.{leb-true, eq-eqb, ne_eqb, le-leb}
use Rattle.std.specs.Prelude.{Result, Ok, Err}
use Rattle.refusals.specs.declared.Refusal.{Refusal}
use Rattle.refusals.specs.Outcome.{Outcome, answer, refusal, onward, outcome}
use Rattle.ticks.specs.Passes.{millis_at}
use Rattle.ticks.specs.judging.Refusing.{number_at, numbers_in, whole_numbers, usable, both_rising, all_inside, refused_by}
use Rattle.ticks.specs.Ticks.{passes_of, bytes_of, placed_ticks, TicksCall}
use Rattle.ticks.proofs.judging.Ladder.{ladder_passed}
use Rattle.ticks.proofs.Calls.{length-bytes}
use Rattle.ticks.specs.laws.Reasons.{WholeLists, HasPlaces, UsablePasses, RisingPasses, TicksInside, ExactlyWhen}
use Rattle.ticks.proofs.laws.Tests.{whole-test, usable-test, rising-test, inside-test}
use Rattle.ticks.proofs.laws.Steps.{Apart, Steps, steps, through}

apart : Apart 14 11 23 24 25
apart = record {
  ab = λ z. omega arith;
  ac = λ z. omega arith;
  ad = λ z. omega arith;
  ae = λ z. omega arith;
  bc = λ z. omega arith;
  bd = λ z. omega arith;
  be = λ z. omega arith;
  cd = λ z. omega arith;
  ce = λ z. omega arith;
  de = λ z. omega arith;
  a0 = λ z. omega arith;
  b0 = λ z. omega arith;
  c0 = λ z. omega arith;
  d0 = λ z. omega arith;
  e0 = λ z. omega arith;
}

-- ---- the answer that an outcome says
pub written_out : (r : Result ℕ Refusal) (n : ℕ) → outcome r ≡ answer n → r ≡ Ok n
unfolding outcome
written_out (Ok m) n e = let q : m ≡ n = cc in ap Ok q
written_out (Err m) n e = let z : ◌≡◌ {A = ℕ} 0 1 = cc in absurd (omega arith)

module _ (ps ms ts before after : List ℕ) (r : Result ℕ Refusal) (call : TicksCall (placed_ticks ps ms ts (length before)) before r after) where
  abbrev bytes : List ℕ
  bytes = bytes_of (λ i. millis_at (passes_of ps ms) (number_at ts i)) (numbers_in ts)

  abbrev k : ℕ
  k = refused_by ps ms ts (length before)

  is-refused : (k ≡ 0 → ⊥) → outcome r ≡ refusal k
  unfolding placed_ticks onward
  is-refused h = call.says ∙ rw (ne_eqb k 0 h)

  is-written : k ≡ 0 → outcome r ≡ answer (length bytes)
  unfolding placed_ticks onward
  is-written h = call.says ∙ rw (eq-eqb k 0 h)

  called : (n : ℕ) → (n ≡ 0 → ⊥) → (outcome r ≡ refusal n) ↔ (k ≡ n)
  called n nz = (to (dec_lt 0 k), fro)
    where
      to : Dec (0 < k) → outcome r ≡ refusal n → k ≡ n
      to (yes z) e = let w : ◌≡◌ {A = Outcome ℕ} (refusal k) (refusal n) = sym (is-refused (λ y. omega arith)) ∙ e in cc
      to (no z) e = let w : answer (length bytes) ≡ refusal n = sym (is-written (omega arith)) ∙ e in let y : ◌≡◌ {A = ℕ} 0 1 =
          cc in absurd (omega arith)

      fro : k ≡ n → outcome r ≡ refusal n
      fro e = is-refused (λ z. nz (sym e ∙ z)) ∙ ap refusal e

  pub as_many : k ≡ 0 → length bytes ≡ length ts
  as_many z = length-bytes (λ i. millis_at (passes_of ps ms) (number_at ts i)) (numbers_in ts)
      ∙ eights (length ts) (ladder_passed ps ms ts (length before) z).ticks-whole
    where
      eights : (m : ℕ) → m % 8 ≡ 0 → 8 * (m / 8) ≡ m
      eights m h = omega arith

  pub answered : (r ≡ Ok (length ts)) ↔ (k ≡ 0)
  unfolding outcome
  answered = (to (dec_lt 0 k), λ z. written_out r (length ts) (is-written z ∙ ap answer (as_many z)))
    where
      to : Dec (0 < k) → r ≡ Ok (length ts) → k ≡ 0
      to (yes z) e = let w : refusal k ≡ answer (length ts) = sym (is-refused (λ y. omega arith)) ∙ ap outcome e in let y : ◌≡◌ {A = ℕ} 0 1 =
          cc in absurd (omega arith)
      to (no z) e = omega arith

  all-steps : Steps 14 11 23 24 25 (WholeLists ps ms ts) (HasPlaces ts (length before)) (UsablePasses ps ms) (RisingPasses ps ms) (TicksInside ps ms ts) k
  unfolding refused_by
  all-steps = steps 14 11 23 24 25 apart (whole_numbers ps && (whole_numbers ms && whole_numbers ts)) (leb (numbers_in ts) (length before / 8))
      (usable ps ms) (both_rising ps ms)
      (all_inside ps ts)
      (whole-test ps ms ts)
      (leb-true (numbers_in ts) (length before / 8), le-leb (numbers_in ts) (length before / 8))
      (usable-test ps ms ts)
      (rising-test ps ms ts)
      (inside-test ps ms ts)

  -- each refusal exactly where its reason holds and none before it
  pub exactly-when : ExactlyWhen ps ms ts (length before) r
  exactly-when =
      record {
        is_14 = through (called 14 (λ z. omega arith)) all-steps.at_a;
        is_11 = through (called 11 (λ z. omega arith)) all-steps.at_b;
        is_23 = through (called 23 (λ z. omega arith)) all-steps.at_c;
        is_24 = through (called 24 (λ z. omega arith)) all-steps.at_d;
        is_25 = through (called 25 (λ z. omega arith)) all-steps.at_e;
        is_answer = through answered all-steps.at_0;
      }
