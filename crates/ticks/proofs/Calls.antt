-- The call as a whole: a refusal leaves the lent list, and an answer is as long as the ticks. Assumes nothing.
use Prim.Native.Nat.{ℕ, zero, suc, ◌+◌, ◌*◌, ◌/◌, ◌%◌, ◌≤◌}
use native.Mathlib.Omega.{arith}
use mathlib.Core.Path.{◌≡◌, refl, sym, ap, ◌∙◌}
use mathlib.Core.Bool.{Bool, true, false, cond}
use mathlib.Core.List.{List, ◌++◌}
use lib.ListN.{length, drop, length-append}
use lib.Dec.{eqb}
use borrow.Author.Tests.{eqb-true, ne_eqb}
use Rattle.std.specs.Prelude.{Result, Ok}
use Rattle.refusals.specs.declared.Refusal.{Refusal}
use Rattle.refusals.specs.Refusal.{refusal_number}
use Rattle.refusals.specs.Outcome.{answer, refusal, onward, outcome}
use Rattle.numerals.specs.little_endian.LittleEndian.{eight_bytes}
use Rattle.ticks.specs.Passes.{millis_at}
use Rattle.ticks.specs.judging.Refusing.{number_at, numbers_in, refused_by}
use Rattle.ticks.specs.Ticks.{passes_of, bytes_of, placed_ticks, lent_after, TicksCall}
use Rattle.ticks.proofs.Refused.{not-zero}
use Rattle.ticks.proofs.judging.Ladder.{ladder_passed}

pub length-bytes : (f : ℕ → ℕ) (k : ℕ) → length (bytes_of f k) ≡ 8 * k
unfolding bytes_of
length-bytes f zero = refl
length-bytes f (suc k) = length-append (bytes_of f k) (eight_bytes (f k)) ∙ eight (length (bytes_of f k)) (length-bytes f k)
  where
    eight : (n : ℕ) → n ≡ 8 * k → n + 8 ≡ 8 * suc k
    eight n e = omega arith

module _ (ps ms ts out : List ℕ) where
  is-refused : (k : ℕ) → k ≡ refused_by ps ms ts (length out) → (k ≡ 0 → ⊥) → placed_ticks ps ms ts (length out) ≡ refusal k
  unfolding placed_ticks
  is-refused k e h = rw (← e, ne_eqb k 0 h)

  is_answer : refused_by ps ms ts (length out) ≡ 0
      → placed_ticks ps ms ts (length out) ≡ answer (bytes_of (λ x. millis_at (passes_of ps ms) (number_at ts x)) (numbers_in ts))
  unfolding placed_ticks
  is_answer e = rw e

  pub refused-call : (r : Result ℕ Refusal) (k : Refusal) → outcome r ≡ refusal (refusal_number k) → refusal_number k ≡ refused_by ps ms ts (length out)
      → TicksCall (placed_ticks ps ms ts (length out)) out r out
  unfolding onward lent_after
  refused-call r k i e = rw (is-refused (refusal_number k) e (not-zero k)) (record { says = i; holds = refl })

  pub written-call : (out' : List ℕ) → refused_by ps ms ts (length out) ≡ 0
      → out' ≡ bytes_of (λ x. millis_at (passes_of ps ms) (number_at ts x)) (numbers_in ts) ++ drop (8 * numbers_in ts) out
      → TicksCall (placed_ticks ps ms ts (length out)) out (Ok (length ts)) out'
  unfolding outcome onward lent_after
  written-call out' z eo =
      let f : ℕ → ℕ = λ x. millis_at (passes_of ps ms) (number_at ts x) in
      let n : length (bytes_of f (numbers_in ts)) ≡ length ts = length-bytes f (numbers_in ts)
      ∙ eights (length ts) (ladder_passed ps ms ts (length out) z).ticks-whole in
      rw (is_answer z)
      (record {
        says = ap answer (sym n);
        holds = eo ∙ ap (λ (m : ℕ). bytes_of f (numbers_in ts) ++ drop m out) (sym (length-bytes f (numbers_in ts)));
      })
    where
      eights : (m : ℕ) → m % 8 ≡ 0 → 8 * (m / 8) ≡ m
      eights m h = omega arith

-- an answer fits the room
pub placed-fits : (ps ms ts : List ℕ) (room : ℕ) (b : List ℕ) → placed_ticks ps ms ts room ≡ answer b → length b ≤ room
unfolding placed_ticks
placed-fits ps ms ts room b = go (eqb (refused_by ps ms ts room) 0) refl
  where
    go : (t : Bool) → eqb (refused_by ps ms ts room) 0 ≡ t
        → cond t (answer (bytes_of (λ x. millis_at (passes_of ps ms) (number_at ts x)) (numbers_in ts))) (refusal (refused_by ps ms ts room)) ≡ answer b
        → length b ≤ room
    go true e h =
        let s : bytes_of (λ x. millis_at (passes_of ps ms) (number_at ts x)) (numbers_in ts) ≡ b = cc in
        omega (
          arith,
          ap length s,
          length-bytes (λ x. millis_at (passes_of ps ms) (number_at ts x)) (numbers_in ts),
          (ladder_passed ps ms ts room (eqb-true (refused_by ps ms ts room) 0 e)).fits,
        )
    go false e h = let z : ◌≡◌ {A = ℕ} 0 1 = cc in absurd (omega arith)
