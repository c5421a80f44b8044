-- WHEN A RUN FROM SCALE TO SCALE IS ANSWERED, and by which number each other call is refused, for all scales and lengths: each of the five scales is taken, and
-- no other. Assumes nothing.
use Prim.Native.Nat.{ℕ, ◌*◌, ◌/◌, ◌%◌}
use native.Mathlib.Omega.{arith}
use mathlib.Core.Path.{◌≡◌, refl, sym, ◌∙◌}
use mathlib.Core.Bool.{Bool, true, false, true≢false}
use lib.Dec.{eqb, leb}
use borrow.Author.Tests.{eqb-true, eqb-false, leb-true, leb-false}
use Rattle.runs.specs.ways.Ways.{is_run_scale}
use Rattle.runs.specs.Run.{run_refusal}
use Rattle.runs.specs.laws.Answered.{Five, utc, tai, tt', gps, tcg, BothKnown, PlacesFor, RunDecision}
use Rattle.runs.specs.laws.Answered.{other_scale, broken_parts, other_sizes, no_room, run_answered}
use Rattle.runs.proofs.Calls.{unknown_from, unknown_to, broken_first, broken_second, sizes-differ, few-first, few-second, few-numbers, none-refused}
use Rattle.runs.proofs.laws.Refusing.{five}

-- EACH OF THE FIVE SCALES is taken; that no other is says `five`
pub scale_taken : (n : ℕ) → Five n → is_run_scale n ≡ true
unfolding is_run_scale
scale_taken _ utc = refl
scale_taken _ tai = refl
scale_taken _ tt' = refl
scale_taken _ gps = refl
scale_taken _ tcg = refl

not_known : (n : ℕ) → is_run_scale n ≡ false → Five n → ⊥
not_known n e f = true≢false (sym (scale_taken n f) ∙ e)

-- ---- THE ORDER OF THE REFUSALS, and what is left
module _ (from to size1 size2 room1 room2 room : ℕ) where
  abbrev Decided : Type 0
  Decided = RunDecision from to size1 size2 room1 room2 room (run_refusal from to size1 size2 room1 room2 room)

  module _ (a : is_run_scale from ≡ true) (b : is_run_scale to ≡ true) where
    known : BothKnown from to
    known = record { first = five from a; second = five to b }

    module _ (c : size1 % 8 ≡ 0) (d : size2 % 8 ≡ 0) where
      module _ (e : size1 ≡ size2) where
        n : ℕ
        n = size1 / 8

        first-parts : size1 ≡ 8 * n
        unfolding n
        first-parts = omega arith

        second_parts : size2 ≡ 8 * n
        unfolding n
        second_parts = omega arith

        places : (t u v : Bool) → leb size1 room1 ≡ t → leb size1 room2 ≡ u → leb (size1 / 8) room ≡ v → Decided
        unfolding n
        places true true true p q r =
            run_answered known n first-parts second_parts
            (record {
              first = omega (arith, leb-true size1 room1 p, first-parts);
              second = omega (arith, leb-true size1 room2 q, first-parts);
              third = leb-true (size1 / 8) room r;
            })
            (sym (none-refused from to size1 size2 room1 room2 room a b c d e (leb-true size1 room1 p) (leb-true size1 room2 q) (leb-true (size1 / 8) room r)))
        places true true false p q r =
            no_room known n first-parts second_parts (λ w. omega (arith, w.third, leb-false (size1 / 8) room r))
            (sym (few-numbers from to size1 size2 room1 room2 room a b c d e (leb-true size1 room1 p) (leb-true size1 room2 q)
            (leb-false (size1 / 8) room r)))
        places true false v p q r =
            no_room known n first-parts second_parts (λ w. omega (arith, w.second, leb-false size1 room2 q, first-parts))
            (sym (few-second from to size1 size2 room1 room2 room a b c d e (leb-true size1 room1 p) (leb-false size1 room2 q)))
        places false u v p q r =
            no_room known n first-parts second_parts (λ w. omega (arith, w.first, leb-false size1 room1 p, first-parts))
            (sym (few-first from to size1 size2 room1 room2 room a b c d e (leb-false size1 room1 p)))

      sizes : (t : Bool) → eqb size1 size2 ≡ t → Decided
      sizes true p = places (eqb-true size1 size2 p) (leb size1 room1) (leb size1 room2) (leb (size1 / 8) room) refl refl refl
      sizes false p =
          other_sizes known c d (eqb-false size1 size2 p)
          (sym (sizes-differ from to size1 size2 room1 room2 room a b c d (eqb-false size1 size2 p)))

    whole : (t u : Bool) → eqb (size1 % 8) 0 ≡ t → eqb (size2 % 8) 0 ≡ u → Decided
    whole true true p q = sizes (eqb-true (size1 % 8) 0 p) (eqb-true (size2 % 8) 0 q) (eqb size1 size2) refl
    whole true false p q =
        broken_parts known (λ w. eqb-false (size2 % 8) 0 q w.1)
        (sym (broken_second from to size1 size2 room1 room2 room a b (eqb-true (size1 % 8) 0 p) (eqb-false (size2 % 8) 0 q)))
    whole false u p q =
        broken_parts known (λ w. eqb-false (size1 % 8) 0 p w.0)
        (sym (broken_first from to size1 size2 room1 room2 room a b (eqb-false (size1 % 8) 0 p)))

  scales : (t u : Bool) → is_run_scale from ≡ t → is_run_scale to ≡ u → Decided
  scales true true p q = whole p q (eqb (size1 % 8) 0) (eqb (size2 % 8) 0) refl refl
  scales true false p q = other_scale (λ k. not_known to q k.second) (sym (unknown_to from to size1 size2 room1 room2 room p q))
  scales false u p q = other_scale (λ k. not_known from p k.first) (sym (unknown_from from to size1 size2 room1 room2 room p))

  pub run-decided : RunDecision from to size1 size2 room1 room2 room (run_refusal from to size1 size2 room1 room2 room)
  run-decided = scales (is_run_scale from) (is_run_scale to) refl refl

-- the lengths of n stamps between two of the five scales are taken
pub run-taken : (from to n size1 size2 room1 room2 room : ℕ) → Five from → Five to → size1 ≡ 8 * n → size2 ≡ 8 * n → PlacesFor n room1 room2 room
    → run_refusal from to size1 size2 room1 room2 room ≡ 0
run-taken from to n size1 size2 room1 room2 room f g p q w =
    sym (none-refused from to size1 size2 room1 room2 room (scale_taken from f) (scale_taken to g) (omega arith) (omega arith) (omega arith)
    (omega (arith, w.first)) (omega (arith, w.second)) (omega (arith, w.third)))

-- no pair of the five is refused by 18, whatever the lengths are
pub never-18 : (from to : ℕ) → Five from → Five to → (size1 size2 room1 room2 room : ℕ) → run_refusal from to size1 size2 room1 room2 room ≡ 18 → ⊥
never-18 from to f g size1 size2 room1 room2 room e = go (run-decided from to size1 size2 room1 room2 room)
  where
    go : RunDecision from to size1 size2 room1 room2 room (run_refusal from to size1 size2 room1 room2 room) → ⊥
    go (other_scale h k) = h (record { first = f; second = g })
    go (broken_parts h w k) = omega arith
    go (other_sizes h u v w k) = omega arith
    go (no_room h n p q w k) = omega arith
    go (run_answered h n p q w k) = omega arith
