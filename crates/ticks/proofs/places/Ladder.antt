-- The refusals of a run of readings in their order, what is known where nothing is refused, and the call as a whole. Assumes nothing.
use Prim.Native.Nat.{ℕ, ◌-◌, ◌/◌, ◌<◌, ◌≤◌}
use native.Mathlib.Omega.{arith}
use mathlib.Core.Path.{◌≡◌, refl}
use mathlib.Core.Bool.{Bool, true, false, cond, ◌&&◌}
use mathlib.Core.List.{List}
use lib.Dec.{eqb, leb}
use lib.ListN.{length}
use borrow.Author.Tests.{eqb-true, leb-true, eq-eqb, ne_eqb, le-leb, lt-leb}
use Rattle.std.specs.Prelude.{Result, Ok}
use Rattle.refusals.specs.declared.Refusal.{Refusal}
use Rattle.refusals.specs.Refusal.{refusal_number}
use Rattle.refusals.specs.Outcome.{answer, refusal, outcome}
use Rattle.ticks.specs.judging.Refusing.{numbers_in, whole_numbers, passes_refusal}
use Rattle.ticks.specs.places.Places.{without_place, reading_at, places_refusal, places_call, readings_written, placed_run}
use Rattle.ticks.specs.places.Asked.{HasReadings, ReadingsPut}
use Rattle.ticks.proofs.Refused.{not-zero}
use Rattle.ticks.proofs.places.Puts.{at_most}
use Rattle.ticks.proofs.judging.Ladder.{passes-right, usable-is, passes-good}

module _ (ps ls ms : List ℕ) (count room : ℕ) where
  pub not_whole : whole_numbers ps && (whole_numbers ls && whole_numbers ms) ≡ false → 14 ≡ places_refusal ps ls ms count room
  unfolding places_refusal
  not_whole w = rw w

  module _ (w : whole_numbers ps && (whole_numbers ls && whole_numbers ms) ≡ true) where
    pub other_count : (numbers_in ms ≡ count → ⊥) → 12 ≡ places_refusal ps ls ms count room
    unfolding places_refusal
    other_count h = rw (w, ne_eqb (numbers_in ms) count h)

    module _ (e : numbers_in ms ≡ count) where
      pub no_room : room / 8 < numbers_in ms → 11 ≡ places_refusal ps ls ms count room
      unfolding places_refusal
      no_room h = rw (w, eq-eqb (numbers_in ms) count e, lt-leb (numbers_in ms) (room / 8) h)

      pub by-passes : numbers_in ms ≤ room / 8 → passes_refusal ps ls ≡ places_refusal ps ls ms count room
      unfolding places_refusal
      by-passes h = rw (w, eq-eqb (numbers_in ms) count e, le-leb (numbers_in ms) (room / 8) h)

-- ---- nothing is refused
pub record Taken (ps ls ms : List ℕ) (count room : ℕ) : Type 0 where
  pub as_many : numbers_in ms ≡ count
  pub fits : numbers_in ms ≤ room / 8
  pub passes : passes_refusal ps ls ≡ 0

pub taken : (ps ls ms : List ℕ) (count room : ℕ) → places_refusal ps ls ms count room ≡ 0 → Taken ps ls ms count room
unfolding places_refusal
taken ps ls ms count room = go (whole_numbers ps && (whole_numbers ls && whole_numbers ms)) (eqb (numbers_in ms) count)
    (leb (numbers_in ms) (room / 8)) refl refl
  where
    go : (a b c : Bool) → eqb (numbers_in ms) count ≡ b → leb (numbers_in ms) (room / 8) ≡ c → cond a (cond b (cond c (passes_refusal ps ls) 11) 12) 14 ≡ 0
        → Taken ps ls ms count room
    go true true true p q h = record { as_many = eqb-true (numbers_in ms) count p; fits = leb-true (numbers_in ms) (room / 8) q; passes = h }
    go true true false p q h = absurd (omega arith)
    go true false c p q h = absurd (omega arith)
    go false b c p q h = absurd (omega arith)

-- ---- the call
module _ (ps ls ms out ns : List ℕ) where
  pub run-refused : (r : Result ℕ Refusal) (k : Refusal) → outcome r ≡ refusal (refusal_number k) → refusal_number k ≡ places_refusal ps ls ms (length ns)
      (length out)
      → places_call (outcome r) out ns ≡ placed_run ps ls ms out ns
  unfolding placed_run
  run-refused r k i e = rw (i, ← e, ne_eqb (refusal_number k) 0 (not-zero k))

  module _ (z : places_refusal ps ls ms (length ns) (length out) ≡ 0) where
    t : Taken ps ls ms (length ns) (length out)
    t = taken ps ls ms (length ns) (length out) z

    pub passes-two : 2 ≤ numbers_in ps
    passes-two = (usable-is ps ls (passes-right ps ls t.passes).0).counted.two

    pub has-readings : (k : ℕ) → k ≡ numbers_in ps - 2 → HasReadings ps ls k ms (numbers_in ms) out ns
    has-readings k e = record {
      passes = passes-good ps ls (passes-right ps ls t.passes).0 (passes-right ps ls t.passes).1 k e;
      there = omega arith;
      places = omega (arith, t.fits);
      bytes = omega (arith, t.as_many);
    }

    pub run-placed : (r : ℕ) (out' ns' : List ℕ) → ReadingsPut (reading_at ps ls ms ns) (numbers_in ms) out ns r out' ns'
        → places_call (outcome (Ok r)) out' ns' ≡ placed_run ps ls ms out ns
    unfolding placed_run outcome readings_written
    run-placed r out' ns' p = rw (z, p.count, p.places, p.numbers)

-- at most all readings have no place
pub run-count : (ps ls ms out ns : List ℕ) (j : ℕ) → answer j ≡ (placed_run ps ls ms out ns).answer → j ≤ numbers_in ms
unfolding placed_run readings_written
run-count ps ls ms out ns j e = go (eqb (places_refusal ps ls ms (length ns) (length out)) 0) e
  where
    go : (b : Bool) → answer j ≡ (cond b (readings_written (reading_at ps ls ms ns) (numbers_in ms) out ns)
        (places_call (refusal (places_refusal ps ls ms (length ns) (length out))) out ns)).answer → j ≤ numbers_in ms
    go true h = let w : j ≡ without_place (reading_at ps ls ms ns) (numbers_in ms) = cc in omega (arith, at_most (reading_at ps ls ms ns) (numbers_in ms))
    go false h = let y : ◌≡◌ {A = ℕ} 0 1 = cc in absurd (omega arith)
