-- The call on a run as a whole: the refusals of the lengths, what no refusal says, and the answer. Assumes nothing.
use Prim.Native.Nat.{ℕ, ◌/◌, ◌%◌, ◌<◌, ◌≤◌}
use native.Mathlib.Omega.{arith}
use native.Mathlib.Nat.{div-mul-le_self}
use mathlib.Core.Path.{◌≡◌, refl, sym}
use mathlib.Core.Bool.{Bool, true, false, cond, ◌&&◌}
use mathlib.Core.List.{List}
use lib.Dec.{eqb, leb}
use lib.ListN.{length}
use borrow.Author.Tests.{eq-eqb, ne_eqb, le-leb, lt-leb, eqb-true, leb-true}
use Rattle.std.specs.Prelude.{Result, Ok, IsErrAnd}
use Rattle.refusals.specs.declared.Refusal.{Refusal}
use Rattle.refusals.specs.Refusal.{refusal_number}
use Rattle.refusals.proofs.Handed.{handed_on, number_low}
use Rattle.refusals.specs.Outcome.{Outcome, answer, refusal, outcome}
use Rattle.julian.specs.declared.JulianDate.{JulianDate}
use Rattle.since_launch.specs.declared.Place.{Place}
use Rattle.since_launch.specs.Millis.{place_at}
use Rattle.since_launch.specs.Run.{stamp_millis, millis_refused, millis_call, millis_written, run_lengths_refusal}
use Rattle.since_launch.specs.Run.{millis_by, millis_from, millis_of_run}
use Rattle.since_launch.specs.Asked.{RoomForRun, MillisRunPut}
use Rattle.since_launch.proofs.Puts.{at_most}

-- ---- the refusals, by the outcomes of the tests
module _ (size1 size2 room1 room2 : ℕ) where
  pub broken_first : (size1 % 8 ≡ 0 → ⊥) → 14 ≡ run_lengths_refusal size1 size2 room1 room2
  unfolding run_lengths_refusal
  broken_first c = rw (ne_eqb (size1 % 8) 0 c)

  module _ (c : size1 % 8 ≡ 0) where
    pub broken_second : (size2 % 8 ≡ 0 → ⊥) → 14 ≡ run_lengths_refusal size1 size2 room1 room2
    unfolding run_lengths_refusal
    broken_second d = rw (eq-eqb (size1 % 8) 0 c, ne_eqb (size2 % 8) 0 d)

    module _ (d : size2 % 8 ≡ 0) where
      pub sizes-differ : (size1 ≡ size2 → ⊥) → 12 ≡ run_lengths_refusal size1 size2 room1 room2
      unfolding run_lengths_refusal
      sizes-differ e = rw (eq-eqb (size1 % 8) 0 c, eq-eqb (size2 % 8) 0 d, ne_eqb size1 size2 e)

      module _ (e : size1 ≡ size2) where
        pub few-places : room1 < size1 → 11 ≡ run_lengths_refusal size1 size2 room1 room2
        unfolding run_lengths_refusal
        few-places f = rw (eq-eqb (size1 % 8) 0 c, eq-eqb (size2 % 8) 0 d, eq-eqb size1 size2 e, lt-leb size1 room1 f)

        module _ (f : size1 ≤ room1) where
          pub few-numbers : room2 < size1 / 8 → 11 ≡ run_lengths_refusal size1 size2 room1 room2
          unfolding run_lengths_refusal
          few-numbers g = rw (eq-eqb (size1 % 8) 0 c, eq-eqb (size2 % 8) 0 d, eq-eqb size1 size2 e, le-leb size1 room1 f, lt-leb (size1 / 8) room2 g)

          pub none-refused : size1 / 8 ≤ room2 → 0 ≡ run_lengths_refusal size1 size2 room1 room2
          unfolding run_lengths_refusal
          none-refused g = rw (eq-eqb (size1 % 8) 0 c, eq-eqb (size2 % 8) 0 d, eq-eqb size1 size2 e, le-leb size1 room1 f, le-leb (size1 / 8) room2 g)

-- ---- what no refusal says
pub record Fitting (size1 size2 room1 room2 : ℕ) : Type 0 where
  pub whole1 : size1 % 8 ≡ 0
  pub whole2 : size2 % 8 ≡ 0
  pub same : size1 ≡ size2
  pub places : size1 ≤ room1
  pub bytes : size1 / 8 ≤ room2

module _ (size1 size2 room1 room2 : ℕ) where
  fitting_by : (b2 b3 b4 b5 b6 : Bool) → eqb (size1 % 8) 0 ≡ b2 → eqb (size2 % 8) 0 ≡ b3 → eqb size1 size2 ≡ b4 → leb size1 room1 ≡ b5
      → leb (size1 / 8) room2 ≡ b6 → ◌≡◌ {A = ℕ} (cond (b2 && b3) (cond b4 (cond (b5 && b6) 0 11) 12) 14) 0 → Fitting size1 size2 room1 room2
  fitting_by true true true true true p2 p3 p4 p5 p6 z = record {
    whole1 = eqb-true (size1 % 8) 0 p2;
    whole2 = eqb-true (size2 % 8) 0 p3;
    same = eqb-true size1 size2 p4;
    places = leb-true size1 room1 p5;
    bytes = leb-true (size1 / 8) room2 p6;
  }
  fitting_by true true true true false p2 p3 p4 p5 p6 z = let w : ⊥ = omega arith in absurd w
  fitting_by true true true false b6 p2 p3 p4 p5 p6 z = let w : ⊥ = omega arith in absurd w
  fitting_by true true false b5 b6 p2 p3 p4 p5 p6 z = let w : ⊥ = omega arith in absurd w
  fitting_by true false b4 b5 b6 p2 p3 p4 p5 p6 z = let w : ⊥ = omega arith in absurd w
  fitting_by false b3 b4 b5 b6 p2 p3 p4 p5 p6 z = let w : ⊥ = omega arith in absurd w

  pub fitting : run_lengths_refusal size1 size2 room1 room2 ≡ 0 → Fitting size1 size2 room1 room2
  unfolding run_lengths_refusal
  fitting z = fitting_by (eqb (size1 % 8) 0) (eqb (size2 % 8) 0) (eqb size1 size2) (leb size1 room1) (leb (size1 / 8) room2) refl refl refl refl refl z

-- ---- the call from a launch whose place is known
module _ (launch : Place) (js ks out numbers : List ℕ) where
  pub run-refused : (s : Result ℕ Refusal) (k : Refusal) → IsErrAnd s (λ e. e ≡ k)
      → refusal_number k ≡ run_lengths_refusal (length js) (length ks) (length out) (length numbers)
      → millis_call (outcome s) out numbers ≡ millis_by launch js ks out numbers
  unfolding millis_by
  run-refused s k p e = rw (handed_on s k p, ← e, ne_eqb (refusal_number k) 0 (λ z. omega (arith, z, number_low k)))

  module _ (z : 0 ≡ run_lengths_refusal (length js) (length ks) (length out) (length numbers)) where
    fits : Fitting (length js) (length ks) (length out) (length numbers)
    fits = fitting (length js) (length ks) (length out) (length numbers) (sym z)

    pub roomy : RoomForRun (length js / 8) js out numbers
    roomy = record {
      stamps = omega (arith, div-mul-le_self (length js) 8);
      places = omega (arith, fits.places, div-mul-le_self (length js) 8);
      bytes = fits.bytes;
    }

    pub run_ends : (r : ℕ) (out' numbers' : List ℕ) → MillisRunPut (stamp_millis launch js ks) (length js / 8) out numbers r out' numbers'
        → millis_call (outcome (Ok r)) out' numbers' ≡ millis_by launch js ks out numbers
    unfolding millis_by outcome millis_written
    run_ends r out' numbers' p = rw (← z, p.count, p.first, p.second)

-- ---- the call
module _ (from : JulianDate) (js ks out numbers : List ℕ) where
  pub launch-out : (s : Result ℕ Refusal) (k : Refusal) → IsErrAnd s (λ e. e ≡ k) → refusal (refusal_number k) ≡ place_at from
      → millis_call (outcome s) out numbers ≡ millis_of_run from js ks out numbers
  unfolding millis_of_run millis_from
  launch-out s k p e = rw (handed_on s k p, ← e)

  pub launch-in : (p : Place) → answer p ≡ place_at from → millis_by p js ks out numbers ≡ millis_of_run from js ks out numbers
  unfolding millis_of_run millis_from
  launch-in p e = rw (← e)

  -- at most all stamps are refused
  pub run-count : (k : ℕ) → answer k ≡ (millis_of_run from js ks out numbers).answer → k ≤ length js / 8
  unfolding millis_of_run millis_from millis_by millis_written
  run-count k e = go (place_at from) e
    where
      by : (p : Place) (b : Bool) → answer k ≡ (cond b (millis_written (stamp_millis p js ks) (length js / 8) out numbers)
          (millis_call (refusal (run_lengths_refusal (length js) (length ks) (length out) (length numbers))) out numbers)).answer → k ≤ length js / 8
      by p true q =
          let same : k ≡ millis_refused (stamp_millis p js ks) (length js / 8) = cc q in
          omega (arith, same, at_most (stamp_millis p js ks) (length js / 8))
      by p false q = let z : ◌≡◌ {A = ℕ} 0 1 = cc q in let w : ⊥ = omega arith in absurd w

      go : (o : Outcome Place) → answer k ≡ (millis_from o js ks out numbers).answer → k ≤ length js / 8
      go (answer p) q = by p (eqb (run_lengths_refusal (length js) (length ks) (length out) (length numbers)) 0) q
      go (refusal j) q = let z : ◌≡◌ {A = ℕ} 0 1 = cc q in let w : ⊥ = omega arith in absurd w
