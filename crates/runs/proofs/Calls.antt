-- The call as a whole: the refusals of the scales and the lengths, what no refusal says, and the answer. Assumes nothing.
use Prim.Native.Nat.{ℕ, zero, suc, ◌*◌, ◌/◌, ◌%◌, ◌<◌, ◌≤◌}
use native.Mathlib.Omega.{arith}
use native.Mathlib.Nat.{div-mul-le_self}
use mathlib.Core.Path.{◌≡◌, refl, sym, ap, ◌∙◌}
use mathlib.Core.Bool.{Bool, true, false, cond, ◌&&◌}
use mathlib.Core.List.{List}
use lib.Dec.{eqb, leb}
use lib.ListN.{length}
use borrow.Author.Tests.{eq-eqb, ne_eqb, le-leb, lt-leb, eqb-true, leb-true}
use Rattle.std.specs.Prelude.{Result, Ok, IsErrAnd}
use Rattle.refusals.specs.declared.Refusal.{Refusal}
use Rattle.refusals.specs.Refusal.{refusal_number}
use Rattle.refusals.proofs.Handed.{handed_on, number_low}
use Rattle.refusals.specs.Outcome.{Outcome, answer, refusal, outcome}
use Rattle.leap_table.specs.rows.Table.{Row}
use Rattle.leap_table.specs.rows.Announced.{unless_refused}
use Rattle.runs.specs.ways.Ways.{is_run_scale}
use Rattle.runs.specs.by_formula.Run.{refused_among, run_call, run_written}
use Rattle.runs.specs.Run.{stamp_answer, run_refusal, run_by, converted_run}
use Rattle.runs.specs.by_formula.Asked.{Roomy, RunPut}
use Rattle.runs.proofs.by_formula.Puts.{at_most}

-- ---- the refusals, by the outcomes of the tests
module _ (from to size1 size2 room1 room2 room : ℕ) where
  pub unknown_from : is_run_scale from ≡ false → 18 ≡ run_refusal from to size1 size2 room1 room2 room
  unfolding run_refusal
  unknown_from a = rw a

  module _ (a : is_run_scale from ≡ true) where
    pub unknown_to : is_run_scale to ≡ false → 18 ≡ run_refusal from to size1 size2 room1 room2 room
    unfolding run_refusal
    unknown_to b = rw (a, b)

    module _ (b : is_run_scale to ≡ true) where
      pub broken_first : (size1 % 8 ≡ 0 → ⊥) → 14 ≡ run_refusal from to size1 size2 room1 room2 room
      unfolding run_refusal
      broken_first c = rw (a, b, ne_eqb (size1 % 8) 0 c)

      module _ (c : size1 % 8 ≡ 0) where
        pub broken_second : (size2 % 8 ≡ 0 → ⊥) → 14 ≡ run_refusal from to size1 size2 room1 room2 room
        unfolding run_refusal
        broken_second d = rw (a, b, eq-eqb (size1 % 8) 0 c, ne_eqb (size2 % 8) 0 d)

        module _ (d : size2 % 8 ≡ 0) where
          pub sizes-differ : (size1 ≡ size2 → ⊥) → 12 ≡ run_refusal from to size1 size2 room1 room2 room
          unfolding run_refusal
          sizes-differ e = rw (a, b, eq-eqb (size1 % 8) 0 c, eq-eqb (size2 % 8) 0 d, ne_eqb size1 size2 e)

          module _ (e : size1 ≡ size2) where
            pub few-first : room1 < size1 → 11 ≡ run_refusal from to size1 size2 room1 room2 room
            unfolding run_refusal
            few-first f = rw (a, b, eq-eqb (size1 % 8) 0 c, eq-eqb (size2 % 8) 0 d, eq-eqb size1 size2 e, lt-leb size1 room1 f)

            module _ (f : size1 ≤ room1) where
              pub few-second : room2 < size1 → 11 ≡ run_refusal from to size1 size2 room1 room2 room
              unfolding run_refusal
              few-second g = rw (a, b, eq-eqb (size1 % 8) 0 c, eq-eqb (size2 % 8) 0 d, eq-eqb size1 size2 e, le-leb size1 room1 f, lt-leb size1 room2 g)

              module _ (g : size1 ≤ room2) where
                pub few-numbers : room < size1 / 8 → 11 ≡ run_refusal from to size1 size2 room1 room2 room
                unfolding run_refusal
                few-numbers h = rw (
                  a,
                  b,
                  eq-eqb (size1 % 8) 0 c,
                  eq-eqb (size2 % 8) 0 d,
                  eq-eqb size1 size2 e,
                  le-leb size1 room1 f,
                  le-leb size1 room2 g,
                  lt-leb (size1 / 8) room h,
                )

                pub none-refused : size1 / 8 ≤ room → 0 ≡ run_refusal from to size1 size2 room1 room2 room
                unfolding run_refusal
                none-refused h = rw (
                  a,
                  b,
                  eq-eqb (size1 % 8) 0 c,
                  eq-eqb (size2 % 8) 0 d,
                  eq-eqb size1 size2 e,
                  le-leb size1 room1 f,
                  le-leb size1 room2 g,
                  le-leb (size1 / 8) room h,
                )

-- ---- what no refusal says
pub record Fitting (from to size1 size2 room1 room2 room : ℕ) : Type 0 where
  pub known_from : is_run_scale from ≡ true
  pub known-to : is_run_scale to ≡ true
  pub whole1 : size1 % 8 ≡ 0
  pub whole2 : size2 % 8 ≡ 0
  pub same : size1 ≡ size2
  pub places1 : size1 ≤ room1
  pub places2 : size1 ≤ room2
  pub bytes : size1 / 8 ≤ room

module _ (from to size1 size2 room1 room2 room : ℕ) where
  fitting_by : (b0 b1 b2 b3 b4 b5 b6 b7 : Bool) → is_run_scale from ≡ b0 → is_run_scale to ≡ b1 → eqb (size1 % 8) 0 ≡ b2 → eqb (size2 % 8) 0 ≡ b3
      → eqb size1 size2 ≡ b4 → leb size1 room1 ≡ b5 → leb size1 room2 ≡ b6 → leb (size1 / 8) room ≡ b7
      → ◌≡◌ {A = ℕ} (cond (b0 && b1) (cond (b2 && b3) (cond b4 (cond (b5 && (b6 && b7)) 0 11) 12) 14) 18) 0 → Fitting from to size1 size2 room1 room2 room
  fitting_by true true true true true true true true p0 p1 p2 p3 p4 p5 p6 p7 z = record {
    known_from = p0;
    known-to = p1;
    whole1 = eqb-true (size1 % 8) 0 p2;
    whole2 = eqb-true (size2 % 8) 0 p3;
    same = eqb-true size1 size2 p4;
    places1 = leb-true size1 room1 p5;
    places2 = leb-true size1 room2 p6;
    bytes = leb-true (size1 / 8) room p7;
  }
  fitting_by true true true true true true true false p0 p1 p2 p3 p4 p5 p6 p7 z = let w : ⊥ = omega arith in absurd w
  fitting_by true true true true true true false b7 p0 p1 p2 p3 p4 p5 p6 p7 z = let w : ⊥ = omega arith in absurd w
  fitting_by true true true true true false b6 b7 p0 p1 p2 p3 p4 p5 p6 p7 z = let w : ⊥ = omega arith in absurd w
  fitting_by true true true true false b5 b6 b7 p0 p1 p2 p3 p4 p5 p6 p7 z = let w : ⊥ = omega arith in absurd w
  fitting_by true true true false b4 b5 b6 b7 p0 p1 p2 p3 p4 p5 p6 p7 z = let w : ⊥ = omega arith in absurd w
  fitting_by true true false b3 b4 b5 b6 b7 p0 p1 p2 p3 p4 p5 p6 p7 z = let w : ⊥ = omega arith in absurd w
  fitting_by true false b2 b3 b4 b5 b6 b7 p0 p1 p2 p3 p4 p5 p6 p7 z = let w : ⊥ = omega arith in absurd w
  fitting_by false b1 b2 b3 b4 b5 b6 b7 p0 p1 p2 p3 p4 p5 p6 p7 z = let w : ⊥ = omega arith in absurd w

  pub fitting : run_refusal from to size1 size2 room1 room2 room ≡ 0 → Fitting from to size1 size2 room1 room2 room
  unfolding run_refusal
  fitting z =
      fitting_by (is_run_scale from) (is_run_scale to) (eqb (size1 % 8) 0) (eqb (size2 % 8) 0) (eqb size1 size2) (leb size1 room1) (leb size1 room2)
      (leb (size1 / 8) room)
      refl refl refl refl refl refl refl refl z

-- ---- the call
module _ (rows : List Row) (from to : ℕ) (js ks out1 out2 numbers : List ℕ) where
  -- what the call answers where it hands on the refusal k of its scales or lengths
  pub run-refused : (s : Result ℕ Refusal) (k : Refusal) → IsErrAnd s (λ e. e ≡ k)
      → refusal_number k ≡ run_refusal from to (length js) (length ks) (length out1) (length out2) (length numbers)
      → run_call (outcome s) out1 out2 numbers ≡ run_by rows from to js ks out1 out2 numbers
  unfolding run_by
  run-refused s k p e = rw (handed_on s k p, ← e, ne_eqb (refusal_number k) 0 (λ z. omega (arith, z, number_low k)))

  module _ (z : 0 ≡ run_refusal from to (length js) (length ks) (length out1) (length out2) (length numbers)) where
    fits : Fitting from to (length js) (length ks) (length out1) (length out2) (length numbers)
    fits = fitting from to (length js) (length ks) (length out1) (length out2) (length numbers) (sym z)

    pub roomy : Roomy (length js / 8) js ks out1 out2 numbers
    roomy =
        let h : 8 * (length js / 8) ≤ length js = omega (arith, div-mul-le_self (length js) 8) in
        record {
          first = h;
          second = omega (arith, h, fits.same);
          places1 = omega (arith, h, fits.places1);
          places2 = omega (arith, h, fits.places2);
          bytes = fits.bytes;
        }

    pub run_ends : (r : ℕ) (out1' out2' numbers' : List ℕ) → RunPut (stamp_answer rows from to js ks) (length js / 8) out1 out2 numbers r out1' out2' numbers'
        → run_call (outcome (Ok r)) out1' out2' numbers' ≡ run_by rows from to js ks out1 out2 numbers
    unfolding run_by outcome run_written
    run_ends r out1' out2' numbers' p = rw (← z, p.count, p.first, p.second, p.third)

-- ---- at most all stamps are refused
pub run-count : (rows : List Row) (from to : ℕ) (js ks out1 out2 numbers : List ℕ) (k : ℕ) → answer k ≡ (run_by rows from to js ks out1 out2 numbers).answer
    → k ≤ length js / 8
unfolding run_by run_written
run-count rows from to js ks out1 out2 numbers k e = go (eqb number 0) e
  where
    number : ℕ
    number = run_refusal from to (length js) (length ks) (length out1) (length out2) (length numbers)

    go : (b : Bool) → answer k ≡ (cond b (run_written (stamp_answer rows from to js ks) (length js / 8) out1 out2 numbers)
        (run_call (refusal number) out1 out2 numbers)).answer → k ≤ length js / 8
    go true q =
        let same : k ≡ refused_among (stamp_answer rows from to js ks) (length js / 8) = cc q in
        omega (arith, same, at_most (stamp_answer rows from to js ks) (length js / 8))
    go false q = let z : ◌≡◌ {A = ℕ} 0 1 = cc q in let w : ⊥ = omega arith in absurd w

-- ---- the call that tests its table: the number n that is found, and the rows
module _ (o : Outcome (List Row)) (rows : List Row) (n : ℕ) (e : unless_refused n rows ≡ o) (from to : ℕ) (js ks out1 out2 numbers : List ℕ) where
  pub table-refused : (n ≡ 0 → ⊥) → run_call (refusal n) out1 out2 numbers ≡ converted_run o from to js ks out1 out2 numbers
  unfolding converted_run
  table-refused h = go n h ∙ ap (λ (x : Outcome (List Row)). converted_run x from to js ks out1 out2 numbers) e
    where
      go : (k : ℕ) → (k ≡ 0 → ⊥) → run_call (refusal k) out1 out2 numbers ≡ converted_run (unless_refused k rows) from to js ks out1 out2 numbers
      go zero h = absurd (h refl)
      go (suc k) h = refl

  pub table_taken : n ≡ 0 → run_by rows from to js ks out1 out2 numbers ≡ converted_run o from to js ks out1 out2 numbers
  unfolding converted_run
  table_taken h =
      ap (λ (k : ℕ). converted_run (unless_refused k rows) from to js ks out1 out2 numbers) (sym h)
      ∙ ap (λ (x : Outcome (List Row)). converted_run x from to js ks out1 out2 numbers) e
