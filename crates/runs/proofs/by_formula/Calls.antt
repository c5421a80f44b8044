-- The call as a whole: the refusals, what no refusal says, and the answer. Assumes nothing.
use Prim.Native.Nat.{ℕ, ◌*◌, ◌/◌, ◌%◌, ◌≤◌}
use native.Mathlib.Omega.{arith}
use native.Mathlib.Nat.{div-mul-le_self}
use mathlib.Core.Path.{◌≡◌, refl, sym, ap, ◌∙◌}
use mathlib.Core.Bool.{Bool, true, false, cond, ◌&&◌, ◌||◌}
use mathlib.Core.List.{List}
use lib.Dec.{eqb, leb}
use lib.ListN.{length}
use lib.Ieee.{Float, binary64, of_bits}
use borrow.Author.Tests.{ne_eqb, eqb-true, leb-true}
use Rattle.std.specs.Prelude.{Result, Ok, IsErrAnd}
use Rattle.refusals.specs.declared.Refusal.{Refusal}
use Rattle.refusals.specs.Refusal.{refusal_number}
use Rattle.refusals.proofs.Handed.{handed_on, number_low}
use Rattle.refusals.specs.Outcome.{answer, refusal, outcome}
use Rattle.numerals.specs.little_endian.LittleEndian.{u64_at}
use Rattle.julian.specs.stamp_lists.Stamps.{stamp_of}
use Rattle.runs.specs.by_formula.Run.{refused_among, run_call, run_written}
use Rattle.runs.specs.by_formula.Formula.{formula_answer, formula_refusal, formula_run}
use Rattle.runs.specs.by_formula.Asked.{Roomy, RunPut, change_of, answer_of_kind, size_due, kind_refusal, IsFormula, changed_stamp, offset_stamp}
use Rattle.runs.proofs.by_formula.Puts.{run-same, at_most}

-- ---- what no refusal says
pub record Fitting (kind size1 size2 size3 room1 room2 room : ℕ) : Type 0 where
  pub some : eqb kind 0 ≡ false
  pub same : size1 ≡ size2
  pub due : size3 ≡ size_due kind size1
  pub places1 : size1 ≤ room1
  pub places2 : size1 ≤ room2
  pub bytes : size1 / 8 ≤ room

module _ (kind size1 size2 size3 room1 room2 room : ℕ) where
  fitting_by : (b0 b1 b2 b3 b4 b5 b6 b7 b8 : Bool) → eqb kind 0 ≡ b0 → eqb size1 size2 ≡ b4 → eqb size3 (size_due kind size1) ≡ b5 → leb size1 room1 ≡ b6
      → leb size1 room2 ≡ b7 → leb (size1 / 8) room ≡ b8
      → ◌≡◌ {A = ℕ} (cond b0 18 (cond (b1 && (b2 && b3)) (cond (b4 && b5) (cond (b6 && (b7 && b8)) 0 11) 12) 14)) 0
      → Fitting kind size1 size2 size3 room1 room2 room
  fitting_by false true true true true true true true true p0 p4 p5 p6 p7 p8 z = record {
    some = p0;
    same = eqb-true size1 size2 p4;
    due = eqb-true size3 (size_due kind size1) p5;
    places1 = leb-true size1 room1 p6;
    places2 = leb-true size1 room2 p7;
    bytes = leb-true (size1 / 8) room p8;
  }
  fitting_by false true true true true true true true false p0 p4 p5 p6 p7 p8 z = let w : ⊥ = omega arith in absurd w
  fitting_by false true true true true true true false b8 p0 p4 p5 p6 p7 p8 z = let w : ⊥ = omega arith in absurd w
  fitting_by false true true true true true false b7 b8 p0 p4 p5 p6 p7 p8 z = let w : ⊥ = omega arith in absurd w
  fitting_by false true true true true false b6 b7 b8 p0 p4 p5 p6 p7 p8 z = let w : ⊥ = omega arith in absurd w
  fitting_by false true true true false b5 b6 b7 b8 p0 p4 p5 p6 p7 p8 z = let w : ⊥ = omega arith in absurd w
  fitting_by false true true false b4 b5 b6 b7 b8 p0 p4 p5 p6 p7 p8 z = let w : ⊥ = omega arith in absurd w
  fitting_by false true false b3 b4 b5 b6 b7 b8 p0 p4 p5 p6 p7 p8 z = let w : ⊥ = omega arith in absurd w
  fitting_by false false b2 b3 b4 b5 b6 b7 b8 p0 p4 p5 p6 p7 p8 z = let w : ⊥ = omega arith in absurd w
  fitting_by true b1 b2 b3 b4 b5 b6 b7 b8 p0 p4 p5 p6 p7 p8 z = let w : ⊥ = omega arith in absurd w

  pub fitting : kind_refusal kind size1 size2 size3 room1 room2 room ≡ 0 → Fitting kind size1 size2 size3 room1 room2 room
  unfolding kind_refusal
  fitting z =
      fitting_by (eqb kind 0) (eqb (size1 % 8) 0) (eqb (size2 % 8) 0) (eqb (size3 % 8) 0) (eqb size1 size2) (eqb size3 (size_due kind size1)) (leb size1 room1)
      (leb size1 room2) (leb (size1 / 8) room)
      refl refl refl refl refl refl z

-- ---- the call
module _ (from to : ℕ) (js ks os out1 out2 numbers : List ℕ) (kind : ℕ) (days : Float) (is : IsFormula from to kind days) where
  refusal_is : (n : ℕ) → n ≡ kind_refusal kind (length js) (length ks) (length os) (length out1) (length out2) (length numbers)
      → n ≡ formula_refusal from to (length js) (length ks) (length os) (length out1) (length out2) (length numbers)
  refusal_is n e = e ∙ is.refuses (length js) (length ks) (length os) (length out1) (length out2) (length numbers)

  -- what the call answers where it hands on the refusal k of its scales or lengths
  pub run-refused : (s : Result ℕ Refusal) (k : Refusal) → IsErrAnd s (λ e. e ≡ k)
      → refusal_number k ≡ kind_refusal kind (length js) (length ks) (length os) (length out1) (length out2) (length numbers)
      → run_call (outcome s) out1 out2 numbers ≡ formula_run from to js ks os out1 out2 numbers
  unfolding formula_run
  run-refused s k p e = rw (handed_on s k p, ← refusal_is (refusal_number k) e, ne_eqb (refusal_number k) 0 (λ z. omega (arith, z, number_low k)))

  module _ (z : 0 ≡ kind_refusal kind (length js) (length ks) (length os) (length out1) (length out2) (length numbers)) where
    fits : Fitting kind (length js) (length ks) (length os) (length out1) (length out2) (length numbers)
    fits = fitting kind (length js) (length ks) (length os) (length out1) (length out2) (length numbers) (sym z)

    pub roomy : Roomy (length js / 8) js ks out1 out2 numbers
    roomy =
        let h : 8 * (length js / 8) ≤ length js = omega (arith, div-mul-le_self (length js) 8) in
        record {
          first = h;
          second = omega (arith, h, fits.same);
          places1 = omega (arith, h, fits.places1);
          places2 = omega (arith, h, fits.places2);
          bytes = fits.bytes;
        }

    pub offsets-there : (eqb kind 1 || eqb kind 2) ≡ true → 8 * (length js / 8) ≤ length os
    unfolding size_due
    offsets-there h =
        let e : length os ≡ length js = rw h at fits.due in
        omega (arith, e, div-mul-le_self (length js) 8)

    ends : (r : ℕ) (out1' out2' numbers' : List ℕ) → RunPut (formula_answer from to js ks os) (length js / 8) out1 out2 numbers r out1' out2' numbers'
        → run_call (outcome (Ok r)) out1' out2' numbers' ≡ formula_run from to js ks os out1 out2 numbers
    unfolding formula_run outcome run_written
    ends r out1' out2' numbers' p = rw (← refusal_is 0 z, p.count, p.first, p.second, p.third)

    -- by the offsets of the stamps
    by-offsets : (earlier : Bool) → (eqb kind 1 || eqb kind 2) ≡ true → earlier ≡ eqb kind 2 → (i : ℕ)
        → offset_stamp earlier js ks os i ≡ formula_answer from to js ks os i
    unfolding answer_of_kind
    by-offsets earlier h e i = go (eqb kind 1) (eqb kind 2) refl refl h ∙ is.answers (of_bits binary64 (u64_at os (8 * i))) (stamp_of js ks i)
      where
        go : (b c : Bool) → eqb kind 1 ≡ b → eqb kind 2 ≡ c → (b || c) ≡ true
            → offset_stamp earlier js ks os i ≡ answer_of_kind kind days (of_bits binary64 (u64_at os (8 * i))) (stamp_of js ks i)
        go true true p q t = let w : kind ≡ 1 = eqb-true kind 1 p in let v : kind ≡ 2 = eqb-true kind 2 q in let u : ⊥ = omega arith in absurd u
        go true false p q t = rw (fits.some, p, e, q)
        go false true p q t = rw (fits.some, p, e, q)
        go false false p q t = cc

    pub ends-by-offsets : (earlier : Bool) → (eqb kind 1 || eqb kind 2) ≡ true → earlier ≡ eqb kind 2 → (r : ℕ) (out1' out2' numbers' : List ℕ)
        → RunPut (offset_stamp earlier js ks os) (length js / 8) out1 out2 numbers r out1' out2' numbers'
        → run_call (outcome (Ok r)) out1' out2' numbers' ≡ formula_run from to js ks os out1 out2 numbers
    ends-by-offsets earlier h e r out1' out2' numbers' p = ends r out1' out2' numbers' (run-same (by-offsets earlier h e) p)

    -- by one change for all
    by-change : (eqb kind 1 || eqb kind 2) ≡ false → (i : ℕ) → changed_stamp (change_of kind days) js ks i ≡ formula_answer from to js ks os i
    unfolding answer_of_kind
    by-change h i = go (eqb kind 1) (eqb kind 2) refl refl h ∙ is.answers (of_bits binary64 (u64_at os (8 * i))) (stamp_of js ks i)
      where
        go : (b c : Bool) → eqb kind 1 ≡ b → eqb kind 2 ≡ c → (b || c) ≡ false
            → changed_stamp (change_of kind days) js ks i ≡ answer_of_kind kind days (of_bits binary64 (u64_at os (8 * i))) (stamp_of js ks i)
        go true c p q t = cc
        go false true p q t = cc
        go false false p q t = rw (fits.some, p, q)

    pub ends-by-change : (f : Float → Float → Float) → f ≡ change_of kind days → (eqb kind 1 || eqb kind 2) ≡ false → (r : ℕ) (out1' out2' numbers' : List ℕ)
        → RunPut (changed_stamp f js ks) (length js / 8) out1 out2 numbers r out1' out2' numbers'
        → run_call (outcome (Ok r)) out1' out2' numbers' ≡ formula_run from to js ks os out1 out2 numbers
    ends-by-change f e h r out1' out2' numbers' p =
        ends r out1' out2' numbers' (run-same (λ i. ap (λ (g : Float → Float → Float). changed_stamp g js ks i) e ∙ by-change h i) p)

-- ---- at most all stamps are refused
pub formula_count : (from to : ℕ) (js ks os out1 out2 numbers : List ℕ) (k : ℕ) → answer k ≡ (formula_run from to js ks os out1 out2 numbers).answer
    → k ≤ length js / 8
unfolding formula_run run_written
formula_count from to js ks os out1 out2 numbers k e = go (eqb number 0) e
  where
    number : ℕ
    number = formula_refusal from to (length js) (length ks) (length os) (length out1) (length out2) (length numbers)

    go : (b : Bool) → answer k ≡ (cond b (run_written (formula_answer from to js ks os) (length js / 8) out1 out2 numbers)
        (run_call (refusal number) out1 out2 numbers)).answer → k ≤ length js / 8
    go true q =
        let same : k ≡ refused_among (formula_answer from to js ks os) (length js / 8) = cc q in
        omega (arith, same, at_most (formula_answer from to js ks os) (length js / 8))
    go false q = let z : ◌≡◌ {A = ℕ} 0 1 = cc q in let w : ⊥ = omega arith in absurd w
