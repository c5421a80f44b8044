-- Two scales whose way is one formula: a run by the formula is the run by the way. Assumes nothing.
use Prim.Native.Nat.{ℕ, ◌*◌, ◌/◌, ◌%◌}
use mathlib.Core.Path.{◌≡◌, refl, sym, ap, ◌∙◌}
use mathlib.Core.Bool.{Bool, true, false, cond, ◌&&◌, ◌||◌, true≢false}
use mathlib.Core.List.{List}
use lib.Dec.{eqb, leb}
use lib.ListN.{length}
use lib.Ieee.{Float, binary64, of_bits}
use borrow.Author.Tests.{eqb-true}
use Rattle.refusals.specs.Outcome.{Outcome, answer, refusal, onward}
use Rattle.julian.specs.declared.JulianDate.{JulianDate}
use Rattle.numerals.specs.little_endian.LittleEndian.{u64_at}
use Rattle.leap_table.specs.rows.Table.{Row}
use Rattle.julian.proofs.shifts.Outcomes.{and_left, and_right}
use Rattle.scales.specs.Conversions.{answer_of, gps-tai, tt-tai}
use Rattle.julian.specs.stamp_lists.Stamps.{stamp_of}
use Rattle.runs.specs.by_formula.Run.{run_call, run_written}
use Rattle.runs.specs.by_formula.Formula.{formula_of, by_formula, formula_answer, takes_offset, lengths_refusal, formula_refusal, formula_run}
use Rattle.runs.specs.ways.Ways.{is_run_scale, into_tai, out_of_tai, between, way_of}
use Rattle.runs.specs.Run.{stamp_answer, run_refusal, run_by}
use Rattle.runs.specs.Asked.{is_short}

-- ---- the six pairs
pub data Short : ℕ → ℕ → Type 0 where
  gps_to_tai : Short 4 1
  tai_to_gps : Short 1 4
  tai_to_tt : Short 1 3
  tt_to_tai : Short 3 1
  tt-to-tcg : Short 3 5
  tcg-to-tt : Short 5 3

pub short : (from to : ℕ) → is_short from to ≡ true → Short from to
unfolding is_short
short from to h =
    go (eqb from 4 && eqb to 1) (eqb from 1 && eqb to 4) (eqb from 1 && eqb to 3) (eqb from 3 && eqb to 1) (eqb from 3 && eqb to 5) (eqb from 5 && eqb to 3)
    refl refl refl refl refl refl h
  where
    is : (a b : ℕ) → Short a b → (eqb from a && eqb to b) ≡ true → Short from to
    is a b s e =
        let f : from ≡ a = eqb-true from a (and_left (eqb from a) (eqb to b) e) in
        let g : to ≡ b = eqb-true to b (and_right (eqb from a) (eqb to b) e) in
        rw (f, g) s

    go : (c1 c2 c3 c4 c5 c6 : Bool) → (eqb from 4 && eqb to 1) ≡ c1 → (eqb from 1 && eqb to 4) ≡ c2 → (eqb from 1 && eqb to 3) ≡ c3
        → (eqb from 3 && eqb to 1) ≡ c4 → (eqb from 3 && eqb to 5) ≡ c5 → (eqb from 5 && eqb to 3) ≡ c6
        → (c1 || (c2 || (c3 || (c4 || (c5 || c6))))) ≡ true → Short from to
    go true c2 c3 c4 c5 c6 e1 e2 e3 e4 e5 e6 z = is 4 1 gps_to_tai e1
    go false true c3 c4 c5 c6 e1 e2 e3 e4 e5 e6 z = is 1 4 tai_to_gps e2
    go false false true c4 c5 c6 e1 e2 e3 e4 e5 e6 z = is 1 3 tai_to_tt e3
    go false false false true c5 c6 e1 e2 e3 e4 e5 e6 z = is 3 1 tt_to_tai e4
    go false false false false true c6 e1 e2 e3 e4 e5 e6 z = is 3 5 tt-to-tcg e5
    go false false false false false true e1 e2 e3 e4 e5 e6 z = is 5 3 tcg-to-tt e6
    go false false false false false false e1 e2 e3 e4 e5 e6 z = absurd (true≢false (sym z))

-- ---- the way of a stamp
at_tai : (rows : List Row) (o : Outcome JulianDate) → o ≡ onward o (out_of_tai rows 1)
unfolding onward out_of_tai
at_tai rows (answer d) = refl
at_tai rows (refusal n) = refl

pub short-way : (from to : ℕ) → Short from to → (rows : List Row) (seconds : Float) (d : JulianDate) → by_formula from to seconds d ≡ way_of rows from to d
unfolding by_formula formula_of way_of between into_tai out_of_tai onward
short-way _ _ gps_to_tai rows seconds d = at_tai rows (answer_of gps-tai d)
short-way _ _ tai_to_gps rows seconds d = refl
short-way _ _ tai_to_tt rows seconds d = refl
short-way _ _ tt_to_tai rows seconds d = at_tai rows (answer_of tt-tai d)
short-way _ _ tt-to-tcg rows seconds d = refl
short-way _ _ tcg-to-tt rows seconds d = refl

-- ---- the lengths: no offset is due, and none is there
no_offsets : (b c : Bool) (size1 size2 room1 room2 room : ℕ)
    → ◌≡◌ {A = ℕ} (cond (b && (c && true)) (cond (eqb size1 size2 && true) (cond (leb size1 room1 && (leb size1 room2 && leb (size1 / 8) room)) 0 11) 12) 14)
    (cond (b && c) (cond (eqb size1 size2) (cond (leb size1 room1 && (leb size1 room2 && leb (size1 / 8) room)) 0 11) 12) 14)
no_offsets b c size1 size2 room1 room2 room = go b c (eqb size1 size2)
  where
    go : (b c d : Bool) → ◌≡◌ {A = ℕ}
        (cond (b && (c && true)) (cond (d && true) (cond (leb size1 room1 && (leb size1 room2 && leb (size1 / 8) room)) 0 11) 12) 14)
        (cond (b && c) (cond d (cond (leb size1 room1 && (leb size1 room2 && leb (size1 / 8) room)) 0 11) 12) 14)
    go true true true = refl
    go true true false = refl
    go true false d = refl
    go false c d = refl

pub short-refusal : (from to : ℕ) → Short from to → (size1 size2 room1 room2 room : ℕ)
    → formula_refusal from to size1 size2 0 room1 room2 room ≡ run_refusal from to size1 size2 room1 room2 room
unfolding formula_refusal formula_of lengths_refusal takes_offset run_refusal is_run_scale
short-refusal _ _ gps_to_tai size1 size2 room1 room2 room = no_offsets (eqb (size1 % 8) 0) (eqb (size2 % 8) 0) size1 size2 room1 room2 room
short-refusal _ _ tai_to_gps size1 size2 room1 room2 room = no_offsets (eqb (size1 % 8) 0) (eqb (size2 % 8) 0) size1 size2 room1 room2 room
short-refusal _ _ tai_to_tt size1 size2 room1 room2 room = no_offsets (eqb (size1 % 8) 0) (eqb (size2 % 8) 0) size1 size2 room1 room2 room
short-refusal _ _ tt_to_tai size1 size2 room1 room2 room = no_offsets (eqb (size1 % 8) 0) (eqb (size2 % 8) 0) size1 size2 room1 room2 room
short-refusal _ _ tt-to-tcg size1 size2 room1 room2 room = no_offsets (eqb (size1 % 8) 0) (eqb (size2 % 8) 0) size1 size2 room1 room2 room
short-refusal _ _ tcg-to-tt size1 size2 room1 room2 room = no_offsets (eqb (size1 % 8) 0) (eqb (size2 % 8) 0) size1 size2 room1 room2 room

-- ---- the run
pub short-run : (rows : List Row) (from to : ℕ) → is_short from to ≡ true → (js ks os out1 out2 numbers : List ℕ) → length os ≡ 0
    → formula_run from to js ks os out1 out2 numbers ≡ run_by rows from to js ks out1 out2 numbers
unfolding formula_run run_by
short-run rows from to h js ks os out1 out2 numbers none =
    let s : Short from to = short from to h in
    let number : formula_refusal from to (length js) (length ks) (length os) (length out1) (length out2) (length numbers) ≡ run_refusal from to (length js)
    (length ks) (length out1) (length out2) (length numbers)
    = ap (λ (n : ℕ). formula_refusal from to (length js) (length ks) n (length out1) (length out2) (length numbers)) none
    ∙ short-refusal from to s (length js) (length ks) (length out1) (length out2) (length numbers) in
    let answers : formula_answer from to js ks os ≡ stamp_answer rows from to js ks =
    λ k i. short-way from to s rows (of_bits binary64 (u64_at os (8 * i))) (stamp_of js ks i) k in
    λ k. cond (eqb (number k) 0) (run_written (answers k) (length js / 8) out1 out2 numbers) (run_call (refusal (number k)) out1 out2 numbers)
