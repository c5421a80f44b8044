-- WHAT A RUN BY A FORMULA MEANS, for every run of every length: which conversions it takes and with which lengths, each stamp's answer and number, the count,
-- the stamps and offsets that are not finite, and a refused call. Assumes nothing.
use Prim.Native.Nat.{ℕ, ◌*◌, ◌/◌, ◌%◌, ◌<◌, ◌≤◌}
use native.Mathlib.Omega.{arith}
use native.Mathlib.Nat.{div-mul-le_self}
use mathlib.Core.Path.{◌≡◌, refl, sym, ap, subst, ◌∙◌}
use mathlib.Core.Logic.{inl, inr}
use mathlib.Core.Bool.{Bool, true, false, cond, ◌&&◌}
use mathlib.Core.List.{List}
use lib.Dec.{eqb, leb}
use lib.ListN.{length}
use lib.Ieee.{Float, binary64, of_bits}
use lib.Ieee.Scale.{finite}
use borrow.Author.Tests.{eq-eqb, le-leb, eqb-true, leb-true}
use Rattle.refusals.specs.Outcome.{Outcome, answer, refusal, onward}
use Rattle.julian.specs.declared.JulianDate.{JulianDate}
use Rattle.julian.specs.Finite.{finite_parts}
use Rattle.numerals.specs.little_endian.LittleEndian.{u64_at}
use Rattle.floats.specs.Whole.{nought}
use Rattle.julian.specs.shifts.SmallerPart.{map_smaller_part}
use Rattle.julian.specs.shifts.Shifts.{days_of, converted, converted_by}
use Rattle.julian.proofs.shifts.Outcomes.{first, first_by, and_left, and_right}
use Rattle.scales.specs.Conversions.{Conversion, answer_of}
use Rattle.julian.specs.stamp_lists.Stamps.{stamp_of}
use Rattle.runs.specs.by_formula.Run.{RunCall, run_call, run_written}
use Rattle.runs.specs.by_formula.Formula.{formula_of, by_formula, formula_answer, takes_offset, lengths_refusal, formula_refusal, formula_run}
use Rattle.runs.specs.laws.NotFiniteStamps.{StampNotFinite, not_zero_in}
use Rattle.runs.specs.laws.Done.{StampDone, SpareStays}
use Rattle.runs.specs.laws.EachFormula.{EachFormula, OffsetPair, tai_ut1_pair, ut1_tai_pair, ut1_tt_pair, tt_ut1_pair, tt_tdb_pair, tdb_tt_pair}
use Rattle.runs.specs.laws.EachFormula.{FormulaPair, gps_tai_pair, tai_gps_pair, tai_tt_pair, tt_tai_pair, tt_tcg_pair, tcg_tt_pair, tcb_tdb_pair}
use Rattle.runs.specs.laws.EachFormula.{tdb_tcb_pair, offset_pair, FormulaRefusal, due_of, LengthsDue}
use Rattle.runs.proofs.laws.Refusing.{pattern_not_finite}
use Rattle.runs.proofs.laws.Written.{stamp-written, spare-kept, count-written}

-- ---- EACH PAIR of scales is one conversion of document 01
pub each-formula : (seconds : Float) (d : JulianDate) → EachFormula seconds d
unfolding by_formula formula_of onward
each-formula seconds d = record {
  gps_to_tai = refl;
  tai_to_gps = refl;
  tai_to_tt = refl;
  tt_to_tai = refl;
  tt-to-tcg = refl;
  tcg-to-tt = refl;
  tcb-to-tdb = refl;
  tdb-to-tcb = refl;
  tai_to_ut1 = refl;
  ut1_to_tai = refl;
  ut1_to_tt = refl;
  tt_to_ut1 = refl;
  tt_to_tdb = refl;
  tdb_to_tt = refl;
}

-- ---- AND NO OTHER
module _ (from to : ℕ) (seconds : Float) where
  is : (a b : ℕ) → FormulaPair a b → (eqb from a && eqb to b) ≡ true → FormulaPair from to
  is a b p e =
      let f : from ≡ a = eqb-true from a (and_left (eqb from a) (eqb to b) e) in
      let g : to ≡ b = eqb-true to b (and_right (eqb from a) (eqb to b) e) in
      rw (f, g) p

  -- one step down the list
  next : (b : Bool) (x : Conversion) (rest : Outcome Conversion) (c : Conversion) → (b ≡ true → FormulaPair from to) → (rest ≡ answer c → FormulaPair from to)
      → cond b (answer x) rest ≡ answer c → FormulaPair from to
  next true x rest c here later e = here refl
  next false x rest c here later e = later e

  pub no_other_pair : (c : Conversion) → formula_of from to seconds ≡ answer c → FormulaPair from to
  unfolding formula_of
  no_other_pair c =
      next _ _ _ c (is 4 1 gps_tai_pair)
      (next _ _ _ c (is 1 4 tai_gps_pair)
      (next _ _ _ c (is 1 3 tai_tt_pair)
      (next _ _ _ c (is 3 1 tt_tai_pair)
      (next _ _ _ c (is 3 5 tt_tcg_pair)
      (next _ _ _ c (is 5 3 tcg_tt_pair)
      (next _ _ _ c (is 6 7 tcb_tdb_pair)
      (next _ _ _ c (is 7 6 tdb_tcb_pair)
      (next _ _ _ c (is 1 2 (offset_pair tai_ut1_pair))
      (next _ _ _ c (is 2 1 (offset_pair ut1_tai_pair))
      (next _ _ _ c (is 2 3 (offset_pair ut1_tt_pair))
      (next _ _ _ c (is 3 2 (offset_pair tt_ut1_pair))
      (next _ _ _ c (is 3 7 (offset_pair tt_tdb_pair))
      (next _ _ _ c (is 7 3 (offset_pair tdb_tt_pair))
      (λ e. let z : ◌≡◌ {A = ℕ} 0 1 = cc e in let w : ⊥ = omega arith in absurd w))))))))))))))

-- ---- WHY A STAMP IS REFUSED: 9 for a not-finite part, then 10 for a not-finite offset, and for nothing else
by-change : (f : Float → Float → Float) (seconds : Float) (d : JulianDate) (k : ℕ) → converted f d ≡ refusal k → FormulaRefusal seconds d k
by-change f seconds d k e = go (finite_parts d) refl (sym (first f d) ∙ e)
  where
    go : (b : Bool) → finite_parts d ≡ b → cond b (answer (map_smaller_part f d)) (refusal 9) ≡ refusal k → FormulaRefusal seconds d k
    go true p q = let z : ◌≡◌ {A = ℕ} 0 1 = cc q in let w : ⊥ = omega arith in absurd w
    go false p q = inl (p, cc q)

by-offset : (f : Float → Float → Float → Float) (seconds : Float) (d : JulianDate) (k : ℕ) → converted_by f seconds d ≡ refusal k → FormulaRefusal seconds d k
by-offset f seconds d k e = go (finite_parts d) (finite seconds) refl refl (sym (first_by f seconds d) ∙ e)
  where
    go : (b c : Bool) → finite_parts d ≡ b → finite seconds ≡ c
        → cond b (cond c (answer (map_smaller_part (f (days_of seconds)) d)) (refusal 10)) (refusal 9) ≡ refusal k → FormulaRefusal seconds d k
    go true true p s q = let z : ◌≡◌ {A = ℕ} 0 1 = cc q in let w : ⊥ = omega arith in absurd w
    go true false p s q = inr ((p, s), cc q)
    go false c p s q = inl (p, cc q)

module _ (seconds : Float) (d : JulianDate) where
  by-given : (from to : ℕ) → OffsetPair from to → (k : ℕ) → by_formula from to seconds d ≡ refusal k → FormulaRefusal seconds d k
  unfolding by_formula formula_of onward answer_of
  by-given _ _ tai_ut1_pair k e = by-offset _ seconds d k e
  by-given _ _ ut1_tai_pair k e = by-offset _ seconds d k e
  by-given _ _ ut1_tt_pair k e = by-offset _ seconds d k e
  by-given _ _ tt_ut1_pair k e = by-offset _ seconds d k e
  by-given _ _ tt_tdb_pair k e = by-offset _ seconds d k e
  by-given _ _ tdb_tt_pair k e = by-offset _ seconds d k e

  pub why_refused : (from to : ℕ) → FormulaPair from to → (k : ℕ) → by_formula from to seconds d ≡ refusal k → FormulaRefusal seconds d k
  unfolding by_formula formula_of onward answer_of
  why_refused _ _ gps_tai_pair k e = by-change _ seconds d k e
  why_refused _ _ tai_gps_pair k e = by-change _ seconds d k e
  why_refused _ _ tai_tt_pair k e = by-change _ seconds d k e
  why_refused _ _ tt_tai_pair k e = by-change _ seconds d k e
  why_refused _ _ tt_tcg_pair k e = by-change _ seconds d k e
  why_refused _ _ tcg_tt_pair k e = by-change _ seconds d k e
  why_refused _ _ tcb_tdb_pair k e = by-change _ seconds d k e
  why_refused _ _ tdb_tcb_pair k e = by-change _ seconds d k e
  why_refused from to (offset_pair p) k e = by-given from to p k e

  -- every part that is not finite, and every offset that is not finite beside finite parts
  not_finite_part : (f : Float → Float → Float) → finite_parts d ≡ false → converted f d ≡ refusal 9
  not_finite_part f h = first f d ∙ rw h

  not_finite_part_by : (f : Float → Float → Float → Float) → finite_parts d ≡ false → converted_by f seconds d ≡ refusal 9
  not_finite_part_by f h = first_by f seconds d ∙ rw h

  not_finite_offset_by : (f : Float → Float → Float → Float) → finite_parts d ≡ true → finite seconds ≡ false → converted_by f seconds d ≡ refusal 10
  not_finite_offset_by f h k = first_by f seconds d ∙ rw (h, k)

  pub not_finite_offset_refused : (from to : ℕ) → OffsetPair from to → finite_parts d ≡ true → finite seconds ≡ false → by_formula from to seconds d
      ≡ refusal 10
  unfolding by_formula formula_of onward answer_of
  not_finite_offset_refused _ _ tai_ut1_pair h k = not_finite_offset_by _ h k
  not_finite_offset_refused _ _ ut1_tai_pair h k = not_finite_offset_by _ h k
  not_finite_offset_refused _ _ ut1_tt_pair h k = not_finite_offset_by _ h k
  not_finite_offset_refused _ _ tt_ut1_pair h k = not_finite_offset_by _ h k
  not_finite_offset_refused _ _ tt_tdb_pair h k = not_finite_offset_by _ h k
  not_finite_offset_refused _ _ tdb_tt_pair h k = not_finite_offset_by _ h k

  not_finite_given : (from to : ℕ) → OffsetPair from to → finite_parts d ≡ false → by_formula from to seconds d ≡ refusal 9
  unfolding by_formula formula_of onward answer_of
  not_finite_given _ _ tai_ut1_pair h = not_finite_part_by _ h
  not_finite_given _ _ ut1_tai_pair h = not_finite_part_by _ h
  not_finite_given _ _ ut1_tt_pair h = not_finite_part_by _ h
  not_finite_given _ _ tt_ut1_pair h = not_finite_part_by _ h
  not_finite_given _ _ tt_tdb_pair h = not_finite_part_by _ h
  not_finite_given _ _ tdb_tt_pair h = not_finite_part_by _ h

  pub not_finite_part_refused : (from to : ℕ) → FormulaPair from to → finite_parts d ≡ false → by_formula from to seconds d ≡ refusal 9
  unfolding by_formula formula_of onward answer_of
  not_finite_part_refused _ _ gps_tai_pair h = not_finite_part _ h
  not_finite_part_refused _ _ tai_gps_pair h = not_finite_part _ h
  not_finite_part_refused _ _ tai_tt_pair h = not_finite_part _ h
  not_finite_part_refused _ _ tt_tai_pair h = not_finite_part _ h
  not_finite_part_refused _ _ tt_tcg_pair h = not_finite_part _ h
  not_finite_part_refused _ _ tcg_tt_pair h = not_finite_part _ h
  not_finite_part_refused _ _ tcb_tdb_pair h = not_finite_part _ h
  not_finite_part_refused _ _ tdb_tcb_pair h = not_finite_part _ h
  not_finite_part_refused from to (offset_pair p) h = not_finite_given from to p h

-- so that a byte holds each number
below-256 : (seconds : Float) (d : JulianDate) (k : ℕ) → FormulaRefusal seconds d k → k < 256
below-256 seconds d k (inl (p, e)) = omega arith
below-256 seconds d k (inr (p, e)) = omega arith

-- ---- A REFUSED CALL writes nothing
pub formula_refused_writes_nothing : (from to : ℕ) (js ks os out1 out2 numbers : List ℕ) (k : ℕ)
    → (formula_run from to js ks os out1 out2 numbers).answer ≡ refusal k
    → formula_run from to js ks os out1 out2 numbers ≡ run_call (refusal k) out1 out2 numbers
unfolding formula_run run_written
formula_refused_writes_nothing from to js ks os out1 out2 numbers k e = go (eqb number 0) e
  where
    number : ℕ
    number = formula_refusal from to (length js) (length ks) (length os) (length out1) (length out2) (length numbers)

    go : (b : Bool) → (cond b (run_written (formula_answer from to js ks os) (length js / 8) out1 out2 numbers) (run_call (refusal number) out1 out2 numbers)
        ).answer ≡ refusal k
        → cond b (run_written (formula_answer from to js ks os) (length js / 8) out1 out2 numbers) (run_call (refusal number) out1 out2 numbers) ≡ run_call
        (refusal k) out1 out2 numbers
    go true q = let z : ◌≡◌ {A = ℕ} 0 1 = cc q in let w : ⊥ = omega arith in absurd w
    go false q = ap (λ (x : Outcome ℕ). run_call x out1 out2 numbers) q

-- ---- THE ORDER of the refusals, by calls that break each rule and all behind it: scales, lengths, sizes, places
pub formula_refusals_in_order :
    (formula_refusal 1 5 7 0 0 0 0 0 ≡ 18) × (formula_refusal 0 2 7 0 0 0 0 0 ≡ 18) × (formula_refusal 4 4 8 8 0 8 8 1 ≡ 18)
    × (formula_refusal 7 6 7 0 8 0 0 0 ≡ 14) × (formula_refusal 7 6 8 15 8 0 0 0 ≡ 14) × (formula_refusal 7 6 8 0 7 0 0 0 ≡ 14)
    × (formula_refusal 7 6 8 0 8 0 0 0 ≡ 12) × (formula_refusal 7 6 8 8 8 0 0 0 ≡ 12) × (formula_refusal 7 3 8 8 0 0 0 0 ≡ 12)
    × (formula_refusal 7 6 8 8 0 7 8 1 ≡ 11) × (formula_refusal 7 6 8 8 0 8 7 1 ≡ 11) × (formula_refusal 7 3 8 8 8 8 8 0 ≡ 11)
    × (formula_refusal 7 6 8 8 0 8 8 1 ≡ 0) × (formula_refusal 7 3 8 8 8 8 8 1 ≡ 0) × (formula_refusal 3 7 0 0 0 0 0 0 ≡ 0)
unfolding formula_refusal formula_of lengths_refusal takes_offset
formula_refusals_in_order = (refl, refl, refl, refl, refl, refl, refl, refl, refl, refl, refl, refl, refl, refl, refl)

-- ---- TWO OTHER SCALES are 18
eighteen_next : (b : Bool) (x : Conversion) (rest : Outcome Conversion) (k : ℕ) → (rest ≡ refusal k → k ≡ 18) → cond b (answer x) rest ≡ refusal k → k ≡ 18
eighteen_next true x rest k later e = let z : ◌≡◌ {A = ℕ} 0 1 = cc e in let w : ⊥ = omega arith in absurd w
eighteen_next false x rest k later e = later e

pub other_scales_18 : (from to : ℕ) (seconds : Float) (k : ℕ) → formula_of from to seconds ≡ refusal k → k ≡ 18
unfolding formula_of
other_scales_18 from to seconds k =
    eighteen_next (eqb from 4 && eqb to 1) _ _ k
    (eighteen_next (eqb from 1 && eqb to 4) _ _ k
    (eighteen_next (eqb from 1 && eqb to 3) _ _ k
    (eighteen_next (eqb from 3 && eqb to 1) _ _ k
    (eighteen_next (eqb from 3 && eqb to 5) _ _ k
    (eighteen_next (eqb from 5 && eqb to 3) _ _ k
    (eighteen_next (eqb from 6 && eqb to 7) _ _ k
    (eighteen_next (eqb from 7 && eqb to 6) _ _ k
    (eighteen_next (eqb from 1 && eqb to 2) _ _ k
    (eighteen_next (eqb from 2 && eqb to 1) _ _ k
    (eighteen_next (eqb from 2 && eqb to 3) _ _ k
    (eighteen_next (eqb from 3 && eqb to 2) _ _ k
    (eighteen_next (eqb from 3 && eqb to 7) _ _ k
    (eighteen_next (eqb from 7 && eqb to 3) _ _ k
    (λ e. cc e))))))))))))))

-- ---- THE LENGTHS with which a call is answered: exactly those that are due, of the offsets as many as of the first parts for the pairs that take some, and
-- else none
module _ (size1 size2 size3 room1 room2 room : ℕ) where
  abbrev judged : ℕ → ℕ
  judged due = cond (eqb (size1 % 8) 0 && (eqb (size2 % 8) 0 && eqb (size3 % 8) 0))
      (cond (eqb size1 size2 && eqb size3 due) (cond (leb size1 room1 && (leb size1 room2 && leb (size1 / 8) room)) 0 11) 12) 14

  lengths-by : (due : ℕ) (b0 b1 b2 b3 b4 b5 b6 b7 : Bool) → eqb (size1 % 8) 0 ≡ b0 → eqb (size2 % 8) 0 ≡ b1 → eqb (size3 % 8) 0 ≡ b2 → eqb size1 size2 ≡ b3
      → eqb size3 due ≡ b4 → leb size1 room1 ≡ b5 → leb size1 room2 ≡ b6 → leb (size1 / 8) room ≡ b7
      → ◌≡◌ {A = ℕ} (cond (b0 && (b1 && b2)) (cond (b3 && b4) (cond (b5 && (b6 && b7)) 0 11) 12) 14) 0 → LengthsDue size1 size2 size3 due room1 room2 room
  lengths-by due true true true true true true true true p0 p1 p2 p3 p4 p5 p6 p7 z = record {
    whole1 = eqb-true (size1 % 8) 0 p0;
    whole2 = eqb-true (size2 % 8) 0 p1;
    whole3 = eqb-true (size3 % 8) 0 p2;
    parts = eqb-true size1 size2 p3;
    offsets = eqb-true size3 due p4;
    places1 = leb-true size1 room1 p5;
    places2 = leb-true size1 room2 p6;
    bytes = leb-true (size1 / 8) room p7;
  }
  lengths-by due true true true true true true true false p0 p1 p2 p3 p4 p5 p6 p7 z = let w : ⊥ = omega arith in absurd w
  lengths-by due true true true true true true false b7 p0 p1 p2 p3 p4 p5 p6 p7 z = let w : ⊥ = omega arith in absurd w
  lengths-by due true true true true true false b6 b7 p0 p1 p2 p3 p4 p5 p6 p7 z = let w : ⊥ = omega arith in absurd w
  lengths-by due true true true true false b5 b6 b7 p0 p1 p2 p3 p4 p5 p6 p7 z = let w : ⊥ = omega arith in absurd w
  lengths-by due true true true false b4 b5 b6 b7 p0 p1 p2 p3 p4 p5 p6 p7 z = let w : ⊥ = omega arith in absurd w
  lengths-by due true true false b3 b4 b5 b6 b7 p0 p1 p2 p3 p4 p5 p6 p7 z = let w : ⊥ = omega arith in absurd w
  lengths-by due true false b2 b3 b4 b5 b6 b7 p0 p1 p2 p3 p4 p5 p6 p7 z = let w : ⊥ = omega arith in absurd w
  lengths-by due false b1 b2 b3 b4 b5 b6 b7 p0 p1 p2 p3 p4 p5 p6 p7 z = let w : ⊥ = omega arith in absurd w

  lengths : (due : ℕ) → judged due ≡ 0 → LengthsDue size1 size2 size3 due room1 room2 room
  lengths due z = lengths-by due (eqb (size1 % 8) 0) (eqb (size2 % 8) 0) (eqb (size3 % 8) 0) (eqb size1 size2) (eqb size3 due) (leb size1 room1)
      (leb size1 room2) (leb (size1 / 8) room) refl refl refl refl refl refl refl refl z

  lengths-pass : (due : ℕ) → LengthsDue size1 size2 size3 due room1 room2 room → judged due ≡ 0
  lengths-pass due l = rw (
    eq-eqb (size1 % 8) 0 l.whole1,
    eq-eqb (size2 % 8) 0 l.whole2,
    eq-eqb (size3 % 8) 0 l.whole3,
    eq-eqb size1 size2 l.parts,
    eq-eqb size3 due l.offsets,
    le-leb size1 room1 l.places1,
    le-leb size1 room2 l.places2,
    le-leb (size1 / 8) room l.bytes,
  )

  judged-given : (from to : ℕ) → OffsetPair from to → formula_refusal from to size1 size2 size3 room1 room2 room ≡ judged size1
  unfolding formula_refusal formula_of lengths_refusal takes_offset
  judged-given _ _ tai_ut1_pair = refl
  judged-given _ _ ut1_tai_pair = refl
  judged-given _ _ ut1_tt_pair = refl
  judged-given _ _ tt_ut1_pair = refl
  judged-given _ _ tt_tdb_pair = refl
  judged-given _ _ tdb_tt_pair = refl

  judged-pair : (from to : ℕ) (p : FormulaPair from to) → formula_refusal from to size1 size2 size3 room1 room2 room ≡ judged (due_of p size1)
  unfolding formula_refusal formula_of lengths_refusal takes_offset due_of
  judged-pair _ _ gps_tai_pair = refl
  judged-pair _ _ tai_gps_pair = refl
  judged-pair _ _ tai_tt_pair = refl
  judged-pair _ _ tt_tai_pair = refl
  judged-pair _ _ tt_tcg_pair = refl
  judged-pair _ _ tcg_tt_pair = refl
  judged-pair _ _ tcb_tdb_pair = refl
  judged-pair _ _ tdb_tcb_pair = refl
  judged-pair from to (offset_pair p) = judged-given from to p

  pub answered-lengths : (from to : ℕ) (p : FormulaPair from to) → formula_refusal from to size1 size2 size3 room1 room2 room ≡ 0
      → LengthsDue size1 size2 size3 (due_of p size1) room1 room2 room
  answered-lengths from to p z = lengths (due_of p size1) (sym (judged-pair from to p) ∙ z)

  pub lengths-answered : (from to : ℕ) (p : FormulaPair from to) → LengthsDue size1 size2 size3 (due_of p size1) room1 room2 room
      → formula_refusal from to size1 size2 size3 room1 room2 room ≡ 0
  lengths-answered from to p l = judged-pair from to p ∙ lengths-pass (due_of p size1) l

  -- a call that is answered is of a pair
  answered-pair : (from to : ℕ) (o : Outcome Conversion) → formula_of from to nought ≡ o → lengths_refusal o size1 size2 size3 room1 room2 room ≡ 0
      → FormulaPair from to
  unfolding lengths_refusal
  answered-pair from to (answer c) e z = no_other_pair from to nought c e
  answered-pair from to (refusal k) e z = let h : k ≡ 18 = other_scales_18 from to nought k e in let w : ⊥ = omega arith in absurd w

-- ---- a call that is not refused
module _ (from to : ℕ) (js ks os out1 out2 numbers : List ℕ)
    (z : formula_refusal from to (length js) (length ks) (length os) (length out1) (length out2) (length numbers) ≡ 0) where
  abbrev f : ℕ → Outcome JulianDate
  f = formula_answer from to js ks os

  abbrev n : ℕ
  n = length js / 8

  written : formula_run from to js ks os out1 out2 numbers ≡ run_written f n out1 out2 numbers
  unfolding formula_run
  written = rw (eq-eqb _ 0 z)

  pair : FormulaPair from to
  unfolding formula_refusal
  pair = answered-pair (length js) (length ks) (length os) (length out1) (length out2) (length numbers) from to (formula_of from to nought) refl z

  fits : LengthsDue (length js) (length ks) (length os) (due_of pair (length js)) (length out1) (length out2) (length numbers)
  fits = answered-lengths (length js) (length ks) (length os) (length out1) (length out2) (length numbers) from to pair z

  whole : 8 * n ≤ length js
  whole = omega (arith, div-mul-le_self (length js) 8)

  room1 : 8 * n ≤ length out1
  room1 = omega (arith, whole, fits.places1)

  room2 : 8 * n ≤ length out2
  room2 = omega (arith, whole, fits.places2)

  small : (i k : ℕ) → f i ≡ refusal k → k < 256
  small i k e = below-256 (of_bits binary64 (u64_at os (8 * i))) (stamp_of js ks i) k
      (why_refused (of_bits binary64 (u64_at os (8 * i))) (stamp_of js ks i) from to pair k e)

  -- EACH STAMP'S ANSWER is that of the single call, and its number is 0 or that of its refusal
  pub formula_each_stamp : (i : ℕ) → i < n → StampDone (f i) i out1 out2 (formula_run from to js ks os out1 out2 numbers)
  formula_each_stamp i h = subst (StampDone (f i) i out1 out2) (sym written) (stamp-written f n out1 out2 numbers room1 room2 fits.bytes i h (small i))

  pub formula_spare_stays : SpareStays n out1 out2 numbers (formula_run from to js ks os out1 out2 numbers)
  formula_spare_stays = subst (SpareStays n out1 out2 numbers) (sym written) (spare-kept f n out1 out2 numbers room1 room2 fits.bytes)

  -- THE COUNT is of the numbers that are not 0
  pub formula_count_is : (formula_run from to js ks os out1 out2 numbers).answer ≡ answer
      (not_zero_in n (formula_run from to js ks os out1 out2 numbers).numbers)
  formula_count_is = subst (λ (c : RunCall). c.answer ≡ answer (not_zero_in n c.numbers)) (sym written)
      (count-written f n out1 out2 numbers room1 room2 fits.bytes)

  -- EVERY STAMP THAT IS NOT FINITE is refused by 9
  pub formula_not_finite_refused : (i : ℕ) → StampNotFinite js ks i → f i ≡ refusal 9
  formula_not_finite_refused i h = not_finite_part_refused (of_bits binary64 (u64_at os (8 * i))) (stamp_of js ks i) from to pair (pattern_not_finite js ks i h)
