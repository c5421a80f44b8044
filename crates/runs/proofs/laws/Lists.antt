-- EACH STAMP AND EACH OFFSET AT ITS OWN BYTES: of parts and offsets that are written number by number stamp i has the i-th patterns and is converted by the
-- i-th offset, in a run from scale to scale and in a run by a formula. Assumes nothing.
use Prim.Native.Nat.{ℕ, ◌*◌, ◌/◌, ◌<◌}
use native.Mathlib.Omega.{arith}
use mathlib.Core.Path.{◌≡◌, refl, sym, ap, subst, ◌∙◌}
use mathlib.Core.Logic.{inl, inr}
use mathlib.Core.Bool.{true, false}
use mathlib.Core.List.{List}
use lib.ListN.{length, get_or}
use lib.Ieee.{Float, binary64, of_bits}
use lib.Ieee.Scale.{finite}
use Rattle.refusals.specs.Outcome.{Outcome, answer}
use Rattle.numerals.specs.little_endian.LittleEndian.{u64_at, eight_bytes}
use Rattle.numerals.specs.little_endian.Written.{all_bytes, Numbers64}
use Rattle.numerals.proofs.little_endian.Numbers.{eight-each, number-back}
use Rattle.floats.specs.ExponentField.{exponent_field}
use Rattle.floats.proofs.ExponentField.{field_not_finite}
use Rattle.julian.specs.declared.JulianDate.{JulianDate}
use Rattle.julian.specs.Finite.{finite_parts}
use Rattle.julian.specs.stamp_lists.Stamps.{stamp_of}
use Rattle.julian.proofs.stamp_lists.Written.{stamps-of-lists}
use Rattle.leap_table.specs.rows.Table.{Row}
use Rattle.runs.specs.ways.Ways.{way_of}
use Rattle.runs.specs.Run.{run_refusal, converted_run}
use Rattle.runs.specs.by_formula.Run.{RunCall}
use Rattle.runs.specs.by_formula.Formula.{by_formula, formula_answer, formula_refusal, formula_run}
use Rattle.runs.specs.laws.NotFiniteStamps.{number_of_not_finite, not_zero_in}
use Rattle.runs.specs.laws.Done.{StampDone, SpareStays}
use Rattle.runs.specs.laws.EachFormula.{FormulaPair, gps_tai_pair, tai_gps_pair, tai_tt_pair, tt_tai_pair, tt_tcg_pair, tcg_tt_pair, tcb_tdb_pair}
use Rattle.runs.specs.laws.EachFormula.{tdb_tcb_pair, offset_pair, OffsetPair, due_of}
use Rattle.runs.specs.laws.Answered.{Five, PlacesFor}
use Rattle.runs.specs.laws.Writer.{listed_float, listed_date, ListedNotFinite, ListedRun}
use Rattle.runs.proofs.laws.Refusing.{not_finite_way, either}
use Rattle.runs.proofs.laws.Answered.{run-taken}
use Rattle.runs.proofs.laws.Theorems.{each-stamp, spare-stays, count-is}
use Rattle.runs.proofs.laws.Formulas.{lengths-answered, formula_each_stamp, formula_spare_stays, formula_count_is, not_finite_offset_refused}
use Rattle.runs.proofs.laws.Formulas.{not_finite_part_refused}

as_many : (ns : List ℕ) → length (all_bytes eight_bytes ns) / 8 ≡ length ns
as_many ns = omega (arith, eight-each ns)

-- THE FLOAT at place i is that of the i-th pattern
pub float_back : (ns : List ℕ) → Numbers64 ns → (i : ℕ) → of_bits binary64 (u64_at (all_bytes eight_bytes ns) (8 * i)) ≡ listed_float ns i
float_back ns bits i = ap (of_bits binary64) (number-back ns bits i)

listed-not-finite : (js ks : List ℕ) (i : ℕ) → ListedNotFinite js ks i → finite_parts (listed_date js ks i) ≡ false
listed-not-finite js ks i (inl e) = either (finite (listed_float js i)) (finite (listed_float ks i)) (inl (field_not_finite (get_or js i 0) e))
listed-not-finite js ks i (inr e) = either (finite (listed_float js i)) (finite (listed_float ks i)) (inr (field_not_finite (get_or ks i 0) e))

-- ---- THE RUN FROM SCALE TO SCALE of two lists of patterns
module _ (rows : List Row) (from to : ℕ) (f : Five from) (t : Five to) (js ks out1 out2 numbers : List ℕ) (same : length ks ≡ length js)
    (first-bits : Numbers64 js) (second-bits : Numbers64 ks) (room : PlacesFor (length js) (length out1) (length out2) (length numbers)) where
  abbrev run : RunCall
  run = converted_run (answer rows) from to (all_bytes eight_bytes js) (all_bytes eight_bytes ks) out1 out2 numbers

  run-passes : run_refusal from to (length (all_bytes eight_bytes js)) (length (all_bytes eight_bytes ks)) (length out1) (length out2) (length numbers) ≡ 0
  run-passes = run-taken from to (length js) (length (all_bytes eight_bytes js)) (length (all_bytes eight_bytes ks)) (length out1) (length out2)
      (length numbers) f
      t (eight-each js) (eight-each ks ∙ ap (λ (n : ℕ). 8 * n) same) room

  pub run-of-lists : ListedRun (λ (i : ℕ). way_of rows from to (listed_date js ks i)) (length js) out1 out2 numbers
      (converted_run (answer rows) from to (all_bytes eight_bytes js) (all_bytes eight_bytes ks) out1 out2 numbers)
  run-of-lists = record {
    count = count-is rows from to (all_bytes eight_bytes js) (all_bytes eight_bytes ks) out1 out2 numbers run-passes
        ∙ ap (λ (n : ℕ). answer (not_zero_in n run.numbers)) (as_many js);
    each = λ i h. subst (λ (d : JulianDate). StampDone (way_of rows from to d) i out1 out2 run) (stamps-of-lists js ks first-bits second-bits i)
        (each-stamp rows from to (all_bytes eight_bytes js) (all_bytes eight_bytes ks) out1 out2 numbers run-passes i (omega (arith, as_many js)));
    spare = subst (λ (n : ℕ). SpareStays n out1 out2 numbers run) (as_many js)
        (spare-stays rows from to (all_bytes eight_bytes js) (all_bytes eight_bytes ks) out1 out2 numbers run-passes);
  }

  -- a stamp that is not finite has its number, whatever the others are
  pub listed-not-finite-numbered : (i : ℕ) → i < length js → ListedNotFinite js ks i → get_or run.numbers i 0 ≡ number_of_not_finite from to
  listed-not-finite-numbered i h e = (run-of-lists.each i h).numbered (number_of_not_finite from to)
      (not_finite_way rows (listed_date js ks i) (listed-not-finite js ks i e) from to f t)

due_eight : {from to : ℕ} (p : FormulaPair from to) (n : ℕ) → due_of p (8 * n) ≡ 8 * due_of p n
unfolding due_of
due_eight gps_tai_pair n = refl
due_eight tai_gps_pair n = refl
due_eight tai_tt_pair n = refl
due_eight tt_tai_pair n = refl
due_eight tt_tcg_pair n = refl
due_eight tcg_tt_pair n = refl
due_eight tcb_tdb_pair n = refl
due_eight tdb_tcb_pair n = refl
due_eight (offset_pair p) n = refl

-- ---- THE RUN BY A FORMULA of two lists of patterns and the offsets that are due
module _ (from to : ℕ) (p : FormulaPair from to) (js ks os out1 out2 numbers : List ℕ) (same : length ks ≡ length js) (due : length os ≡ due_of p (length js))
    (first-bits : Numbers64 js) (second-bits : Numbers64 ks) (offset-bits : Numbers64 os)
    (room : PlacesFor (length js) (length out1) (length out2) (length numbers)) where
  abbrev formula : RunCall
  formula = formula_run from to (all_bytes eight_bytes js) (all_bytes eight_bytes ks) (all_bytes eight_bytes os) out1 out2 numbers

  formula_passes : formula_refusal from to (length (all_bytes eight_bytes js)) (length (all_bytes eight_bytes ks)) (length (all_bytes eight_bytes os))
      (length out1)
      (length out2) (length numbers) ≡ 0
  formula_passes =
      lengths-answered (length (all_bytes eight_bytes js)) (length (all_bytes eight_bytes ks)) (length (all_bytes eight_bytes os)) (length out1) (length out2)
      (length numbers) from to p
      (record {
        whole1 = omega (arith, eight-each js);
        whole2 = omega (arith, eight-each ks);
        whole3 = omega (arith, eight-each os);
        parts = omega (arith, eight-each js, eight-each ks);
        offsets = eight-each os ∙ ap (λ (n : ℕ). 8 * n) due ∙ sym (due_eight p (length js)) ∙ ap (due_of p) (sym (eight-each js));
        places1 = omega (arith, eight-each js, room.first);
        places2 = omega (arith, eight-each js, room.second);
        bytes = omega (arith, as_many js, room.third);
      })

  stamp-by : (i : ℕ) → formula_answer from to (all_bytes eight_bytes js) (all_bytes eight_bytes ks) (all_bytes eight_bytes os) i
      ≡ by_formula from to (listed_float os i) (listed_date js ks i)
  stamp-by i = ap (λ (x : Float). by_formula from to x (stamp_of (all_bytes eight_bytes js) (all_bytes eight_bytes ks) i)) (float_back os offset-bits i)
      ∙ ap (by_formula from to (listed_float os i)) (stamps-of-lists js ks first-bits second-bits i)

  pub formula_of_lists : ListedRun (λ (i : ℕ). by_formula from to (listed_float os i) (listed_date js ks i)) (length js) out1 out2 numbers
      (formula_run from to (all_bytes eight_bytes js) (all_bytes eight_bytes ks) (all_bytes eight_bytes os) out1 out2 numbers)
  formula_of_lists = record {
    count = formula_count_is from to (all_bytes eight_bytes js) (all_bytes eight_bytes ks) (all_bytes eight_bytes os) out1 out2 numbers formula_passes
        ∙ ap (λ (n : ℕ). answer (not_zero_in n formula.numbers)) (as_many js);
    each = λ i h. subst (λ (o : Outcome JulianDate). StampDone o i out1 out2 formula) (stamp-by i)
        (formula_each_stamp from to (all_bytes eight_bytes js) (all_bytes eight_bytes ks) (all_bytes eight_bytes os) out1 out2 numbers formula_passes i
        (omega (arith, as_many js)));
    spare = subst (λ (n : ℕ). SpareStays n out1 out2 numbers formula) (as_many js)
        (formula_spare_stays from to (all_bytes eight_bytes js) (all_bytes eight_bytes ks) (all_bytes eight_bytes os) out1 out2 numbers formula_passes);
  }

  -- a stamp that is not finite is 9, whatever the others are
  pub listed-part-9 : (i : ℕ) → i < length js → ListedNotFinite js ks i → get_or formula.numbers i 0 ≡ 9
  listed-part-9 i h e = (formula_of_lists.each i h).numbered 9
      (not_finite_part_refused (listed_float os i) (listed_date js ks i) from to p (listed-not-finite js ks i e))

-- AN OFFSET THAT IS NOT FINITE beside finite parts gives its own stamp 10, whatever the other stamps and offsets are
module _ (from to : ℕ) (p : OffsetPair from to) (js ks os out1 out2 numbers : List ℕ) (same : length ks ≡ length js) (due : length os ≡ length js)
    (first-bits : Numbers64 js) (second-bits : Numbers64 ks) (offset-bits : Numbers64 os)
    (room : PlacesFor (length js) (length out1) (length out2) (length numbers)) where
  as_due : length os ≡ due_of (offset_pair p) (length js)
  unfolding due_of
  as_due = due

  pub listed-offset-10 : (i : ℕ) → i < length js → finite_parts (listed_date js ks i) ≡ true → exponent_field (get_or os i 0) ≡ 2047
      → get_or (formula_run from to (all_bytes eight_bytes js) (all_bytes eight_bytes ks) (all_bytes eight_bytes os) out1 out2 numbers).numbers i 0 ≡ 10
  listed-offset-10 i h parts e =
      ((formula_of_lists from to (offset_pair p) js ks os out1 out2 numbers same as_due first-bits second-bits offset-bits room).each i h).numbered 10
      (not_finite_offset_refused (listed_float os i) (listed_date js ks i) from to p parts (field_not_finite (get_or os i 0) e))
