-- WHAT A RUN MEANS, for every run of every length: each stamp's answer and number, the count, the stamps that are not finite, the same scale, and a refused
-- call. Assumes nothing.
use Prim.Native.Nat.{ℕ, ◌*◌, ◌/◌, ◌<◌, ◌≤◌, ◌^◌}
use native.Mathlib.Omega.{arith}
use native.Mathlib.Nat.{div-mul-le_self}
use mathlib.Core.Path.{◌≡◌, refl, sym, ap, subst}
use mathlib.Core.Logic.{inl, inr}
use mathlib.Core.Bool.{Bool, true, false, cond}
use mathlib.Core.List.{List}
use lib.Dec.{eqb}
use lib.ListN.{length, get_or}
use lib.Ieee.{binary64, of_bits, to_bits}
use lib.Ieee.Scale.{finite}
use borrow.Author.Tests.{eq-eqb}
use Rattle.refusals.specs.Outcome.{Outcome, answer, refusal}
use Rattle.julian.specs.declared.JulianDate.{JulianDate}
use Rattle.julian.specs.Finite.{finite_parts}
use Rattle.numerals.specs.little_endian.LittleEndian.{u64_at}
use Rattle.leap_table.specs.rows.Table.{Row}
use Rattle.julian.proofs.shifts.Outcomes.{and_left, and_right}
use Rattle.julian.specs.stamp_lists.Stamps.{stamp_of}
use Rattle.runs.specs.ways.Ways.{is_run_scale}
use Rattle.runs.specs.by_formula.Run.{RunCall, run_call, run_written}
use Rattle.runs.specs.Run.{stamp_answer, run_refusal, run_by, converted_run}
use Rattle.runs.proofs.Calls.{Fitting, fitting}
use Rattle.runs.proofs.by_formula.Judged.{pattern_back}
use Rattle.utc_scales.specs.laws.Claims.{Holds, refuses, Any}
use Rattle.runs.specs.laws.NotFiniteStamps.{StampNotFinite, number_of_not_finite, OneSixNine, not_zero_in}
use Rattle.runs.specs.laws.Done.{RunConverted, SpareStays, StampDone}
use Rattle.runs.proofs.laws.Refusing.{five, not_finite_way, pattern_not_finite, same-passes, way_refusals, stamp-held}
use Rattle.runs.proofs.laws.Written.{stamp-written, spare-kept, count-written}

-- ---- A REFUSED CALL writes nothing
pub refused-writes-nothing : (o : Outcome (List Row)) (from to : ℕ) (js ks out1 out2 numbers : List ℕ) (k : ℕ)
    → (converted_run o from to js ks out1 out2 numbers).answer ≡ refusal k
    → converted_run o from to js ks out1 out2 numbers ≡ run_call (refusal k) out1 out2 numbers
unfolding converted_run run_by run_written
refused-writes-nothing (refusal m) from to js ks out1 out2 numbers k e = ap (λ (x : Outcome ℕ). run_call x out1 out2 numbers) e
refused-writes-nothing (answer rows) from to js ks out1 out2 numbers k e = go (eqb number 0) e
  where
    number : ℕ
    number = run_refusal from to (length js) (length ks) (length out1) (length out2) (length numbers)

    go : (b : Bool) → (cond b (run_written (stamp_answer rows from to js ks) (length js / 8) out1 out2 numbers) (run_call (refusal number) out1 out2 numbers)
        ).answer ≡ refusal k
        → cond b (run_written (stamp_answer rows from to js ks) (length js / 8) out1 out2 numbers) (run_call (refusal number) out1 out2 numbers) ≡ run_call
        (refusal k) out1 out2 numbers
    go true q = let z : ◌≡◌ {A = ℕ} 0 1 = cc q in let w : ⊥ = omega arith in absurd w
    go false q = ap (λ (x : Outcome ℕ). run_call x out1 out2 numbers) q

-- ---- THE ORDER of the refusals, by calls that break each rule and all behind it: scales, lengths of jd1 and jd2, places
pub refusals_in_order :
    (run_refusal 2 0 7 0 0 0 0 ≡ 18) × (run_refusal 0 6 7 0 0 0 0 ≡ 18) × (run_refusal 7 7 8 8 8 8 1 ≡ 18)
    × (run_refusal 1 0 7 0 0 0 0 ≡ 14) × (run_refusal 1 0 8 15 0 0 0 ≡ 14) × (run_refusal 1 0 8 0 0 0 0 ≡ 12) × (run_refusal 1 0 8 16 0 0 0 ≡ 12)
    × (run_refusal 1 0 8 8 7 8 1 ≡ 11) × (run_refusal 1 0 8 8 8 7 1 ≡ 11) × (run_refusal 1 0 8 8 8 8 0 ≡ 11) × (run_refusal 1 0 8 8 8 8 1 ≡ 0)
    × (run_refusal 3 5 0 0 0 0 0 ≡ 0)
unfolding run_refusal is_run_scale
refusals_in_order = (refl, refl, refl, refl, refl, refl, refl, refl, refl, refl, refl, refl)

-- ---- THE NUMBERS of refused stamps are 1, 6 and 9, and no other
pub stamp-refusals : (rows : List Row) (from to : ℕ) → is_run_scale from ≡ true → is_run_scale to ≡ true → (js ks : List ℕ) (i : ℕ)
    → Holds Any OneSixNine (stamp_answer rows from to js ks i)
stamp-refusals rows from to a b js ks i = way_refusals rows from to a b (stamp_of js ks i) (stamp-held js ks i)

-- so that a byte holds each
below-256 : (k : ℕ) → OneSixNine k → k < 256
below-256 k (inl e) = omega arith
below-256 k (inr (inl e)) = omega arith
below-256 k (inr (inr e)) = omega arith

in_a_byte : (o : Outcome JulianDate) → Holds Any OneSixNine o → (k : ℕ) → o ≡ refusal k → k < 256
in_a_byte (answer d) h k e = let z : ◌≡◌ {A = ℕ} 0 1 = cc e in let w : ⊥ = omega arith in absurd w
in_a_byte (refusal n) (refuses r) k e = let q : n ≡ k = cc e in subst (λ (m : ℕ). m < 256) q (below-256 n r)

-- ---- a call that is not refused
module _ (rows : List Row) (from to : ℕ) (js ks out1 out2 numbers : List ℕ)
    (z : run_refusal from to (length js) (length ks) (length out1) (length out2) (length numbers) ≡ 0) where
  abbrev f : ℕ → Outcome JulianDate
  f = stamp_answer rows from to js ks

  abbrev n : ℕ
  n = length js / 8

  written : converted_run (answer rows) from to js ks out1 out2 numbers ≡ run_written f n out1 out2 numbers
  unfolding converted_run run_by
  written = rw (eq-eqb _ 0 z)

  fits : Fitting from to (length js) (length ks) (length out1) (length out2) (length numbers)
  fits = fitting from to (length js) (length ks) (length out1) (length out2) (length numbers) z

  whole : 8 * n ≤ length js
  whole = omega (arith, div-mul-le_self (length js) 8)

  room1 : 8 * n ≤ length out1
  room1 = omega (arith, whole, fits.places1)

  room2 : 8 * n ≤ length out2
  room2 = omega (arith, whole, fits.places2)

  small : (i k : ℕ) → f i ≡ refusal k → k < 256
  small i k e = in_a_byte (f i) (stamp-refusals rows from to fits.known_from fits.known-to js ks i) k e

  -- EACH STAMP'S ANSWER is that of the single calls on its way, and its number is 0 or that of its refusal
  pub each-stamp : (i : ℕ) → i < n → StampDone (f i) i out1 out2 (converted_run (answer rows) from to js ks out1 out2 numbers)
  each-stamp i h = subst (StampDone (f i) i out1 out2) (sym written) (stamp-written f n out1 out2 numbers room1 room2 fits.bytes i h (small i))

  pub spare-stays : SpareStays n out1 out2 numbers (converted_run (answer rows) from to js ks out1 out2 numbers)
  spare-stays = subst (SpareStays n out1 out2 numbers) (sym written) (spare-kept f n out1 out2 numbers room1 room2 fits.bytes)

  -- THE COUNT is of the numbers that are not 0
  pub count-is : (converted_run (answer rows) from to js ks out1 out2 numbers).answer ≡ answer
      (not_zero_in n (converted_run (answer rows) from to js ks out1 out2 numbers).numbers)
  count-is = subst (λ (c : RunCall). c.answer ≡ answer (not_zero_in n c.numbers)) (sym written)
      (count-written f n out1 out2 numbers room1 room2 fits.bytes)

  -- EVERY STAMP THAT IS NOT FINITE is refused, by 6 where the first call reads the leap table and else by 9
  pub not_finite_stamp_refused : (i : ℕ) → StampNotFinite js ks i → f i ≡ refusal (number_of_not_finite from to)
  not_finite_stamp_refused i h = not_finite_way rows (stamp_of js ks i) (pattern_not_finite js ks i h) from to (five from fits.known_from)
      (five to fits.known-to)

  pub not_finite_stamp_numbered : (i : ℕ) → i < n → StampNotFinite js ks i
      → get_or (converted_run (answer rows) from to js ks out1 out2 numbers).numbers i 0 ≡ number_of_not_finite from to
  not_finite_stamp_numbered i h d = (each-stamp i h).numbered (number_of_not_finite from to) (not_finite_stamp_refused i d)

-- THE RUN whole
pub run-converted : (rows : List Row) (from to : ℕ) (js ks out1 out2 numbers : List ℕ) → RunConverted rows from to js ks out1 out2 numbers
run-converted rows from to js ks out1 out2 numbers z = record {
  each = each-stamp rows from to js ks out1 out2 numbers z;
  not_finite = not_finite_stamp_numbered rows from to js ks out1 out2 numbers z;
  count = count-is rows from to js ks out1 out2 numbers z;
  spare = spare-stays rows from to js ks out1 out2 numbers z;
}

-- ---- FROM A SCALE TO THE SAME a stamp passes with its bits
pub same-scale-passes : (rows : List Row) (n : ℕ) (js ks : List ℕ) (i : ℕ) → finite_parts (stamp_of js ks i) ≡ true
    → stamp_answer rows n n js ks i ≡ answer (stamp_of js ks i)
same-scale-passes rows n js ks i h = same-passes rows n (stamp_of js ks i) h

pub same-scale-bits : (js ks : List ℕ) (i : ℕ) → u64_at js (8 * i) < 2 ^ 64 → u64_at ks (8 * i) < 2 ^ 64 → finite_parts (stamp_of js ks i) ≡ true
    → (to_bits binary64 (stamp_of js ks i).jd1 ≡ u64_at js (8 * i)) × (to_bits binary64 (stamp_of js ks i).jd2 ≡ u64_at ks (8 * i))
unfolding stamp_of
same-scale-bits js ks i a b h = (
  pattern_back (u64_at js (8 * i)) a (and_left (finite (of_bits binary64 (u64_at js (8 * i)))) (finite (of_bits binary64 (u64_at ks (8 * i)))) h),
  pattern_back (u64_at ks (8 * i)) b (and_right (finite (of_bits binary64 (u64_at js (8 * i)))) (finite (of_bits binary64 (u64_at ks (8 * i)))) h),
)
