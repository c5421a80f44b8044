-- A run by a formula: which of document 01's conversions leads from one scale to another in one step and reads no table, and what the call answers. The
-- conversions are those of `scales`; a scale is its number in include/celestial_time.h: TAI 1, UT1 2, TT 3, GPS 4, TCG 5, TCB 6, TDB 7. Refusals by documents
-- 01's and 02's numbers: 18 two scales without such a conversion, 14 a broken length, 12 sizes that differ, 11 too few places. Assumes nothing.
use Rattle.std.specs.Prelude.{ℕ, ◌*◌, ◌/◌, ◌%◌, Bool, true, false, cond, ◌&&◌, List, eqb, leb, length, Float}
use Rattle.constants.specs.scale_numbers.Scales.{TAI, UT1, TT, GPS, TCG, TCB, TDB}
use Rattle.std.specs.Float.{binary64}
use Rattle.std.specs.Float.Ieee.{of_bits}
use Rattle.refusals.specs.Outcome.{Outcome, answer, refusal, onward}
use Rattle.floats.specs.Whole.{nought}
use Rattle.numerals.specs.little_endian.LittleEndian.{u64_at}
use Rattle.julian.specs.declared.JulianDate.{JulianDate}
use Rattle.scales.specs.Conversions.{Conversion, answer_of, gps-tai, tai-gps, tai-tt, tt-tai, tcg-tt, tt_tcg, tcb-tdb, tdb-tcb, tai-tcg, tcg-tai}
use Rattle.scales.specs.Conversions.{tai-ut1, ut1-tai, ut1-tt, tt-ut1, tt-tdb, tdb-tt}
use Rattle.julian.specs.stamp_lists.Stamps.{stamp_of}
use Rattle.runs.specs.by_formula.Run.{RunCall, run_call, run_written}

-- the conversion from one scale to another; the last six by an offset in seconds
unfoldable pub formula_of : ℕ → ℕ → Float → Outcome Conversion
formula_of from to seconds =
    cond (eqb from GPS && eqb to TAI) (answer gps-tai)
    (cond (eqb from TAI && eqb to GPS) (answer tai-gps)
    (cond (eqb from TAI && eqb to TT) (answer tai-tt)
    (cond (eqb from TT && eqb to TAI) (answer tt-tai)
    (cond (eqb from TT && eqb to TCG) (answer tt_tcg)
    (cond (eqb from TCG && eqb to TT) (answer tcg-tt)
    (cond (eqb from TCB && eqb to TDB) (answer tcb-tdb)
    (cond (eqb from TDB && eqb to TCB) (answer tdb-tcb)
    (cond (eqb from TAI && eqb to UT1) (answer (tai-ut1 seconds))
    (cond (eqb from UT1 && eqb to TAI) (answer (ut1-tai seconds))
    (cond (eqb from UT1 && eqb to TT) (answer (ut1-tt seconds))
    (cond (eqb from TT && eqb to UT1) (answer (tt-ut1 seconds))
    (cond (eqb from TT && eqb to TDB) (answer (tt-tdb seconds))
    (cond (eqb from TDB && eqb to TT) (answer (tdb-tt seconds))
    (refusal 18))))))))))))))

-- the date that it leads to
unfoldable pub by_formula : ℕ → ℕ → Float → JulianDate → Outcome JulianDate
by_formula from to seconds d = onward (formula_of from to seconds) (λ (c : Conversion). answer_of c d)

-- the answer of the stamp at place i: eight bytes of each part, and of its offset
abbrev pub formula_answer : ℕ → ℕ → List ℕ → List ℕ → List ℕ → ℕ → Outcome JulianDate
formula_answer from to js ks os i = by_formula from to (of_bits binary64 (u64_at os (8 * i))) (stamp_of js ks i)

-- ---- the call

-- whether a conversion is by an offset that the caller gives
unfoldable pub takes_offset : Conversion → Bool
takes_offset gps-tai = false
takes_offset tai-gps = false
takes_offset tai-tt = false
takes_offset tt-tai = false
takes_offset tcg-tt = false
takes_offset tt_tcg = false
takes_offset tcb-tdb = false
takes_offset tdb-tcb = false
takes_offset tai-tcg = false
takes_offset tcg-tai = false
takes_offset (tai-ut1 seconds) = true
takes_offset (ut1-tai seconds) = true
takes_offset (ut1-tt seconds) = true
takes_offset (tt-ut1 seconds) = true
takes_offset (tt-tdb seconds) = true
takes_offset (tdb-tt seconds) = true

-- the refusal of the lengths in bytes: of the parts and the offsets, of the places for the parts, and of the numbers; 0 for none
unfoldable pub lengths_refusal : Outcome Conversion → ℕ → ℕ → ℕ → ℕ → ℕ → ℕ → ℕ
lengths_refusal (refusal k) size1 size2 size3 room1 room2 room = k
lengths_refusal (answer c) size1 size2 size3 room1 room2 room =
    cond (eqb (size1 % 8) 0 && (eqb (size2 % 8) 0 && eqb (size3 % 8) 0))
    (cond (eqb size1 size2 && eqb size3 (cond (takes_offset c) size1 0))
    (cond (leb size1 room1 && (leb size1 room2 && leb (size1 / 8) room)) 0 11)
    12)
    14

unfoldable pub formula_refusal : ℕ → ℕ → ℕ → ℕ → ℕ → ℕ → ℕ → ℕ → ℕ
formula_refusal from to = lengths_refusal (formula_of from to nought)

unfoldable pub formula_run : ℕ → ℕ → List ℕ → List ℕ → List ℕ → List ℕ → List ℕ → List ℕ → RunCall
formula_run from to js ks os out1 out2 numbers =
    cond (eqb (formula_refusal from to (length js) (length ks) (length os) (length out1) (length out2) (length numbers)) 0)
    (run_written (formula_answer from to js ks os) (length js / 8) out1 out2 numbers)
    (run_call (refusal (formula_refusal from to (length js) (length ks) (length os) (length out1) (length out2) (length numbers))) out1 out2 numbers)
