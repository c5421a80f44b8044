-- The conversions of a run by a formula, written out one by one, why a stamp is refused, and with which lengths a call is answered. From
-- include/celestial_time.h. Assumes nothing.
use Rattle.std.specs.Prelude.{ℕ, ◌/◌, ◌%◌, ◌≤◌, ◌≡◌, ◌⊎◌, true, false, Float}
use Rattle.std.specs.Float.Ieee.Scale.{finite}
use Rattle.julian.specs.declared.JulianDate.{JulianDate}
use Rattle.julian.specs.Finite.{finite_parts}
use Rattle.scales.specs.Conversions.{answer_of, gps-tai, tai-gps, tai-tt, tt-tai, tcg-tt, tt_tcg, tcb-tdb, tdb-tcb, tai-ut1, ut1-tai, ut1-tt, tt-ut1}
use Rattle.scales.specs.Conversions.{tt-tdb, tdb-tt}
use Rattle.runs.specs.by_formula.Formula.{by_formula}

-- TAI 1, UT1 2, TT 3, GPS 4, TCG 5, TCB 6, TDB 7
pub record EachFormula (seconds : Float) (d : JulianDate) : Type 0 where
  pub gps_to_tai : by_formula 4 1 seconds d ≡ answer_of gps-tai d
  pub tai_to_gps : by_formula 1 4 seconds d ≡ answer_of tai-gps d
  pub tai_to_tt : by_formula 1 3 seconds d ≡ answer_of tai-tt d
  pub tt_to_tai : by_formula 3 1 seconds d ≡ answer_of tt-tai d
  pub tt-to-tcg : by_formula 3 5 seconds d ≡ answer_of tt_tcg d
  pub tcg-to-tt : by_formula 5 3 seconds d ≡ answer_of tcg-tt d
  pub tcb-to-tdb : by_formula 6 7 seconds d ≡ answer_of tcb-tdb d
  pub tdb-to-tcb : by_formula 7 6 seconds d ≡ answer_of tdb-tcb d
  pub tai_to_ut1 : by_formula 1 2 seconds d ≡ answer_of (tai-ut1 seconds) d
  pub ut1_to_tai : by_formula 2 1 seconds d ≡ answer_of (ut1-tai seconds) d
  pub ut1_to_tt : by_formula 2 3 seconds d ≡ answer_of (ut1-tt seconds) d
  pub tt_to_ut1 : by_formula 3 2 seconds d ≡ answer_of (tt-ut1 seconds) d
  pub tt_to_tdb : by_formula 3 7 seconds d ≡ answer_of (tt-tdb seconds) d
  pub tdb_to_tt : by_formula 7 3 seconds d ≡ answer_of (tdb-tt seconds) d

-- the pairs of scales, of which the last six take an offset
pub data OffsetPair : ℕ → ℕ → Type 0 where
  tai_ut1_pair : OffsetPair 1 2
  ut1_tai_pair : OffsetPair 2 1
  ut1_tt_pair : OffsetPair 2 3
  tt_ut1_pair : OffsetPair 3 2
  tt_tdb_pair : OffsetPair 3 7
  tdb_tt_pair : OffsetPair 7 3

pub data FormulaPair : ℕ → ℕ → Type 0 where
  gps_tai_pair : FormulaPair 4 1
  tai_gps_pair : FormulaPair 1 4
  tai_tt_pair : FormulaPair 1 3
  tt_tai_pair : FormulaPair 3 1
  tt_tcg_pair : FormulaPair 3 5
  tcg_tt_pair : FormulaPair 5 3
  tcb_tdb_pair : FormulaPair 6 7
  tdb_tcb_pair : FormulaPair 7 6
  offset_pair : {from to : ℕ} → OffsetPair from to → FormulaPair from to

-- why a stamp is refused by k: 9 for a part that is not finite, and only then 10 for the offset
abbrev pub FormulaRefusal : Float → JulianDate → ℕ → Type 0
FormulaRefusal seconds d k = ((finite_parts d ≡ false) × (k ≡ 9)) ⊎ (((finite_parts d ≡ true) × (finite seconds ≡ false)) × (k ≡ 10))

-- the bytes of the offsets that are due beside so many bytes of first parts: as many for the last six pairs, and none for the others
unfoldable pub due_of : {from to : ℕ} → FormulaPair from to → ℕ → ℕ
due_of gps_tai_pair size = 0
due_of tai_gps_pair size = 0
due_of tai_tt_pair size = 0
due_of tt_tai_pair size = 0
due_of tt_tcg_pair size = 0
due_of tcg_tt_pair size = 0
due_of tcb_tdb_pair size = 0
due_of tdb_tcb_pair size = 0
due_of (offset_pair p) size = size

-- the lengths in bytes with which a call is answered
pub record LengthsDue (size1 size2 size3 due room1 room2 room : ℕ) : Type 0 where
  pub whole1 : size1 % 8 ≡ 0
  pub whole2 : size2 % 8 ≡ 0
  pub whole3 : size3 % 8 ≡ 0
  pub parts : size1 ≡ size2
  pub offsets : size3 ≡ due
  pub places1 : size1 ≤ room1
  pub places2 : size1 ≤ room2
  pub bytes : size1 / 8 ≤ room
