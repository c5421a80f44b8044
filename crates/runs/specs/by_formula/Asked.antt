-- What the functions below the call ask and ensure. Assumes nothing.
use Rattle.std.specs.Prelude.{ℕ, ◌+◌, ◌*◌, ◌/◌, ◌%◌, ◌≤◌, ◌≡◌, Bool, cond, ◌&&◌, ◌||◌, List, eqb, leb, length, Float}
use Rattle.constants.specs.scale_numbers.Scales.{TAI, TT, GPS, TCG, TCB, TDB}
use Rattle.std.specs.Float.{binary64}
use Rattle.std.specs.Float.Ieee.{of_bits}
use Rattle.std.specs.Float.Ieee.Scale.{finite}
use Rattle.refusals.specs.Outcome.{Outcome, refusal}
use Rattle.numerals.specs.little_endian.LittleEndian.{u64_at}
use Rattle.julian.specs.declared.JulianDate.{JulianDate}
use Rattle.julian.specs.shifts.Shifts.{plus, minus, converted, converted_by}
use Rattle.scales.specs.Formulas.{tt_to_tcg, tcg_to_tt, tcb_to_tdb, tdb_to_tcb}
use Rattle.julian.specs.stamp_lists.Stamps.{stamp_of}
use Rattle.runs.specs.declared.by_formula.pairs.Kind.{Kind}
use Rattle.runs.specs.declared.by_formula.pairs.Kind.TheVariants as K
use Rattle.runs.specs.by_formula.Run.{first_part, second_part, number_byte, with_part, with_parts, with_numbers, refused_among}
use Rattle.runs.specs.by_formula.Formula.{by_formula, formula_refusal}

-- n stamps are there, and places for them
pub record Roomy (n : ℕ) (js ks out1 out2 numbers : List ℕ) : Type 0 where
  pub first : 8 * n ≤ length js
  pub second : 8 * n ≤ length ks
  pub places1 : 8 * n ≤ length out1
  pub places2 : 8 * n ≤ length out2
  pub bytes : n ≤ length numbers

-- eight bytes for each of the stamps up to place i, and in two slices
abbrev pub HasPlace : ℕ → List ℕ → List ℕ → Type 0
HasPlace i l1 l2 = (8 * i + 8 ≤ length l1) × (8 * i + 8 ≤ length l2)

-- the answer o of stamp i is put: r is its number
pub record StampPut (o : Outcome JulianDate) (i : ℕ) (out1 out2 : List ℕ) (r : ℕ) (out1' out2' : List ℕ) : Type 0 where
  pub number : r ≡ number_byte o
  pub first : out1' ≡ with_part first_part o i out1
  pub second : out2' ≡ with_part second_part o i out2

-- the answers f 0, f 1, .. of n stamps are put, r of them refused
pub record RunPut (f : ℕ → Outcome JulianDate) (n : ℕ) (out1 out2 numbers : List ℕ) (r : ℕ) (out1' out2' numbers' : List ℕ) : Type 0 where
  pub count : r ≡ refused_among f n
  pub first : out1' ≡ with_parts first_part f n out1
  pub second : out2' ≡ with_parts second_part f n out2
  pub third : numbers' ≡ with_numbers f n numbers

-- ---- the kinds of formulas: 0 none, 1 the stamp's own offset added, 2 taken away, 3 so many days, 4 TT to TCG, 5 TCG to TT, 6 TCB to TDB, 7 TDB to TCB

abbrev pub kind_number : Kind → ℕ
kind_number K.NoFormula = 0
kind_number K.Later = 1
kind_number K.Earlier = 2
kind_number K.Shift = 3
kind_number K.TtToTcg = 4
kind_number K.TcgToTt = 5
kind_number K.TcbToTdb = 6
kind_number K.TdbToTcb = 7

-- what the smaller part becomes
unfoldable pub change_of : ℕ → Float → Float → Float → Float
change_of kind days =
    cond (eqb kind 3) (plus days)
    (cond (eqb kind 4) tt_to_tcg
    (cond (eqb kind 5) tcg_to_tt
    (cond (eqb kind 6) tcb_to_tdb tdb_to_tcb)))

-- what the kind answers for a date with an offset
unfoldable pub answer_of_kind : ℕ → Float → Float → JulianDate → Outcome JulianDate
answer_of_kind kind days seconds d =
    cond (eqb kind 0) (refusal 18)
    (cond (eqb kind 1) (converted_by plus seconds d)
    (cond (eqb kind 2) (converted_by minus seconds d)
    (converted (change_of kind days) d)))

-- the bytes of the offsets that are due beside so many bytes of first parts
unfoldable pub size_due : ℕ → ℕ → ℕ
size_due kind size = cond (eqb kind 1 || eqb kind 2) size 0

-- the refusal of the kind and of the lengths
unfoldable pub kind_refusal : ℕ → ℕ → ℕ → ℕ → ℕ → ℕ → ℕ → ℕ
kind_refusal kind size1 size2 size3 room1 room2 room =
    cond (eqb kind 0) 18
    (cond (eqb (size1 % 8) 0 && (eqb (size2 % 8) 0 && eqb (size3 % 8) 0))
    (cond (eqb size1 size2 && eqb size3 (size_due kind size1))
    (cond (leb size1 room1 && (leb size1 room2 && leb (size1 / 8) room)) 0 11)
    12)
    14)

-- the kind is that of the way between the two scales
pub record IsFormula (from to kind : ℕ) (days : Float) : Type 0 where
  pub answers : (seconds : Float) (d : JulianDate) → answer_of_kind kind days seconds d ≡ by_formula from to seconds d
  pub refuses : (size1 size2 size3 room1 room2 room : ℕ)
      → kind_refusal kind size1 size2 size3 room1 room2 room ≡ formula_refusal from to size1 size2 size3 room1 room2 room

-- the same where no days are needed
abbrev pub IsOffsetKind : ℕ → ℕ → ℕ → Type 0
IsOffsetKind from to kind = (days : Float) → IsFormula from to kind days

-- the eight conversions that need no offset
unfoldable pub needs_none : ℕ → ℕ → Bool
needs_none from to =
    (eqb from GPS && eqb to TAI) || ((eqb from TAI && eqb to GPS) || ((eqb from TAI && eqb to TT) || ((eqb from TT && eqb to TAI)
    || ((eqb from TT && eqb to TCG) || ((eqb from TCG && eqb to TT) || ((eqb from TCB && eqb to TDB) || (eqb from TDB && eqb to TCB)))))))

-- ---- stamps

-- the stamp at place i by a formula; 9 where a part is not finite
abbrev pub changed_stamp : (Float → Float → Float) → List ℕ → List ℕ → ℕ → Outcome JulianDate
changed_stamp f js ks i = converted f (stamp_of js ks i)

-- the stamp at place i by its offset, added or taken away
abbrev pub offset_stamp : Bool → List ℕ → List ℕ → List ℕ → ℕ → Outcome JulianDate
offset_stamp earlier js ks os i = converted_by (cond earlier minus plus) (of_bits binary64 (u64_at os (8 * i))) (stamp_of js ks i)

-- the number of the stamp at place i where its offset is not finite
unfoldable pub number_of_not_finite_at : List ℕ → List ℕ → ℕ → ℕ
number_of_not_finite_at js ks i = cond (finite (of_bits binary64 (u64_at js (8 * i))) && finite (of_bits binary64 (u64_at ks (8 * i)))) 10 9
