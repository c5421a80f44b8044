-- A stamp that is judged by its patterns, and what it becomes by a formula. Assumes nothing.
use Prim.Native.Nat.{ℕ, ◌*◌, ◌%◌, ◌^◌, ◌<◌, ◌≤◌}
use native.Mathlib.Omega.{arith}
use native.Mathlib.Nat.{div-lt_iff_lt-mul, le-div_iff_mul-le, mod-lt}
use mathlib.Core.Path.{◌≡◌, refl, sym, ap, subst, ◌∙◌}
use mathlib.Core.Bool.{Bool, true, false, not, cond, ◌&&◌}
use mathlib.Core.List.{List}
use lib.Dec.{T, eqb, ltb}
use lib.Pow.{field, pow_pos}
use lib.Ieee.{Float, nan, inf, fin, binary64, sub, neg, lt, of_bits, to_bits, nan_bits, is_nan}
use lib.Ieee.Bits.{nan_bits_is, to_bits-of_bits}
use lib.Ieee.Scale.{finite}
use borrow.Author.Tests.{ltb-true, ltb-false, lt-ltb, eq-eqb, ne_eqb}
use Rattle.floats.specs.Whole.{abs}
use Rattle.floats.proofs.Fields.{expo}
use Rattle.floats.proofs.ExponentField.{finite-field}
use Rattle.refusals.specs.Outcome.{Outcome, answer, refusal}
use Rattle.julian.specs.declared.JulianDate.{JulianDate}
use Rattle.julian.specs.JulianDate.{julian}
use Rattle.numerals.specs.little_endian.LittleEndian.{u64_at}
use Rattle.julian.specs.shifts.SmallerPart.{first_is_larger}
use Rattle.julian.specs.shifts.Shifts.{days_of, plus, minus, converted, converted_by}
use Rattle.julian.proofs.shifts.Outcomes.{first, first_by}
use Rattle.julian.proofs.shifts.SmallerPart.{map_is, map_as}
use Rattle.julian.specs.stamp_lists.Stamps.{stamp_of}
use Rattle.julian.proofs.stamp_lists.Reading.{stamp-is}
use Rattle.runs.specs.by_formula.Asked.{change_of, changed_stamp, offset_stamp, number_of_not_finite_at}

-- ---- a finite number's pattern

pub field_most : (b : ℕ) → expo b ≤ 2047
field_most b = let h : expo b < 2048 = (div-lt_iff_lt-mul (pow_pos 52)).1 (mod-lt b (pow_pos 63)) in omega arith

pub number-pattern : (b : ℕ) → ltb (b % 0x8000_0000_0000_0000) 0x7ff0_0000_0000_0000 ≡ finite (of_bits binary64 b)
number-pattern b = go (ltb (b % 0x8000_0000_0000_0000) 0x7ff0_0000_0000_0000) refl ∙ ap (λ (e : ℕ). not (eqb e 2047)) (field b 11 52) ∙ sym (finite-field b)
  where
    go : (t : Bool) → ltb (b % 0x8000_0000_0000_0000) 0x7ff0_0000_0000_0000 ≡ t → t ≡ not (eqb (expo b) 2047)
    go true e =
        let h : expo b < 2047 = (div-lt_iff_lt-mul (pow_pos 52)).1 (ltb-true (b % 0x8000_0000_0000_0000) 0x7ff0_0000_0000_0000 e) in
        sym (ap not (ne_eqb (expo b) 2047 (λ q. let w : ⊥ = omega arith in w)))
    go false e =
        let h : 2047 ≤ expo b = (le-div_iff_mul-le (pow_pos 52)).1 (ltb-false (b % 0x8000_0000_0000_0000) 0x7ff0_0000_0000_0000 e) in
        let q : expo b ≡ 2047 = omega (arith, field_most b) in
        sym (ap not (eq-eqb (expo b) 2047 q))

-- of two patterns the larger decides for both: where it is a finite number's, so is the other
module _ (a b : ℕ) where
  pub smaller-second : ltb (b % 0x8000_0000_0000_0000) (a % 0x8000_0000_0000_0000) ≡ true → finite (of_bits binary64 a) ≡ true
      → finite (of_bits binary64 b) ≡ true
  smaller-second l h =
      let p : b % 0x8000_0000_0000_0000 < a % 0x8000_0000_0000_0000 = ltb-true (b % 0x8000_0000_0000_0000) (a % 0x8000_0000_0000_0000) l in
      let q : a % 0x8000_0000_0000_0000 < 0x7ff0_0000_0000_0000 = ltb-true (a % 0x8000_0000_0000_0000) 0x7ff0_0000_0000_0000 (number-pattern a ∙ h) in
      sym (number-pattern b) ∙ lt-ltb (b % 0x8000_0000_0000_0000) 0x7ff0_0000_0000_0000 (omega arith)

  pub smaller-first : ltb (b % 0x8000_0000_0000_0000) (a % 0x8000_0000_0000_0000) ≡ false → finite (of_bits binary64 b) ≡ true
      → finite (of_bits binary64 a) ≡ true
  smaller-first l h =
      let p : a % 0x8000_0000_0000_0000 ≤ b % 0x8000_0000_0000_0000 = ltb-false (b % 0x8000_0000_0000_0000) (a % 0x8000_0000_0000_0000) l in
      let q : b % 0x8000_0000_0000_0000 < 0x7ff0_0000_0000_0000 = ltb-true (b % 0x8000_0000_0000_0000) 0x7ff0_0000_0000_0000 (number-pattern b ∙ h) in
      sym (number-pattern a) ∙ lt-ltb (a % 0x8000_0000_0000_0000) 0x7ff0_0000_0000_0000 (omega arith)

number-no-nan : (x : Float) → finite x ≡ true → is_nan x ≡ false
unfolding is_nan
number-no-nan nan h = let z : true ≡ false = sym h in cc
number-no-nan (inf s) h = refl
number-no-nan (fin s m e) h = refl

pub no_nan : (b : ℕ) → finite (of_bits binary64 b) ≡ true → T (not (nan_bits binary64 b))
no_nan b h = subst (λ (t : Bool). T (not t)) (sym (nan_bits_is binary64 b ∙ number-no-nan (of_bits binary64 b) h)) tt

-- written again, it is the same pattern
pub pattern_back : (b : ℕ) → b < 2 ^ 64 → finite (of_bits binary64 b) ≡ true → to_bits binary64 (of_bits binary64 b) ≡ b
pattern_back b small h = to_bits-of_bits binary64 b small (subst (λ (t : Bool). T (not t)) (sym (number-no-nan (of_bits binary64 b) h)) tt)

-- ---- one stamp, whose patterns are a and b
module _ (f : Float → Float → Float) (js ks : List ℕ) (i a b : ℕ) (ea : a ≡ u64_at js (8 * i)) (eb : b ≡ u64_at ks (8 * i)) where
  read : julian (of_bits binary64 a) (of_bits binary64 b) ≡ stamp_of js ks i
  read = stamp-is js ks i a b (of_bits binary64 a) (of_bits binary64 b) ea eb refl refl

  judged : changed_stamp f js ks i ≡ cond (finite (of_bits binary64 a) && finite (of_bits binary64 b))
      (answer (map_as f (julian (of_bits binary64 a) (of_bits binary64 b)) (first_is_larger (julian (of_bits binary64 a) (of_bits binary64 b))))) (refusal 9)
  judged =
      ap (converted f) (sym read) ∙ first f (julian (of_bits binary64 a) (of_bits binary64 b))
      ∙ ap (λ (u : JulianDate). cond (finite (of_bits binary64 a) && finite (of_bits binary64 b)) (answer u) (refusal 9))
      (map_is f (julian (of_bits binary64 a) (of_bits binary64 b)))

  pub not_finite_first : finite (of_bits binary64 a) ≡ false → changed_stamp f js ks i ≡ refusal 9
  not_finite_first h = rw h at judged

  module _ (h : finite (of_bits binary64 a) ≡ true) where
    not_finite_second : finite (of_bits binary64 b) ≡ false → changed_stamp f js ks i ≡ refusal 9
    not_finite_second k = rw (h, k) at judged

    module _ (k : finite (of_bits binary64 b) ≡ true) (larger : Bool) (el : larger ≡ lt (abs (of_bits binary64 b)) (abs (of_bits binary64 a))) where
      moved : changed_stamp f js ks i ≡ answer (map_as f (julian (of_bits binary64 a) (of_bits binary64 b)) larger)
      unfolding first_is_larger
      moved = rw (h, k, ← el) at judged

      pub changed-second : larger ≡ true → changed_stamp f js ks i ≡ answer (julian (of_bits binary64 a) (f (of_bits binary64 a) (of_bits binary64 b)))
      changed-second e = rw e at moved

      pub changed-first : larger ≡ false → changed_stamp f js ks i ≡ answer (julian (f (of_bits binary64 b) (of_bits binary64 a)) (of_bits binary64 b))
      changed-first e = rw e at moved

  pub not_finite_either : finite (of_bits binary64 b) ≡ false → changed_stamp f js ks i ≡ refusal 9
  not_finite_either k = go (finite (of_bits binary64 a)) refl
    where
      go : (t : Bool) → finite (of_bits binary64 a) ≡ t → changed_stamp f js ks i ≡ refusal 9
      go true h = not_finite_second h k
      go false h = not_finite_first h

-- ---- a stamp with an offset of its own
module _ (earlier : Bool) (js ks os : List ℕ) (i : ℕ) where
  turned_is : (t : Bool) (days : Float) → change_of 3 (cond t (neg days) days) ≡ cond t minus plus days
  unfolding change_of plus minus sub
  turned_is true days = refl
  turned_is false days = refl

  pub offset-moves : (c : ℕ) (days : Float) → c ≡ u64_at os (8 * i) → finite (of_bits binary64 c) ≡ true
      → days ≡ cond earlier (neg (days_of (of_bits binary64 c))) (days_of (of_bits binary64 c))
      → changed_stamp (change_of 3 days) js ks i ≡ offset_stamp earlier js ks os i
  offset-moves c days e h q =
      let s = of_bits binary64 c in
      let same : change_of 3 days ≡ cond earlier minus plus (days_of s) = ap (change_of 3) q ∙ turned_is earlier (days_of s) in
      ap (λ (f : Float → Float → Float). converted f (stamp_of js ks i)) same
      ∙ first (cond earlier minus plus (days_of s)) (stamp_of js ks i)
      ∙ sym (rw h at (first_by (cond earlier minus plus) s (stamp_of js ks i)))
      ∙ ap (λ (n : ℕ). converted_by (cond earlier minus plus) (of_bits binary64 n) (stamp_of js ks i)) e

  pub offset-not-finite : (c : ℕ) → c ≡ u64_at os (8 * i) → finite (of_bits binary64 c) ≡ false
      → offset_stamp earlier js ks os i ≡ refusal (number_of_not_finite_at js ks i)
  unfolding number_of_not_finite_at stamp_of
  offset-not-finite c e h =
      ap (λ (n : ℕ). converted_by (cond earlier minus plus) (of_bits binary64 n) (stamp_of js ks i)) (sym e)
      ∙ (rw h at (first_by (cond earlier minus plus) (of_bits binary64 c) (stamp_of js ks i)))
      ∙ go (finite (of_bits binary64 (u64_at js (8 * i))) && finite (of_bits binary64 (u64_at ks (8 * i))))
    where
      go : (t : Bool) → ◌≡◌ {A = Outcome JulianDate} (cond t (refusal 10) (refusal 9)) (refusal (cond t 10 9))
      go true = refl
      go false = refl

  -- the number fits a byte
  pub not_finite_small : number_of_not_finite_at js ks i ≡ number_of_not_finite_at js ks i % 256
  unfolding number_of_not_finite_at
  not_finite_small = go (finite (of_bits binary64 (u64_at js (8 * i))) && finite (of_bits binary64 (u64_at ks (8 * i))))
    where
      go : (t : Bool) → ◌≡◌ {A = ℕ} (cond t 10 9) (cond t 10 9 % 256)
      go true = refl
      go false = refl
