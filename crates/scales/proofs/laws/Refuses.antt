-- Which refusals occur, and exactly when: 9 where a part of the date is not finite, or on the way from TCG to TAI a part of the TT date in between; 10 where
-- these are finite and the offset is not; a date otherwise. Assumes nothing.
use Rattle.std.proofs.Common.{◌≡◌, ℕ, Bool, true, false, cond, ◌&&◌, ◌⊎◌, sym, refl, ap, ◌∙◌, subst, inl, inr, arith}
use lib.Ieee.{Float}
use lib.Ieee.Scale.{finite}
use Rattle.refusals.specs.Outcome.{Outcome, answer, refusal, onward}
use Rattle.julian.specs.declared.JulianDate.{JulianDate}
use Rattle.julian.specs.shifts.SmallerPart.{first_is_larger, map_smaller_part}
use Rattle.scales.specs.Formulas.{gps_days, tt_days, tcg_to_tt, tt_to_tcg, tcb_to_tdb, tdb_to_tcb}
use Rattle.scales.specs.Conversions.{Conversion, gps-tai, tai-gps, tai-tt, tt-tai, tcg-tt, tt_tcg, tcb-tdb, tdb-tcb, tai-tcg, tcg-tai, tai-ut1}
use Rattle.scales.specs.Conversions.{ut1-tai, ut1-tt, tt-ut1, tt-tdb, tdb-tt, offset_of, answer_of}
use Rattle.scales.specs.Refusals.{tested_finite, DecidedFinite}
use Rattle.scales.specs.laws.Ranges.{Held}
use Rattle.scales.specs.laws.Refusals.{Refusals}
use Rattle.julian.proofs.shifts.Outcomes.{and_left, and_right, first, first_by}
use Rattle.julian.proofs.shifts.SmallerPart.{map_as, map_is}
use Rattle.scales.proofs.laws.Shifts.{added, tt_small}
use Rattle.julian.specs.Finite.{finite_parts}
use Rattle.julian.specs.shifts.Shifts.{plus, minus, days_of, converted, converted_by}

-- ---- TAI + 32.184 s is finite where TAI is
both_true : {a b : Bool} → a ≡ true → b ≡ true → (a && b) ≡ true
both_true h k = rw (h, k)

tt_between : (d : JulianDate) → Held d → finite_parts d ≡ true → finite_parts (map_smaller_part (plus tt_days) d) ≡ true
unfolding plus
tt_between d f h = ap finite_parts (map_is (plus tt_days) d) ∙ go (first_is_larger d)
  where
    one : finite d.jd1 ≡ true
    one = and_left (finite d.jd1) (finite d.jd2) h

    two : finite d.jd2 ≡ true
    two = and_right (finite d.jd1) (finite d.jd2) h

    go : (b : Bool) → finite_parts (map_as (plus tt_days) d b) ≡ true
    go true = both_true one (added tt_small d.jd2 f.1 two)
    go false = both_true (added tt_small d.jd1 f.0 one) two

-- ---- the three kinds of conversion
plain : (f : Float → Float → Float) (d : JulianDate) → DecidedFinite (finite_parts d) true (converted f d)
plain f d = subst (DecidedFinite (finite_parts d) true) (sym (first f d)) (go (finite_parts d))
  where
    go : (b : Bool) → DecidedFinite b true (cond b (answer (map_smaller_part f d)) (refusal 9))
    go true = (map_smaller_part f d, refl)
    go false = refl

given : (f : Float → Float → Float → Float) (s : Float) (d : JulianDate) → DecidedFinite (finite_parts d) (finite s) (converted_by f s d)
given f s d = subst (DecidedFinite (finite_parts d) (finite s)) (sym (first_by f s d)) (go (finite_parts d) (finite s))
  where
    go : (b c : Bool) → DecidedFinite b c (cond b (cond c (answer (map_smaller_part (f (days_of s)) d)) (refusal 10)) (refusal 9))
    go true true = (map_smaller_part (f (days_of s)) d, refl)
    go true false = refl
    go false true = refl
    go false false = refl

after : (g : Float → Float → Float) (e : JulianDate) (b : Bool) → DecidedFinite (b && finite_parts e) true
    (onward (cond b (answer e) (refusal 9)) (converted g))
unfolding onward
after g e true = plain g e
after g e false = refl

through : (f g : Float → Float → Float) (d : JulianDate)
    → DecidedFinite (finite_parts d && finite_parts (map_smaller_part f d)) true (onward (converted f d) (converted g))
through f g d = subst (λ (o : Outcome JulianDate). DecidedFinite (finite_parts d && finite_parts (map_smaller_part f d)) true (onward o (converted g)))
    (sym (first f d)) (after g (map_smaller_part f d) (finite_parts d))

-- TT in between is finite
through_tt : (d : JulianDate) → Held d → DecidedFinite (finite_parts d) true (onward (converted (plus tt_days) d) (converted tt_to_tcg))
through_tt d f = subst (λ (b : Bool). DecidedFinite b true (onward (converted (plus tt_days) d) (converted tt_to_tcg))) (go (finite_parts d) (tt_between d f))
    (through (plus tt_days) tt_to_tcg d)
  where
    go : (b : Bool) → (b ≡ true → finite_parts (map_smaller_part (plus tt_days) d) ≡ true) → (b && finite_parts (map_smaller_part (plus tt_days) d)) ≡ b
    go true h = h refl
    go false h = refl

-- ---- the theorem
pub refuses : (k : Conversion) (d : JulianDate) → Held d → DecidedFinite (tested_finite k d) (finite (offset_of k)) (answer_of k d)
unfolding answer_of offset_of tested_finite
refuses gps-tai d f = plain (plus gps_days) d
refuses tai-gps d f = plain (minus gps_days) d
refuses tai-tt d f = plain (plus tt_days) d
refuses tt-tai d f = plain (minus tt_days) d
refuses tcg-tt d f = plain tcg_to_tt d
refuses tt_tcg d f = plain tt_to_tcg d
refuses tcb-tdb d f = plain tcb_to_tdb d
refuses tdb-tcb d f = plain tdb_to_tcb d
refuses tai-tcg d f = through_tt d f
refuses tcg-tai d f = through tcg_to_tt (minus tt_days) d
refuses (tai-ut1 s) d f = given plus s d
refuses (ut1-tai s) d f = given minus s d
refuses (ut1-tt s) d f = given plus s d
refuses (tt-ut1 s) d f = given minus s d
refuses (tt-tdb s) d f = given plus s d
refuses (tdb-tt s) d f = given minus s d

-- ---- read from the outcome: which numbers occur, and what each says
pub refusals : (k : Conversion) (d : JulianDate) → Held d → Refusals k d
refusals k d f = record {
  nine = λ h. go9 (tested_finite k d) (finite (offset_of k)) (answer_of k d) (refuses k d f) h;
  ten = λ h. go10 (tested_finite k d) (finite (offset_of k)) (answer_of k d) (refuses k d f) h;
  only = λ n h. go (tested_finite k d) (finite (offset_of k)) (answer_of k d) (refuses k d f) n h;
}
  where
    nine-ten : ◌≡◌ {A = ℕ} 9 10 → ⊥
    nine-ten e = omega arith

    go9 : (b c : Bool) (o : Outcome JulianDate) → DecidedFinite b c o → o ≡ refusal 9 → b ≡ false
    go9 true true o (u, e) h = let z : ◌≡◌ {A = ℕ} 0 1 = cc in let w : ⊥ = omega arith in absurd w
    go9 true false o e h = let z : ◌≡◌ {A = ℕ} 9 10 = cc in absurd (nine-ten z)
    go9 false c o e h = refl

    go10 : (b c : Bool) (o : Outcome JulianDate) → DecidedFinite b c o → o ≡ refusal 10 → (b ≡ true) × (c ≡ false)
    go10 true true o (u, e) h = let z : ◌≡◌ {A = ℕ} 0 1 = cc in let w : ⊥ = omega arith in absurd w
    go10 true false o e h = (refl, refl)
    go10 false c o e h = let z : ◌≡◌ {A = ℕ} 9 10 = cc in absurd (nine-ten z)

    go : (b c : Bool) (o : Outcome JulianDate) → DecidedFinite b c o → (n : ℕ) → o ≡ refusal n → (n ≡ 9) ⊎ (n ≡ 10)
    go true true o (u, e) n h = let z : ◌≡◌ {A = ℕ} 0 1 = cc in let w : ⊥ = omega arith in absurd w
    go true false o e n h = inr (cc)
    go false c o e n h = inl (cc)
