-- The steps that the conversions are made of, and a conversion by what it tests. Assumes nothing.
use mathlib.Core.Path.{◌≡◌, refl, sym, ◌∙◌}
use mathlib.Core.Bool.{Bool, true, false, cond, ◌&&◌, true≢false}
use lib.Ieee.{Float}
use lib.Ieee.Scale.{finite}
use Rattle.refusals.specs.Outcome.{answer, refusal, onward}
use Rattle.julian.specs.declared.JulianDate.{JulianDate}
use Rattle.julian.specs.Finite.{finite_jd, finite_arg, finite_parts}
use Rattle.julian.specs.shifts.SmallerPart.{map_smaller_part}
use Rattle.julian.specs.shifts.Shifts.{days_of, changed, converted, finite_offset, finite_both, converted_by}

-- ---- a conversion by what it tests
pub first : (f : Float → Float → Float) (d : JulianDate) → converted f d ≡ cond (finite_parts d) (answer (map_smaller_part f d)) (refusal 9)
unfolding converted finite_jd onward changed
first f d = go (finite d.jd1 && finite d.jd2)
  where
    go : (b : Bool) → onward (cond b (answer d) (refusal 9)) (changed f) ≡ cond b (answer (map_smaller_part f d)) (refusal 9)
    go true = refl
    go false = refl

pub first_by : (f : Float → Float → Float → Float) (s : Float) (d : JulianDate)
    → converted_by f s d ≡ cond (finite_parts d) (cond (finite s) (answer (map_smaller_part (f (days_of s)) d)) (refusal 10)) (refusal 9)
unfolding converted_by finite_both finite_offset finite_jd finite_arg onward changed
first_by f s d = go (finite d.jd1 && finite d.jd2) (finite s)
  where
    go : (b c : Bool) → onward (onward (cond b (answer d) (refusal 9))
        (λ (e : JulianDate). onward (cond c (answer s) (refusal 10)) (λ (t : Float). answer e))) (changed (f (days_of s)))
        ≡ cond b (cond c (answer (map_smaller_part (f (days_of s)) d)) (refusal 10)) (refusal 9)
    go true true = refl
    go true false = refl
    go false c = refl

-- of a date with finite parts, and an offset that is finite
pub converted-is : (f : Float → Float → Float) (d : JulianDate) → finite d.jd1 ≡ true → finite d.jd2 ≡ true → converted f d ≡ answer (map_smaller_part f d)
converted-is f d h k = first f d ∙ rw (h, k)

pub by-is : (f : Float → Float → Float → Float) (s : Float) (d : JulianDate) → finite d.jd1 ≡ true → finite d.jd2 ≡ true → finite s ≡ true
    → converted_by f s d ≡ answer (map_smaller_part (f (days_of s)) d)
by-is f s d h k l = first_by f s d ∙ rw (h, k, l)

-- both of two tests
pub and_left : (a b : Bool) → (a && b) ≡ true → a ≡ true
and_left true b h = refl
and_left false b h = h

pub and_right : (a b : Bool) → (a && b) ≡ true → b ≡ true
and_right true b h = h
and_right false b h = absurd (true≢false (sym h))
