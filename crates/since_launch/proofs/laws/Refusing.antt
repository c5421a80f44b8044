-- Which number is given exactly when: 9, then 6, then 18; and 9 by the bits of the parts. Assumes nothing.
use mathlib.Core.Path.{◌≡◌, refl, sym, ◌∙◌}
use mathlib.Core.Logic.{◌⊎◌, inl, inr}
use Prim.Native.Nat.{ℕ}
use native.Mathlib.Omega.{arith}
use mathlib.Core.Bool.{Bool, true, false, cond, not, ◌&&◌}
use lib.Dec.{eqb}
use lib.Ieee.{binary64, of_bits}
use lib.Ieee.Scale.{finite}
use borrow.Author.Tests.{eqb-true}
use Rattle.refusals.specs.Outcome.{Outcome, answer, refusal, onward}
use Rattle.floats.specs.ExponentField.{exponent_field}
use Rattle.floats.proofs.ExponentField.{finite-field, field_not_finite}
use Rattle.julian.specs.declared.JulianDate.{JulianDate}
use Rattle.julian.specs.JulianDate.{julian}
use Rattle.julian.specs.day_number.DayNumber.{accepted, day_of}
use Rattle.julian.proofs.day_number.Answer.{answered, refused}
use Rattle.julian.specs.Finite.{finite_parts}
use Rattle.since_launch.specs.Millis.{place_of, place_in, units_of, count_of, millis_from_to}
use Rattle.since_launch.specs.laws.NearestMillis.{MillisDecided, within, before, past}
use Rattle.since_launch.specs.laws.Refusals.{MillisInOrder, not_finite, no_day, counted, OneNotFinite}
use Rattle.since_launch.proofs.laws.MillisDecided.{count-decided}

pub place_is : (d : JulianDate) (b : Bool) → accepted d.jd1 d.jd2 ≡ b → place_in d ≡ cond b (answer (place_of (day_of d.jd1 d.jd2))) (refusal 6)
unfolding place_in onward
place_is d true e = rw (answered d.jd1 d.jd2 e)
place_is d false e = rw (refused d.jd1 d.jd2 e)

pub in_order : (from to : JulianDate) → MillisInOrder from to (millis_from_to from to)
unfolding millis_from_to onward
in_order from to = go (finite_parts from && finite_parts to) (accepted from.jd1 from.jd2) (accepted to.jd1 to.jd2) refl refl refl
  where
    go : (b x y : Bool) → finite_parts from && finite_parts to ≡ b → accepted from.jd1 from.jd2 ≡ x → accepted to.jd1 to.jd2 ≡ y
        → MillisInOrder from to (cond b (onward (place_in from) (λ p. onward (place_in to) (λ q. count_of (units_of p) (units_of q)))) (refusal 9))
    go false x y f e h = not_finite f
    go true false y f e h = rw (place_is from false e) (no_day f (rw e))
    go true true false f e h = rw (place_is from true e, place_is to false h) (no_day f (rw (e, h)))
    go true true true f e h = rw (place_is from true e, place_is to true h) (counted _ f (rw (e, h)) (count-decided _ _))

-- only 9, 6 and 18 occur
pub numbers-given : (from to : JulianDate) (k : ℕ) → millis_from_to from to ≡ refusal k → (k ≡ 9) ⊎ ((k ≡ 6) ⊎ (k ≡ 18))
numbers-given from to k e = go (millis_from_to from to) (in_order from to) e
  where
    by : {U W : ℕ} (o : Outcome ℕ) → MillisDecided U W o → o ≡ refusal k → k ≡ 18
    by _ (within r h n) q = let z : ◌≡◌ {A = ℕ} 0 1 = cc in absurd (omega arith)
    by _ (before h) q = cc
    by _ (past h) q = cc

    go : (o : Outcome ℕ) → MillisInOrder from to o → o ≡ refusal k → (k ≡ 9) ⊎ ((k ≡ 6) ⊎ (k ≡ 18))
    go _ (not_finite f) q = inl (cc)
    go _ (no_day f a) q = inr (inl (cc))
    go _ (counted o f a c) q = inr (inr (by o c q))

-- ---- 9 exactly where one of the four parts is not finite, by its bits
module _ (a b c d : ℕ) where
  abbrev from : JulianDate
  from = julian (of_bits binary64 a) (of_bits binary64 b)

  abbrev to : JulianDate
  to = julian (of_bits binary64 c) (of_bits binary64 d)

  none : (w x y z : Bool) → ((w ≡ false) ⊎ (x ≡ false)) ⊎ ((y ≡ false) ⊎ (z ≡ false)) → (w && x) && (y && z) ≡ false
  none w x y z (inl (inl e)) = rw e
  none true x y z (inl (inr e)) = rw e
  none false x y z (inl (inr e)) = refl
  none true true y z (inr (inl e)) = rw e
  none true false y z (inr (inl e)) = refl
  none false x y z (inr (inl e)) = refl
  none true true true z (inr (inr e)) = e
  none true true false z (inr (inr e)) = refl
  none true false y z (inr (inr e)) = refl
  none false x y z (inr (inr e)) = refl

  pub not_finite_is_9 : OneNotFinite a b c d → millis_from_to from to ≡ refusal 9
  unfolding millis_from_to
  not_finite_is_9 h = rw (none (finite (of_bits binary64 a)) (finite (of_bits binary64 b)) (finite (of_bits binary64 c)) (finite (of_bits binary64 d))
      (fields h))
    where
      fields : OneNotFinite a b c d → ((finite (of_bits binary64 a) ≡ false) ⊎ (finite (of_bits binary64 b) ≡ false))
          ⊎ ((finite (of_bits binary64 c) ≡ false) ⊎ (finite (of_bits binary64 d) ≡ false))
      fields (inl (inl e)) = inl (inl (field_not_finite a e))
      fields (inl (inr e)) = inl (inr (field_not_finite b e))
      fields (inr (inl e)) = inr (inl (field_not_finite c e))
      fields (inr (inr e)) = inr (inr (field_not_finite d e))

  one_of : (w x y z : Bool) → (w && x) && (y && z) ≡ false → ((w ≡ false) ⊎ (x ≡ false)) ⊎ ((y ≡ false) ⊎ (z ≡ false))
  one_of false x y z e = inl (inl refl)
  one_of true false y z e = inl (inr refl)
  one_of true true false z e = inr (inl refl)
  one_of true true true z e = inr (inr e)

  field_of : (n : ℕ) → finite (of_bits binary64 n) ≡ false → exponent_field n ≡ 2047
  field_of n e = go (eqb (exponent_field n) 2047) refl (sym (finite-field n) ∙ e)
    where
      go : (t : Bool) → eqb (exponent_field n) 2047 ≡ t → not t ≡ false → exponent_field n ≡ 2047
      go true q h = eqb-true (exponent_field n) 2047 q
      go false q h = let z : ◌≡◌ {A = ℕ} 0 1 = cc in absurd (omega arith)

  pub nine-not-finite : millis_from_to from to ≡ refusal 9 → OneNotFinite a b c d
  nine-not-finite e = go (millis_from_to from to) (in_order from to) e
    where
      fields : ((finite (of_bits binary64 a) ≡ false) ⊎ (finite (of_bits binary64 b) ≡ false))
          ⊎ ((finite (of_bits binary64 c) ≡ false) ⊎ (finite (of_bits binary64 d) ≡ false)) → OneNotFinite a b c d
      fields (inl (inl e)) = inl (inl (field_of a e))
      fields (inl (inr e)) = inl (inr (field_of b e))
      fields (inr (inl e)) = inr (inl (field_of c e))
      fields (inr (inr e)) = inr (inr (field_of d e))

      by : {U W : ℕ} (o : Outcome ℕ) → MillisDecided U W o → o ≡ refusal 9 → OneNotFinite a b c d
      by _ (within r h n) q = let z : ◌≡◌ {A = ℕ} 0 1 = cc in absurd (omega arith)
      by _ (before h) q = let z : ◌≡◌ {A = ℕ} 18 9 = cc in absurd (omega arith)
      by _ (past h) q = let z : ◌≡◌ {A = ℕ} 18 9 = cc in absurd (omega arith)

      go : (o : Outcome ℕ) → MillisInOrder from to o → o ≡ refusal 9 → OneNotFinite a b c d
      go _ (not_finite f) q =
          fields (one_of (finite (of_bits binary64 a)) (finite (of_bits binary64 b)) (finite (of_bits binary64 c)) (finite (of_bits binary64 d)) f)
      go _ (no_day f g) q = let z : ◌≡◌ {A = ℕ} 6 9 = cc in absurd (omega arith)
      go _ (counted o f g k) q = by o k q
