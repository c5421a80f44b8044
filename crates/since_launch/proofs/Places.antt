-- A date's place: where it lies, and which outcome it is. Assumes nothing.
use mathlib.Core.Path.{◌≡◌, refl, sym, ap, ◌∙◌, subst}
use Prim.Native.Nat.{ℕ, ◌+◌, ◌≤◌}
use native.Mathlib.Omega.{arith}
use mathlib.Core.Logic.{◌⊎◌, inl, inr}
use mathlib.Core.Bool.{Bool, true, false, cond, ◌&&◌}
use lib.Dec.{T}
use lib.IntN.{ℤ, pos, ◌+ℤ◌}
use lib.Ieee.{Float, binary64, fits}
use Rattle.std.specs.Prelude.{Result, Ok, Err, IsErrAnd}
use Rattle.refusals.specs.declared.Refusal.{Refusal}
use Rattle.refusals.specs.Outcome.{Outcome, answer, refusal, onward}
use Rattle.rounding.specs.Value.{plus_z, minus_z}
use Rattle.rounding.proofs.Casts.{add_pair, one_side}
use Rattle.rounding.proofs.Ints.{int_own, int_add, int_fits}
use mir.Syntax.{w64}
use mir.Val.{SFits}
use Rattle.julian.specs.declared.JulianDate.{JulianDate}
use Rattle.julian.specs.declared.day_number.DayNumber.{DayNumber}
use Rattle.julian.specs.day_number.DayNumber.{day_of}
use Rattle.julian.specs.day_number.Answer.{day_number_and_fraction}
use Rattle.julian.proofs.day_number.Answer.{answer-is}
use Rattle.julian.specs.day_number.Ranges.{InDays}
use Rattle.julian.specs.Finite.{finite_parts, finite_jd}
use Rattle.julian.proofs.day_number.Ranges.{day-range, fraction-range}
use Rattle.julian.proofs.day_number.FractionSign.{fraction-unsigned}
use Rattle.time_of_day.specs.TimeShown.{from_zero}
use Rattle.time_of_day.proofs.EvenFloat.{from-plus}
use Rattle.since_launch.specs.declared.Place.{Place}
use Rattle.since_launch.specs.Millis.{place_of, place_in, place_at, units_of, count_of, since_launch, millis_from_to}
use Rattle.since_launch.specs.Asked.{PlaceWithin, AllPlaced}
use Rattle.since_launch.proofs.Units.{units-in-day}

-- the days since day -68570
pub days-are : (z : ℤ) → InDays z → from_zero (z +ℤ pos 68570) + minus_z z ≡ plus_z z + 68570
days-are z h = go (z +ℤ pos 68570) (add_pair z (pos 68570)) (one_side (z +ℤ pos 68570)) h.bottom
  where
    go : (s : ℤ) → plus_z s + (minus_z z + 0) ≡ minus_z s + (plus_z z + 68570) → (plus_z s ≡ 0) ⊎ (minus_z s ≡ 0) → minus_z z ≤ 68570
        → from_zero s + minus_z z ≡ plus_z z + 68570
    go s e (inl p) b = omega (arith, from-plus s)
    go s e (inr p) b = omega (arith, from-plus s)

pub days-fit : (z : ℤ) → InDays z → SFits w64 (z +ℤ pos 68570)
days-fit z h = int_fits (int_add (int_own z) (int_own (pos 68570))) (omega (arith, h.top)) (omega (arith, h.bottom))

module _ (x y : Float) (f : T (fits binary64 x)) (g : T (fits binary64 y)) (n : DayNumber) (e : day_number_and_fraction x y ≡ answer n) where
  pub fraction-held : T (fits binary64 n.fraction)
  unfolding day_of
  fraction-held = subst (λ (m : DayNumber). T (fits binary64 m.fraction)) (answer-is x y n e).1 (fraction-unsigned x y).fit

  pub placed : PlaceWithin (place_of n)
  unfolding place_of
  placed = record {
    days = omega (arith, days-are n.day (day-range x y f g n e), (day-range x y f g n e).top);
    units = omega (arith, units-in-day n.fraction fraction-held (fraction-range x y f g n e));
  }

-- ---- by the outcomes of the tests
pub place-not-finite : (d : JulianDate) (k : ℕ) → finite_jd d ≡ refusal k → refusal k ≡ place_at d
unfolding place_at onward
place-not-finite d k e = rw e

pub place-goes-on : (d e : JulianDate) → finite_jd d ≡ answer e → place_in e ≡ place_at d
unfolding place_at onward
place-goes-on d e h = rw h

pub place-no-day : (d : JulianDate) (k : ℕ) → day_number_and_fraction d.jd1 d.jd2 ≡ refusal k → refusal k ≡ place_in d
unfolding place_in onward
place-no-day d k g = rw g

pub place_found : (d : JulianDate) (n : DayNumber) → day_number_and_fraction d.jd1 d.jd2 ≡ answer n → answer (place_of n) ≡ place_in d
unfolding place_in onward
place_found d n g = rw g

pub since-refused : (p : Place) (d : JulianDate) (k : ℕ) → place_at d ≡ refusal k → refusal k ≡ since_launch p d
unfolding since_launch onward
since-refused p d k e = rw e

pub since-counted : (p q : Place) (d : JulianDate) → place_at d ≡ answer q → count_of (units_of p) (units_of q) ≡ since_launch p d
unfolding since_launch onward
since-counted p q d e = rw e

-- ---- the single call: 9 of the stamp, then 9 and 6 of the launch, then the rest, is 9 of both, 6 of both, and the rest
pub finite-is : (d e : JulianDate) → finite_jd d ≡ answer e → (finite_parts d ≡ true) × (d ≡ e)
unfolding finite_jd
finite-is d e h = go (finite_parts d) refl h
  where
    go : (b : Bool) → finite_parts d ≡ b → cond b (answer d) (refusal 9) ≡ answer e → (finite_parts d ≡ true) × (d ≡ e)
    go true f k = (f, cc)
    go false f k = let z : ◌≡◌ {A = ℕ} 0 1 = cc in absurd (omega arith)

pub not_finite_is : (d : JulianDate) (k : ℕ) → finite_jd d ≡ refusal k → (finite_parts d ≡ false) × (k ≡ 9)
unfolding finite_jd
not_finite_is d k h = go (finite_parts d) refl h
  where
    go : (b : Bool) → finite_parts d ≡ b → cond b (answer d) (refusal 9) ≡ refusal k → (finite_parts d ≡ false) × (k ≡ 9)
    go true f h = let z : ◌≡◌ {A = ℕ} 0 1 = cc in absurd (omega arith)
    go false f h = (f, cc)

neither : (a b : Bool) → b ≡ false → a && b ≡ false
neither true b e = e
neither false b e = refl

pub stamp-not-finite : (from to : JulianDate) (k : ℕ) → finite_jd to ≡ refusal k → refusal k ≡ millis_from_to from to
unfolding millis_from_to
stamp-not-finite from to k e =
    let f = not_finite_is to k e in
    ap refusal f.1 ∙ rw (neither (finite_parts from) (finite_parts to) f.0)

pub place-finite : (d : JulianDate) → finite_parts d ≡ true → place_at d ≡ place_in d
unfolding place_at finite_jd onward
place-finite d f = rw f

pub launch-refused : (from to e : JulianDate) (k : ℕ) → finite_jd to ≡ answer e → place_at from ≡ refusal k → refusal k ≡ millis_from_to from to
unfolding millis_from_to place_at finite_jd onward
launch-refused from to e k h g = go (finite_parts from) refl g
  where
    go : (b : Bool) → finite_parts from ≡ b → onward (cond b (answer from) (refusal 9)) place_in ≡ refusal k
        → refusal k ≡ cond (b && finite_parts to) (onward (place_in from) (λ p. onward (place_in to) (λ q. count_of (units_of p) (units_of q)))) (refusal 9)
    go true f i = rw ((finite-is to e h).0, i)
    go false f i = let z : k ≡ 9 = cc in ap refusal z

pub from-launch : (from to e : JulianDate) (p : Place) → finite_jd to ≡ answer e → place_at from ≡ answer p → since_launch p e ≡ millis_from_to from to
unfolding millis_from_to place_at finite_jd onward since_launch
from-launch from to e p h g = go (finite_parts from) refl g
  where
    go : (b : Bool) → finite_parts from ≡ b → onward (cond b (answer from) (refusal 9)) place_in ≡ answer p
        → since_launch p e ≡ cond (b && finite_parts to) (onward (place_in from) (λ p. onward (place_in to) (λ q. count_of (units_of p) (units_of q))))
        (refusal 9)
    go true f i =
        let t = finite-is to e h in
        rw (t.0, i) (ap (since_launch p) (sym t.1) ∙ ap (λ (o : Outcome Place). onward o (λ q. count_of (units_of p) (units_of q))) (place-finite to t.0))
    go false f i = let z : ◌≡◌ {A = ℕ} 0 1 = cc in absurd (omega arith)

-- a refusal that is handed on has no place
pub none_placed : (s : Result Place Refusal) (k : Refusal) → IsErrAnd s (λ e. e ≡ k) → AllPlaced s
unfolding AllPlaced
none_placed (Err e) k p = tt
none_placed (Ok a) k p = absurd p
