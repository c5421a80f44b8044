-- ON THE GRID the milliseconds are the nearest to the exact difference of the two dates, a half going up, however each is divided into two parts; a later date
-- never has fewer. Assumes nothing.
use mathlib.Core.Path.{◌≡◌, sym, subst}
use Prim.Native.Nat.{ℕ, ◌+◌, ◌*◌, ◌^◌, ◌≤◌}
use native.Mathlib.Omega.{arith}
use mathlib.Core.Bool.{true}
use lib.IntN.{pos, ◌+ℤ◌}
use Rattle.refusals.specs.Outcome.{answer, onward}
use Rattle.rounding.specs.Value.{plus_z, minus_z}
use Rattle.rounding.proofs.Value.{val-finite-true}
use Rattle.julian.specs.declared.JulianDate.{JulianDate}
use Rattle.julian.specs.Finite.{finite_parts}
use Rattle.julian.specs.day_number.Answer.{day_number_and_fraction}
use Rattle.julian.specs.day_number.Ranges.{InDays}
use Rattle.julian.specs.day_number.ExactDay.{exact_day, exact_fraction, fraction_of, exact_day_number}
use Rattle.julian.proofs.day_number.ExactDay.{exact, exact-day, fraction-exact}
use Rattle.julian.proofs.day_number.Ranges.{day-range}
use Rattle.time_of_day.specs.TimeShown.{from_zero}
use Rattle.time_of_day.specs.HalfEven.{grid_units}
use Rattle.time_of_day.proofs.EvenExact.{units-are}
use Rattle.since_launch.specs.declared.Place.{Place}
use Rattle.since_launch.specs.Millis.{place_of, place_in, units_of, count_of, millis_from_to}
use Rattle.since_launch.specs.laws.GridDates.{GridDate, sum_of}
use Rattle.since_launch.specs.laws.NearestMillis.{MillisDecided}
use Rattle.since_launch.proofs.Places.{days-are}
use Rattle.since_launch.proofs.laws.MillisDecided.{count-decided, decided-move, answered-nearest}

-- its place is its exact sum and 68570.5 days
module _ (d : JulianDate) (g : GridDate d) where
  pub given : day_number_and_fraction d.jd1 d.jd2 ≡ answer (exact_day_number (sum_of g))
  given = exact d.jd1 d.jd2 g.held1 g.held2 g.first g.second g.range

  days : InDays (exact_day (sum_of g))
  days = day-range d.jd1 d.jd2 g.held1 g.held2 (exact_day_number (sum_of g)) given

  units : grid_units (fraction_of (exact_fraction (sum_of g))) ≡ exact_fraction (sum_of g)
  units =
      let b = (exact-day (sum_of g)).below in
      units-are (fraction_of (exact_fraction (sum_of g))) (exact_fraction (sum_of g)) (fraction-exact (exact_fraction (sum_of g)) b) b

  pub place-exact : units_of (place_of (exact_day_number (sum_of g))) + minus_z (sum_of g) ≡ plus_z (sum_of g) + 2251799813685248 + 68570 * 4503599627370496
  unfolding place_of
  place-exact = plain (from_zero (exact_day (sum_of g) +ℤ pos 68570)) _ (exact_fraction (sum_of g)) (plus_z (exact_day (sum_of g)))
      (minus_z (exact_day (sum_of g)))
      (plus_z (sum_of g)) (minus_z (sum_of g)) units (days-are (exact_day (sum_of g)) days) (exact-day (sum_of g)).total
    where
      plain : (a x u p n P N : ℕ) → x ≡ u → a + n ≡ p + 68570 → P + 2 ^ 51 + n * 2 ^ 52 ≡ N + p * 2 ^ 52 + u
          → a * 4503599627370496 + x + N ≡ P + 2251799813685248 + 68570 * 4503599627370496
      plain a x u p n P N e f h = omega arith

  pub place-given : place_in d ≡ answer (place_of (exact_day_number (sum_of g)))
  unfolding place_in onward
  place-given = rw given

  pub finite-grid : finite_parts d ≡ true
  finite-grid = rw (val-finite-true g.first.val, val-finite-true g.second.val)

-- by the places of two dates that have one
pub by-places : (from to : JulianDate) (p q : Place) → finite_parts from ≡ true → finite_parts to ≡ true → place_in from ≡ answer p → place_in to ≡ answer q
    → millis_from_to from to ≡ count_of (units_of p) (units_of q)
unfolding millis_from_to onward
by-places from to p q f g e h = rw (f, g, e, h)

module _ (from to : JulianDate) (a : GridDate from) (b : GridDate to) where
  counted : millis_from_to from to ≡ count_of (units_of (place_of (exact_day_number (sum_of a)))) (units_of (place_of (exact_day_number (sum_of b))))
  counted = by-places from to _ _ (finite-grid from a) (finite-grid to b) (place-given from a) (place-given to b)

  -- (a) the number nearest to 84375 (to - from) / 2 ^ 42, a half going up; 18 exactly where that is not 0 to 2 ^ 40 - 1
  pub on-grid-nearest : MillisDecided (plus_z (sum_of b) + minus_z (sum_of a)) (minus_z (sum_of b) + plus_z (sum_of a)) (millis_from_to from to)
  on-grid-nearest =
      subst (MillisDecided (plus_z (sum_of b) + minus_z (sum_of a)) (minus_z (sum_of b) + plus_z (sum_of a))) (sym counted)
      (decided-move (plain _ _ (plus_z (sum_of a)) (minus_z (sum_of a)) (plus_z (sum_of b)) (minus_z (sum_of b)) (place-exact from a) (place-exact to b))
      (count-decided (units_of (place_of (exact_day_number (sum_of a)))) (units_of (place_of (exact_day_number (sum_of b))))))
    where
      plain : (p q P N P' N' : ℕ) → p + N ≡ P + 2251799813685248 + 68570 * 4503599627370496 → q + N' ≡ P' + 2251799813685248 + 68570 * 4503599627370496
          → q + (N' + P) ≡ P' + N + p
      plain p q P N P' N' e f = omega arith

-- (e) of two dates on the grid, the later one never has fewer milliseconds
pub never-backwards : (from to to' : JulianDate) (a : GridDate from) (b : GridDate to) (c : GridDate to') (r s : ℕ)
    → plus_z (sum_of b) + minus_z (sum_of c) ≤ minus_z (sum_of b) + plus_z (sum_of c) → millis_from_to from to ≡ answer r → millis_from_to from to' ≡ answer s
    → r ≤ s
never-backwards from to to' a b c r s h e f =
    let n = (answered-nearest (on-grid-nearest from to a b) e).0 in
    let m = (answered-nearest (on-grid-nearest from to' a c) f).0 in
    omega (arith, n.over, m.under)
