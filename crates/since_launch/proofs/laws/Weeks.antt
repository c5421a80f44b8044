-- (c) A DATE MADE OF A GPS WEEK AND MILLISECOND gives its own millisecond: two such dates are exactly the difference of their milliseconds apart. Assumes
-- nothing.
use mathlib.Core.Path.{◌≡◌, sym, ap, ◌∙◌, subst}
use Prim.Native.Nat.{ℕ, ◌+◌, ◌*◌, ◌/◌, ◌%◌, ◌≤◌, ◌<◌}
use native.Mathlib.Nat.{add-mul, mul_assoc}
use native.Mathlib.Omega.{arith}
use mathlib.Core.Bool.{true}
use Rattle.refusals.specs.Outcome.{answer, onward}
use Rattle.rounding.specs.Value.{L}
use Rattle.rounding.proofs.Value.{val-finite-true}
use Rattle.julian.specs.declared.JulianDate.{JulianDate}
use Rattle.julian.specs.declared.day_number.DayNumber.{DayNumber}
use Rattle.julian.specs.day_number.Answer.{day_number_and_fraction}
use Rattle.julian.specs.Finite.{finite_parts}
use Rattle.julian.proofs.day_number.Units.{H, H-L}
use Rattle.scales.specs.gps_weeks.WeekDate.{day_in, week_date}
use Rattle.scales.proofs.gps_week_laws.RoundTrip as R
use Rattle.since_launch.specs.declared.Place.{Place}
use Rattle.since_launch.specs.Millis.{place_of, place_in, units_of, millis_from_to}
use Rattle.since_launch.specs.laws.OwnMillis.{week_millis, Own}
use Rattle.since_launch.proofs.laws.OnGrid.{by-places}
use Rattle.since_launch.proofs.laws.Anywhere.{PlaceNear, place-near}
use Rattle.since_launch.proofs.laws.OwnCounts.{MillisNear, own-count, own-move}

-- a date with a place that is near, of millisecond T since midnight of day 0
pub record MadeOf (d : JulianDate) (T : ℕ) : Type 0 where
  pub finite : finite_parts d ≡ true
  pub place : Place
  pub found : place_in d ≡ answer place
  pub P : ℕ
  pub N : ℕ
  pub near : PlaceNear P N (units_of place)
  pub millis : MillisNear P N T

pub made_own : {d d' : JulianDate} {T T' : ℕ} → MadeOf d T → MadeOf d' T' → Own T T' (millis_from_to d d')
made_own {d} {d'} {T} {T'} a b =
    subst (Own T T') (sym (by-places d d' a.place b.place a.finite b.finite a.found b.found))
    (own-count a.P a.N b.P b.N (units_of a.place) (units_of b.place) T T' a.near b.near a.millis b.millis)

pub place-by : (d : JulianDate) (n : DayNumber) → day_number_and_fraction d.jd1 d.jd2 ≡ answer n → place_in d ≡ answer (place_of n)
unfolding place_in onward
place-by d n e = rw e

pub spread : (n r : ℕ) → (86400000 * n + r) * L ≡ 86400000 * (n * L) + r * L
spread n r = add-mul (86400000 * n) r L ∙ ap (λ (y : ℕ). y + r * L) (mul_assoc 86400000 n L)

-- day n and r milliseconds
module _ (n r : ℕ) (early : 2444245 ≤ n) (late : n ≤ 3144252) (short : r < 86400000) where
  pub gps-made : MadeOf (R.d n r early late short) (86400000 * n + r)
  gps-made = record {
    finite = rw (val-finite-true (R.first n r early late short), val-finite-true (R.second n r early late short));
    place = place_of (R.number n r early late short);
    found = place-by (R.d n r early late short) _ (R.given n r early late short);
    P = n * L + R.q n r early late short;
    N = H + R.m n r early late short;
    near = place-near (R.d n r early late short) _ _ (R.small n r early late short) (R.worth n r early late short) _ (R.given n r early late short);
    millis = record {
      over = omega (arith, spread n r, R.q-over n r early late short, H-L);
      under = omega (arith, spread n r, R.q-under n r early late short, H-L);
    };
  }

-- a week's date
pub week-made : (week ms : ℕ) (d : JulianDate) → week_date week ms ≡ answer d → MadeOf d (week_millis week ms + 211182768000000)
week-made week ms d e =
    let w = R.in-weeks week ms d e in
    let h = w.week-most in
    let k = w.below in
    subst (λ (x : JulianDate). MadeOf x (week_millis week ms + 211182768000000)) (sym w.is)
    (subst (MadeOf _) (whole week ms) (gps-made (day_in week ms) (ms % 86400000) (omega arith) (omega arith) (omega arith)))
  where
    whole : (week ms : ℕ) → 86400000 * (2444245 + 7 * week + ms / 86400000) + ms % 86400000 ≡ 604800000 * week + ms + 211182768000000
    whole week ms = omega arith

-- the request's theorem, in GPS
pub own-millisecond : (week ms week' ms' : ℕ) (d d' : JulianDate) → week_date week ms ≡ answer d → week_date week' ms' ≡ answer d'
    → Own (week_millis week ms) (week_millis week' ms') (millis_from_to d d')
own-millisecond week ms week' ms' d d' e f = own-move 211182768000000 (made_own (week-made week ms d e) (week-made week' ms' d' f))
