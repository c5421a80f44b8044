-- (c) THE SAME THROUGH GPS TO TAI: a week's date is moved by 19 s to 10 ps, and gives its own millisecond still. Assumes nothing.
use mathlib.Core.Path.{◌≡◌, sym, ap, ◌∙◌, subst}
use mathlib.Core.Logic.{inl}
use Prim.Native.Nat.{ℕ, ◌+◌, ◌*◌, ◌/◌, ◌%◌, ◌^◌, ◌≤◌, ◌<◌}
use native.Mathlib.Nat.{add-mul, mul-le-mul_right}
use native.Mathlib.Omega.{arith}
use mathlib.Core.Bool.{true}
use lib.Dec.{T}
use lib.Ieee.{binary64, add, fits}
use lib.Ieee.Fits.{add-fits}
use Rattle.refusals.specs.Outcome.{answer}
use Rattle.rounding.specs.Value.{L}
use Rattle.rounding.proofs.Value.{L-pos, val-finite-true, val-unique, abs-val}
use Rattle.rounding.proofs.Signed.{dist, dist_le, dist_hi}
use Rattle.rounding.proofs.Compare.{le_show, lt_val}
use Rattle.rounding.proofs.Range.{power-val}
use borrow.Author.Tests.{lt-ltb}
use Rattle.julian.specs.declared.JulianDate.{JulianDate}
use Rattle.julian.specs.JulianDate.{julian}
use Rattle.julian.specs.Worth.{SmallParts}
use Rattle.julian.specs.day_number.DayNumber.{day_of}
use Rattle.julian.specs.day_number.Answer.{day_number_and_fraction}
use Rattle.julian.specs.shifts.SmallerPart.{first_is_larger}
use Rattle.julian.specs.shifts.Shifts.{plus}
use Rattle.julian.proofs.shifts.Outcomes.{converted-is}
use Rattle.julian.proofs.shifts.SmallerPart.{map_as, map_is}
use Rattle.julian.proofs.day_number.Units.{E-L, H, H-L}
use Rattle.julian.proofs.day_number.JulianRange.{accepts}
use Rattle.julian.proofs.day_number.Answer.{answered}
use Rattle.scales.specs.Formulas.{gps_days}
use Rattle.scales.specs.Conversions.{gps-tai, answer_of}
use Rattle.scales.specs.laws.Ranges.{Practical}
use Rattle.scales.specs.laws.Meaning.{Means, tai_over_gps}
use Rattle.scales.specs.gps_weeks.WeekDate.{week_midnight, part_of_day, day_in, week_date}
use Rattle.scales.proofs.laws.Meant.{worth-unique}
use Rattle.scales.proofs.laws.Recorders.{gps-means}
use Rattle.scales.proofs.gps_week_laws.RoundTrip as R
use Rattle.since_launch.specs.Millis.{place_of, millis_from_to}
use Rattle.since_launch.specs.laws.OwnMillis.{week_millis, Own}
use Rattle.since_launch.proofs.laws.Anywhere.{place-near}
use Rattle.since_launch.proofs.laws.OwnCounts.{own-move}
use Rattle.since_launch.proofs.laws.Weeks.{MadeOf, made_own, place-by, spread}

module _ (n r : ℕ) (early : 2444245 ≤ n) (late : n ≤ 3144252) (short : r < 86400000) where
  abbrev d : JulianDate
  d = R.d n r early late short

  abbrev q : ℕ
  q = R.q n r early late short

  abbrev m : ℕ
  m = R.m n r early late short

  fits1 : T (fits binary64 (week_midnight n))
  fits1 = (R.small n r early late short).first.held

  fits2 : T (fits binary64 (part_of_day r))
  fits2 = (R.small n r early late short).second.held

  -- the milliseconds of the day are less than a day by more than a float's place
  at_most_one : q ≤ m + L
  at_most_one =
      let s : r * L ≤ 86399999 * L = mul-le-mul_right L (omega arith) in
      let g = R.q-over n r early late short in
      omega (arith, L-pos)

  practical : Practical d
  practical = inl (
    (
      fits1,
      le_show L-pos (abs-val (R.first n r early late short)) (power-val 23 L) (plain _ (dist_le (n * L) H (8388608 * L)
          (omega (arith, R.high n r early late short)) (omega (arith, R.low n r early late short, H-L)))),
    ),
    (
      fits2,
      le_show L-pos (abs-val (R.second n r early late short)) (power-val 0 L) (plain0 _ (dist_le q m L at_most_one
          (omega (arith, R.q-low n r early late short, R.g-le)))),
    ),
  )
    where
      plain : (x : ℕ) → x ≤ 8388608 * L → x + 0 ≤ 2 ^ 23 * L + 0
      plain x h = omega arith

      plain0 : (x : ℕ) → x ≤ L → x + 0 ≤ 2 ^ 0 * L + 0
      plain0 x h = omega arith

  larger : first_is_larger d ≡ true
  unfolding first_is_larger
  larger = lt_val L-pos (abs-val (R.second n r early late short)) (abs-val (R.first n r early late short))
      ∙ lt-ltb _ _ (plain (dist q m) (dist (n * L) H) (dist_le q m L at_most_one (omega (arith, R.q-low n r early late short, R.g-le)))
      (dist_hi (n * L) H (omega (arith, R.low n r early late short, H-L))))
    where
      plain : (x y : ℕ) → x ≤ L → y + H ≡ n * L → x + 0 < y + 0
      plain x y h e = omega (arith, R.low n r early late short, H-L, L-pos)

  abbrev u : JulianDate
  u = julian (week_midnight n) (add binary64 (part_of_day r) gps_days)

  pub tai-is : answer_of gps-tai d ≡ answer u
  unfolding answer_of plus
  tai-is =
      converted-is (plus gps_days) d (val-finite-true (R.first n r early late short)) (val-finite-true (R.second n r early late short))
      ∙ ap answer (map_is (plus gps_days) d ∙ ap (map_as (plus gps_days) d) larger)

  close : Means 10 tai_over_gps d u
  close =
      let k = gps-means d practical in
      let e : k.date ≡ u = same (sym k.is ∙ tai-is) in
      subst (Means 10 tai_over_gps d) e k.means
    where
      same : {x y : JulianDate} → answer x ≡ answer y → x ≡ y
      same e = cc

  same1 : close.to.p + H ≡ n * L + close.to.n
  same1 = val-unique close.to.first (R.first n r early late short)

  same-date : close.p + (H + m) ≡ n * L + q + close.n
  same-date = worth-unique close.from (R.worth n r early late short)

  fits3 : T (fits binary64 u.jd2)
  fits3 = add-fits binary64 (part_of_day r) gps_days

  later-high : close.p' + H ≤ close.n' + n * L + 3 * L
  later-high = omega (arith, close.over, same-date, at_most_one, L-pos)

  later-low : close.n' + n * L ≤ close.p' + H + L
  later-low = omega (arith, close.under, same-date, R.q-low n r early late short, R.g-le, L-pos)

  small_parts : SmallParts u
  small_parts = record {
    first = (R.small n r early late short).first;
    second = R.under52 fits3 close.to.second (omega (arith, later-high, same1, close.to.total)) (omega (arith, later-low, same1, close.to.total));
  }

  given : day_number_and_fraction (week_midnight n) (add binary64 (part_of_day r) gps_days) ≡ answer
      (day_of (week_midnight n) (add binary64 (part_of_day r) gps_days))
  given = answered (week_midnight n) (add binary64 (part_of_day r) gps_days)
      (accepts (week_midnight n) (add binary64 (part_of_day r) gps_days) (n * L) H close.to.q close.to.m (R.first n r early late short) close.to.second
      (omega (arith, later-high, same1, close.to.total, R.high n r early late short, E-L))
      (omega (arith, later-low, same1, close.to.total, R.low n r early late short, H-L, E-L)))

  pub tai-made : MadeOf u (86400000 * n + r + 19000)
  tai-made = record {
    finite = rw (val-finite-true (R.first n r early late short), val-finite-true close.to.second);
    place = place_of (day_of (week_midnight n) (add binary64 (part_of_day r) gps_days));
    found = place-by u _ given;
    P = close.p';
    N = close.n';
    near = place-near u _ _ small_parts close.to _ given;
    millis = record {
      over = omega (arith, more, spread n r, R.q-over n r early late short, H-L, close.over, same-date, L-pos);
      under = omega (arith, more, spread n r, R.q-under n r early late short, H-L, close.under, same-date, L-pos);
    };
  }
    where
      more : (86400000 * n + r + 19000) * L ≡ (86400000 * n + r) * L + 19000 * L
      more = add-mul (86400000 * n + r) 19000 L

-- a week's date in TAI
pub week-tai-made : (week ms : ℕ) (d t : JulianDate) → week_date week ms ≡ answer d → answer_of gps-tai d ≡ answer t
    → MadeOf t (week_millis week ms + 211182768019000)
week-tai-made week ms d t e f =
    let w = R.in-weeks week ms d e in
    let h = w.week-most in
    let k = w.below in
    let a = tai-is (day_in week ms) (ms % 86400000) (omega arith) (omega arith) (omega arith) in
    let x = same (sym a ∙ sym (ap (answer_of gps-tai) w.is) ∙ f) in
    subst (λ (y : JulianDate). MadeOf y (week_millis week ms + 211182768019000)) x
    (subst (MadeOf _) (whole week ms) (tai-made (day_in week ms) (ms % 86400000) (omega arith) (omega arith) (omega arith)))
  where
    same : {x y : JulianDate} → answer x ≡ answer y → x ≡ y
    same e = cc

    whole : (week ms : ℕ) → 86400000 * (2444245 + 7 * week + ms / 86400000) + ms % 86400000 + 19000 ≡ 604800000 * week + ms + 211182768019000
    whole week ms = omega arith

-- the request's theorem, through GPS to TAI
pub own-millisecond-tai : (week ms week' ms' : ℕ) (d d' t t' : JulianDate) → week_date week ms ≡ answer d → week_date week' ms' ≡ answer d'
    → answer_of gps-tai d ≡ answer t → answer_of gps-tai d' ≡ answer t' → Own (week_millis week ms) (week_millis week' ms') (millis_from_to t t')
own-millisecond-tai week ms week' ms' d d' t t' e f g h =
    own-move 211182768019000 (made_own (week-tai-made week ms d t e g) (week-tai-made week' ms' d' t' f h))
