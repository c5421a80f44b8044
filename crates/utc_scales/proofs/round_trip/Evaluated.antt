-- ONE EVALUATION OF UTC TO TAI: it is answered, keeps jd1, and its jd2 is within 345622 h / 86400 of the exact relation on the day that the calendar gives.
-- Assumes nothing.
use mathlib.Core.Bool.{true}
use mathlib.Core.Path.{◌≡◌, sym, ap, ◌∙◌, subst}
use mathlib.Core.List.{List}
use Prim.Native.Nat.{ℕ, suc, ◌+◌, ◌*◌, ◌≤◌, ◌<◌}
use native.Mathlib.Nat.{mul-le-mul_right}
use native.Mathlib.Omega.{arith}
use lib.Dec.{T}
use lib.IntN.{ℤ, pos, ◌-ℤ◌}
use lib.Ieee.{Float, binary64, add, sub, div, of_int, fits}
use lib.Ieee.Fits.{add-fits}
use Rattle.refusals.specs.Outcome.{answer}
use Rattle.constants.specs.Constants.{seconds_per_day, mjd_zero_point}
use Rattle.rounding.specs.Value.{Val, L}
use Rattle.calendar.specs.Gregorian.{gregorian_date}
use Rattle.julian.specs.day_number.DayNumber.{day_of}
use Rattle.julian.specs.day_number.Answer.{day_number_and_fraction}
use Rattle.julian.specs.JulianDate.{julian}
use Rattle.leap_table.specs.rows.Table.{Row, most_seconds}
use Rattle.leap_table.specs.offsets.Offset.{whole_f}
use Rattle.leap_table.specs.offsets.Leap.{offsets}
use Rattle.leap_table.specs.declared.offsets.DayOffsets.{DayOffsets}
use Rattle.utc_scales.specs.days.Dates.{offsets_of}
use Rattle.utc_scales.specs.days.LargerPart.{first_is_kept}
use Rattle.utc_scales.specs.UtcTai.{stretch_day_fraction, tai_from_midnight, tai_fraction, utc_to_tai}
use Rattle.utc_scales.proofs.days.Midnights.{midnight_of_day}
use Rattle.utc_scales.proofs.Steps.{tai-of-day}
use Rattle.rounding.proofs.Chain.{ValClose}
use Rattle.utc_scales.specs.round_trip.UtcDays.{H, seconds_on, leap_after, short_after, WholeSeconds}
use Rattle.utc_scales.proofs.round_trip.Units.{h, L-H, add_close}
use Rattle.utc_scales.proofs.round_trip.Parts.{FirstPart, SecondPart, HalvesUp, half-days, Stamp, stamp-of}
use Rattle.utc_scales.proofs.round_trip.DaySeconds.{WholeTable}
use Rattle.utc_scales.proofs.round_trip.Stretch.{Stretched, Quotient, day-factor, in-days}
use Rattle.utc_scales.proofs.round_trip.Midnight.{Since, since-midnight}
use Rattle.utc_scales.proofs.round_trip.Steady.{tai_utc_at, share, share_less}
use Rattle.utc_scales.proofs.round_trip.Kept.{first-larger, kept-changed}
use Rattle.utc_scales.proofs.round_trip.Located.{Located, located}
use Rattle.utc_scales.proofs.round_trip.Sums.{first-high, first-low, more, less, second-high, second-low, total-over, total-under}

-- ---- what is seen of UTC (a, u) by a table's rows: it is (a, t) in TAI. By the calendar it is f / L of the day numbered `day`, within 4 h of a + u + 1/2; and
-- t is within E / 86400 of day + f + (D + s f) / 86400 - a - 1/2, the exact relation, where D is TAI-UTC on that day and s the leap second at its end, -1 for
-- one left out
pub record SeenTo (rows : List Row) (E : ℕ) (a u : Float) (A up un : ℕ) : Type 0 where
  pub t : Float
  pub tp : ℕ
  pub tn : ℕ
  pub day : ℕ
  pub f : ℕ
  pub located : day_number_and_fraction a u ≡ answer (day_of a u)
  pub found : (day_of a u).day ≡ pos day
  pub answered : utc_to_tai rows (julian a u) ≡ answer (julian a t)
  pub held : T (fits binary64 t)
  pub val : Val t tp tn L
  pub below : f < L
  pub day-low : 2441318 ≤ day
  pub day-high : day ≤ 5000002
  pub seconds : WholeSeconds rows day
  pub near-over : day * L + f + un ≤ A + up + H + 4 * h
  pub near-under : A + up + H ≤ day * L + f + un + 4 * h
  pub eval_over : 86400 * (tp + A + H) ≤ 86400 * tn + (86400 * (day * L + f) + tai_utc_at rows day f) + E
  pub eval_under : 86400 * (day * L + f) + tai_utc_at rows day f + 86400 * tn ≤ 86400 * (tp + A + H) + E

-- for a smaller part of about a day
abbrev pub Seen : List Row → Float → Float → ℕ → ℕ → ℕ → Type 0
Seen rows a u A up un = SeenTo rows (345622 * h) a u A up un

-- ---- the floats of one evaluation
abbrev pub tai : List Row → Float → ℕ → Float → Float
tai rows a n x =
    add binary64 (add binary64 (sub binary64 mjd_zero_point a) (of_int binary64 (pos n -ℤ pos 2400001)))
    (add binary64 (stretch_day_fraction (offsets (whole_f (seconds_on rows n)) (whole_f (seconds_on rows n)) (whole_f (seconds_on rows (suc n)))) x)
    (div binary64 (whole_f (seconds_on rows n)) seconds_per_day))

module _ {rows : List Row} (b : WholeTable rows) {a u : Float} {A up un : ℕ} (z : Stamp a u A up un) (y : HalvesUp a A) where
  abbrev pub k : Located a u A up un
  k = located z

  seconds : WholeSeconds rows k.n
  seconds = b.whole k.n k.low (omega (arith, k.high))

  abbrev o : DayOffsets
  o = offsets (whole_f (seconds_on rows k.n)) (whole_f (seconds_on rows k.n)) (whole_f (seconds_on rows (suc k.n)))

  pub given-at : tai_fraction rows a u ≡ answer (tai rows a k.n (day_of a u).fraction)
  unfolding tai_from_midnight
  given-at =
      tai-of-day rows a u (day_of a u) k.given k.in-days o
      (ap (λ (z : ℤ). offsets_of rows (gregorian_date z)) k.day ∙ b.day-offsets k.n k.low (omega (arith, k.high)))
      ∙ ap (λ (z : ℤ). answer (tai_from_midnight a (midnight_of_day z) o (day_of a u).fraction)) k.day

  -- each step of it: the fraction stretched, TAI-UTC in days, the days to midnight, their sums
  abbrev n : ℕ
  n = k.n

  abbrev f : ℕ
  f = k.f

  abbrev D : ℕ
  D = seconds_on rows k.n

  abbrev s : ℕ
  s = leap_after rows k.n

  abbrev s' : ℕ
  s' = short_after rows k.n

  few : D ≤ most_seconds
  few = seconds.most

  pub stretched : Stretched (stretch_day_fraction o (day_of a u).fraction) s s' f
  stretched = let w = day-factor D (seconds_on rows (suc n)) few seconds.most_next seconds.ending seconds.next in subst
      (λ (y : Float). Stretched y s s' f)
      (sym (w.is (day_of a u).fraction)) (w.factor.near (day_of a u).fraction f k.val k.below)

  pub offset-days : Quotient (div binary64 (whole_f D) seconds_per_day) D
  offset-days = in-days D few

  pub since : Since (add binary64 (sub binary64 mjd_zero_point a) (of_int binary64 (pos n -ℤ pos 2400001))) n A
  since = since-midnight y n k.low k.high

  abbrev Sum : {B : Type 0} → (s * f ≤ f → s' * f ≤ f → D * L ≤ most_seconds * L → B) → B
  Sum law = law (share f seconds.ending).0 (share f seconds.ending).1 (mul-le-mul_right L few)

  pub day-sum : ValClose L (add binary64 (stretch_day_fraction o (day_of a u).fraction) (div binary64 (whole_f D) seconds_per_day))
      (stretched.p + offset-days.p)
      (stretched.n + offset-days.n) h
  day-sum =
      add_close
      (Sum (λ g i d. first-high f (s * f) (s' * f) (D * L) stretched.p stretched.n offset-days.p offset-days.n k.below g i d stretched.over
      stretched.under offset-days.over offset-days.under))
      (Sum (λ g i d. first-low f (s * f) (s' * f) (D * L) stretched.p stretched.n offset-days.p offset-days.n k.below g i d stretched.over
      stretched.under offset-days.over offset-days.under))
      stretched.val offset-days.val

  pub longer : 64 * (stretched.p + offset-days.p) ≤ 64 * (stretched.n + offset-days.n + f) + L
  longer = Sum (λ g i d. more f (s * f) (s' * f) (D * L) stretched.p stretched.n offset-days.p offset-days.n k.below g i d stretched.over
      stretched.under offset-days.over offset-days.under)

  pub shorter : 64 * (stretched.n + offset-days.n + f) ≤ 64 * (stretched.p + offset-days.p) + L
  shorter = Sum (λ g i d. less f (s * f) (s' * f) (D * L) stretched.p stretched.n offset-days.p offset-days.n k.below g i d stretched.over
      stretched.under offset-days.over offset-days.under)

  -- the last sum, rounded by at most q
  pub seen-to : (q E : ℕ) → 200235 * h + 86400 * q ≤ E → first_is_kept (julian a u) ≡ true
      → ValClose L (tai rows a n (day_of a u).fraction) (since.x + day-sum.p) (A + day-sum.n) q → SeenTo rows E a u A up un
  unfolding utc_to_tai
  seen-to q E room larger r = record {
    t = tai rows a n (day_of a u).fraction;
    tp = r.p;
    tn = r.n;
    day = n;
    f = f;
    located = k.given;
    found = k.day;
    answered = kept-changed (tai_fraction rows) a u (tai rows a n (day_of a u).fraction) larger given-at;
    held = add-fits binary64 _ _;
    val = r.val;
    below = k.below;
    day-low = k.low;
    day-high = k.high;
    seconds = seconds;
    near-over = k.near-over;
    near-under = k.near-under;
    eval_over = total-over f (s * f) (s' * f) (D * L) stretched.p stretched.n offset-days.p offset-days.n (n * L) A since.x day-sum.p
        day-sum.n
        r.p r.n q E since.is (share_less n f seconds k.below) room stretched.over offset-days.over day-sum.over r.over;
    eval_under = total-under f (s * f) (s' * f) (D * L) stretched.p stretched.n offset-days.p offset-days.n (n * L) A since.x day-sum.p
        day-sum.n
        r.p r.n q E since.is (share_less n f seconds k.below) room stretched.under offset-days.under day-sum.under r.under;
  }

  pub sum-high : (W : ℕ) → (n * L + f + un ≤ A + up + H + 4 * h → 64 * (stretched.p + offset-days.p) ≤ 64 * (stretched.n + offset-days.n + f) + L
      → day-sum.p + (stretched.n + offset-days.n) ≤ day-sum.n + (stretched.p + offset-days.p) + h → since.x + H ≡ n * L
      → since.x + day-sum.p < A + day-sum.n + W) → since.x + day-sum.p < A + day-sum.n + W
  sum-high W go = go k.near-over longer day-sum.over since.is

  pub sum_low : (W : ℕ) → (A + up + H ≤ n * L + f + un + 4 * h → 64 * (stretched.n + offset-days.n + f) ≤ 64 * (stretched.p + offset-days.p) + L
      → day-sum.n + (stretched.p + offset-days.p) ≤ day-sum.p + (stretched.n + offset-days.n) + h → since.x + H ≡ n * L
      → A + day-sum.n < since.x + day-sum.p + W) → A + day-sum.n < since.x + day-sum.p + W
  sum_low W go = go k.near-under shorter day-sum.under since.is

-- ---- THE THEOREM, for a smaller part of about a day
module _ {rows : List Row} (b : WholeTable rows) {a u : Float} {A up un : ℕ} (v : FirstPart a A) (w : SecondPart u up un) where
  larger : first_is_kept (julian a u) ≡ true
  larger = first-larger v.val w.val (omega (arith, v.low, w.over, L-H)) (omega (arith, v.low, w.under, L-H))

  pub answered-by : (t : Float) → tai_fraction rows a u ≡ answer t → utc_to_tai rows (julian a u) ≡ answer (julian a t)
  unfolding utc_to_tai
  answered-by t e = kept-changed (tai_fraction rows) a u t larger e

  pub given : tai_fraction rows a u ≡ answer (tai rows a (located (stamp-of v w)).n (day_of a u).fraction)
  given = given-at b (stamp-of v w) (half-days v)

  pub seen : Seen rows a u A up un
  seen =
      let z = stamp-of v w in
      let y = half-days v in
      seen-to b z y h (345622 * h) (omega arith) larger
      (add_close
      (sum-high b z y (2 * L) (λ i j k l. second-high _ _ A up un _ _ _ _ _ l i w.over j k))
      (sum_low b z y (2 * L) (λ i j k l. second-low _ _ A up un _ _ _ _ _ l i w.under j k))
      (since b z y).val (day-sum b z y).val)
