-- A week and its milliseconds turned into a date and back are the same pair. Assumes nothing.
use Rattle.std.proofs.Common.{◌≡◌, ℕ, ◌+◌, ◌-◌, ◌*◌, ◌/◌, ◌%◌, ◌^◌, ◌<◌, ◌≤◌, Bool, true, false, cond, ◌&&◌, T, ltb, leb, pos, sym, refl, ap, ◌∙◌, subst}
use Rattle.std.proofs.Common.{add-zero, mul-le-mul_right, mul_assoc, mul_comm, add-mul, lt_of_mul-lt-mul_right, mul-lt-mul_of_pos_right, one-mul, mul_left_comm}
use Rattle.std.proofs.Common.{arith, lit<, lit≤, ltb-true, le-ltb, le-leb, leb-true}
use lib.Ieee.{Float, binary64, fits}
use lib.Ieee.Fits.{round-fits}
use Rattle.refusals.specs.Outcome.{answer, refusal, onward}
use Rattle.rounding.specs.Value.{Val, L, Under52}
use Rattle.rounding.proofs.Value.{val-move, val-scale, val-finite-true, abs-val, L-pos}
use Rattle.rounding.proofs.Signed.{dist, dist_le}
use Rattle.rounding.proofs.Compare.{lt_show}
use Rattle.rounding.proofs.Range.{power-val}
use Rattle.rounding.proofs.Near.{Near, rounds-near}
use Rattle.julian.specs.declared.day_number.DayNumber.{DayNumber}
use Rattle.julian.specs.day_number.DayNumber.{day_of}
use Rattle.julian.specs.day_number.Answer.{day_number_and_fraction}
use Rattle.julian.proofs.day_number.Units.{E-L, H, H-L}
use Rattle.julian.proofs.day_number.JulianRange.{accepts}
use Rattle.julian.proofs.day_number.Answer.{answered}
use Rattle.julian.specs.declared.JulianDate.{JulianDate}
use Rattle.julian.specs.JulianDate.{julian}
use Rattle.julian.specs.Finite.{finite_jd}
use Rattle.julian.specs.Worth.{Worth, SmallParts}
use Rattle.scales.specs.gps_weeks.WeekDate.{week_midnight, part_of_day, day_in, week_date}
use Rattle.scales.specs.gps_weeks.WeekOf.{week_time, day_millis, week_at, week_of_day, week_of}
use Rattle.scales.proofs.gps_weeks.Parts.{midnight-val}
use Rattle.scales.proofs.gps_week_laws.NearDates as N

-- half a place of a float below 1, in units, twice
pub g : ℕ
g = 2 ^ 1021

pub L-g : L ≡ 2 ^ 53 * g
unfolding L g
L-g = refl

pub g-le : g ≤ L
g-le = omega (arith, L-g)

pub g-small : 1000 * (86400000 * g) ≤ L
g-small = omega (arith, L-g)

top : 2 ^ (53 + 1021) ≡ L
unfolding L
top = refl

pub under52 : {x : Float} {p n : ℕ} → T (fits binary64 x) → Val x p n L → p ≤ n + 4503599627370495 * L → n ≤ p + 4503599627370495 * L → Under52 x
under52 {x} {p} {n} f v u l = record {
  held = f;
  small =
      lt_show L-pos (abs-val v) (power-val 52 L) (plain (dist p n) (dist_le p n (4503599627370495 * L) u l));
}
  where
    plain : (d : ℕ) → d ≤ 4503599627370495 * L → d + 0 < 2 ^ 52 * L + 0
    plain d h = omega (arith, L-pos)

-- ---- the second part
module _ (r : ℕ) (short : r < 86400000) where
  few : r * L < 86400000 * L
  few = mul-lt-mul_of_pos_right short L-pos

  -- a day's part is within 2 ^ -54 of r / 86400000
  pub part-near : Near (part_of_day r) r 0 86400000 1021
  unfolding part_of_day
  part-near = rounds-near 1021 (lit< tt) (lit≤ tt) (subst (λ (x : ℕ). r * L < 0 * L + x * 86400000) (sym top) (less (r * L) L few))
      (subst (λ (x : ℕ). 0 * L < r * L + x * 86400000) (sym top) (more (r * L) L L-pos)) (record { sign = false; size = r; eq = refl; is = add-zero r })
    where
      less : (a l : ℕ) → a < 86400000 * l → a < 0 * l + l * 86400000
      less a l h = omega arith

      more : (a l : ℕ) → 0 < l → 0 * l < a + l * 86400000
      more a l h = omega arith

  p-over : 2 * (part-near.p * 86400000 + 0 * L) ≤ 2 * (part-near.n * 86400000 + r * L) + 86400000 * g
  unfolding g
  p-over = part-near.over

  p-under : 2 * (part-near.n * 86400000 + r * L) ≤ 2 * (part-near.p * 86400000 + 0 * L) + 86400000 * g
  unfolding g
  p-under = part-near.under

  part-high : part-near.p ≤ part-near.n + L + g
  part-high = omega (arith, p-over, few)

  part_low : part-near.n ≤ part-near.p + g
  part_low = omega (arith, p-under)

-- ---- both, for the day n
module _ (n r : ℕ) (early : 2444245 ≤ n) (late : n ≤ 3144252) (short : r < 86400000) where
  abbrev pub d : JulianDate
  d = julian (week_midnight n) (part_of_day r)

  pub q : ℕ
  q = (part-near r short).p

  pub m : ℕ
  m = (part-near r short).n

  X : n * L ≡ 2 * n * H
  X = ap (λ (x : ℕ). n * x) H-L ∙ mul_left_comm n 2 H ∙ sym (mul_assoc 2 n H)

  pub first : Val (week_midnight n) (n * L) H L
  first = subst (λ (x : ℕ). Val (week_midnight n) (n * L) H x) (sym H-L)
      (val-move (val-scale H (midnight-val n (omega arith) (omega arith))) (omega (arith, X)))

  pub second : Val (part_of_day r) q m L
  unfolding q m
  second = (part-near r short).val

  pub low : 2444245 * L ≤ n * L
  low = mul-le-mul_right L early

  pub high : n * L ≤ 3144252 * L
  high = mul-le-mul_right L late

  pub q-high : q ≤ m + L + g
  unfolding q m
  q-high = part-high r short

  pub q-low : m ≤ q + g
  unfolding q m
  q-low = part_low r short

  pub small : SmallParts d
  unfolding week_midnight part_of_day
  small = record {
    first = under52 (round-fits binary64 false (2 * n - 1) 2) first (omega (arith, high, H-L)) (omega (arith, low, H-L));
    second = under52 (round-fits binary64 false r 86400000) second (omega (arith, q-high, g-le)) (omega (arith, q-low, g-le));
  }

  pub worth : Worth d (n * L + q) (H + m) L
  worth = record { p = n * L; n = H; q = q; m = m; first = first; second = second; total = refl }

  pub number : DayNumber
  number = day_of (week_midnight n) (part_of_day r)

  pub given : day_number_and_fraction (week_midnight n) (part_of_day r) ≡ answer number
  unfolding number
  given = answered (week_midnight n) (part_of_day r)
      (accepts (week_midnight n) (part_of_day r) (n * L) H q m first second (omega (arith, high, q-high, E-L, g-le))
      (omega (arith, low, q-low, H-L, E-L, g-le)))

  pub day : (k : ℕ) × (number.day ≡ pos k)
  day = N.from-day-0 d (n * L + q) (H + m) small worth number given (omega (arith, low, q-low, H-L, g-le)) number.day refl

  near : N.DaysNear (n * L + q) (H + m) day.0 (day_millis number.fraction)
  near = N.sum_near d (n * L + q) (H + m) small worth number given day.0 day.1

  spread : (k x : ℕ) → (86400000 * k + x) * L ≡ 86400000 * (k * L) + x * L
  spread k x = add-mul (86400000 * k) x L ∙ ap (λ (y : ℕ). y + x * L) (mul_assoc 86400000 k L)

  pub q-over : 2000 * (86400000 * q) ≤ 2000 * (86400000 * m) + 2000 * (r * L) + L
  unfolding q m
  q-over = omega (arith, p-over r short, g-small)

  pub q-under : 2000 * (86400000 * m) + 2000 * (r * L) ≤ 2000 * (86400000 * q) + L
  unfolding q m
  q-under = omega (arith, p-under r short, g-small)

  -- the count is that of the day and its milliseconds
  pub count : 86400000 * day.0 + day_millis number.fraction ≡ 86400000 * n + r
  count = both (86400000 * day.0 + day_millis number.fraction) (86400000 * n + r)
      (lt_of_mul-lt-mul_right L (above (day.0 * L) (day_millis number.fraction * L) _ _ (spread day.0 (day_millis number.fraction)) (wider n r)
      near.over))
      (lt_of_mul-lt-mul_right L (under (day.0 * L) (day_millis number.fraction * L) _ _ (wider day.0 (day_millis number.fraction)) (spread n r)
      near.under))
    where
      wider : (k x : ℕ) → (86400000 * k + x + 1) * L ≡ 86400000 * (k * L) + x * L + L
      wider k x = add-mul (86400000 * k + x) 1 L ∙ ap (λ (y : ℕ). y + 1 * L) (spread k x) ∙ ap (λ (y : ℕ). 86400000 * (k * L) + x * L + y) (one-mul L)

      above : (K M a b : ℕ) → a ≡ 86400000 * K + M → b ≡ 86400000 * (n * L) + r * L + L
          → 20000000 * (86400000 * K + M + 86400000 * (H + m)) ≤ 20000000 * (86400000 * (n * L + q) + 43200000 * L) + 10000001 * L → a < b
      above K M a b e f h = omega (arith, q-over, H-L, L-pos)

      under : (K M a b : ℕ) → b ≡ 86400000 * K + M + L → a ≡ 86400000 * (n * L) + r * L
          → 20000000 * (86400000 * (n * L + q) + 43200000 * L) ≤ 20000000 * (86400000 * K + M + 86400000 * (H + m)) + 10000001 * L → a < b
      under K M a b e f h = omega (arith, q-under, H-L, L-pos)

      both : (a b : ℕ) → a < b + 1 → b < a + 1 → a ≡ b
      both a b h k = omega arith

  pub within-a-day : day_millis number.fraction ≤ 86400000
  within-a-day = N.in_a_day d (n * L + q) (H + m) small worth number given

  -- the day and the milliseconds are answered, and their week is that of the count
  round_trip_of : week_of d ≡ week_at (86400000 * n + r)
  unfolding week_of finite_jd onward week_of_day
  round_trip_of =
      rw (val-finite-true first, val-finite-true second, given, day.1)
      (ap week_at (ap (λ (y : ℕ). y + day_millis number.fraction) (mul_comm day.0 86400000) ∙ count))

-- ---- the theorem

week-of-count : (week ms : ℕ) → week ≤ 100000 → ms < 604800000
    → week_at (86400000 * (2444245 + 7 * week + ms / 86400000) + ms % 86400000) ≡ answer (week_time week ms)
unfolding week_at
week-of-count week ms h k = go (86400000 * (2444245 + 7 * week + ms / 86400000) + ms % 86400000) (omega arith)
  where
    go : (c : ℕ) → c ≡ 604800000 * week + ms + 211182768000000 → week_at c ≡ answer (week_time week ms)
    go c e =
        let i : (c - 211182768000000) / 604800000 ≡ week = omega arith in
        let j : (c - 211182768000000) % 604800000 ≡ ms = omega arith in
        rw (le-ltb c 211182768000000 (omega arith), i, j, le-leb week 100000 h)

pub record InWeeks (week ms : ℕ) (d : JulianDate) : Type 0 where
  pub week-most : week ≤ 100000
  pub below : ms < 604800000
  pub is : d ≡ julian (week_midnight (day_in week ms)) (part_of_day (ms % 86400000))

pub in-weeks : (week ms : ℕ) (d : JulianDate) → week_date week ms ≡ answer d → InWeeks week ms d
unfolding week_date
in-weeks week ms d e = go (leb week 100000) (ltb ms 604800000) refl refl e
  where
    go : (x y : Bool) → leb week 100000 ≡ x → ltb ms 604800000 ≡ y
        → cond (x && y) (answer (julian (week_midnight (day_in week ms)) (part_of_day (ms % 86400000)))) (refusal 18) ≡ answer d → InWeeks week ms d
    go true true f g h = record { week-most = leb-true week 100000 f; below = ltb-true ms 604800000 g; is = sym (cc) }
    go true false f g h = let z : ◌≡◌ {A = ℕ} 0 1 = cc in absurd (omega arith)
    go false y f g h = let z : ◌≡◌ {A = ℕ} 0 1 = cc in absurd (omega arith)

-- document 02: "Week and millisecond turned into a date and back are the same pair"
pub round_trip : (week ms : ℕ) (d : JulianDate) → week_date week ms ≡ answer d → week_of d ≡ answer (week_time week ms)
round_trip week ms d e =
    let w = in-weeks week ms d e in
    let h = w.week-most in
    let k = w.below in
    ap week_of w.is ∙ round_trip_of (day_in week ms) (ms % 86400000) (omega arith) (omega arith) (omega arith) ∙ week-of-count week ms h k
