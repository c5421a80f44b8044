-- What a week and its milliseconds mean: they are within 0.50000005 ms of the exact date, for every date with parts under 2^52 in size. Assumes nothing.
use Rattle.std.proofs.Common.{◌≡◌, ℕ, suc, ◌+◌, ◌-◌, ◌*◌, ◌/◌, ◌%◌, ◌^◌, ◌<◌, ◌≤◌, Bool, true, false, cond, ltb, leb, ℤ, pos, negsuc, ◌+ℤ◌, ◌-ℤ◌, sym, refl, ap}
use Rattle.std.proofs.Common.{◌∙◌, subst, mul-le-mul_right, mul_assoc, mul_comm, add-mul, arith, ltb-false, leb-true}
use Rattle.refusals.specs.Outcome.{Outcome, answer, refusal, onward}
use Rattle.rounding.specs.Value.{L, plus_z, minus_z}
use Rattle.rounding.proofs.Value.{val-move, L-pos}
use Rattle.rounding.proofs.Casts.{add_pair, sub_pair}
use Rattle.rounding.proofs.Compare.{lt_says}
use Rattle.julian.specs.declared.day_number.DayNumber.{DayNumber}
use Rattle.julian.specs.day_number.Answer.{day_number_and_fraction}
use Rattle.julian.specs.day_number.NearDay.{DayNear}
use Rattle.julian.proofs.day_number.OffGrid.{day-near}
use Rattle.julian.proofs.day_number.Ranges.{fraction-range}
use Rattle.julian.specs.declared.JulianDate.{JulianDate}
use Rattle.julian.specs.Finite.{finite_parts, finite_jd}
use Rattle.julian.specs.Worth.{Worth, SmallParts}
use Rattle.time_of_day.proofs.Fractions.{one-val}
use Rattle.scales.specs.declared.gps_weeks.WeekTime.{WeekTime}
use Rattle.scales.specs.gps_weeks.WeekOf.{week_time, day_millis, week_at, week_of_day, week_of}
use Rattle.scales.specs.gps_week_laws.NearDate.{millis_since, OfCount, NearWeek}
use Rattle.scales.proofs.gps_week_laws.Count.{millis-near}

-- ---- what an answered week comes from

pub of_count : (count : ℕ) (t : WeekTime) → week_at count ≡ answer t → OfCount count t
unfolding week_at
of_count count t e = go (ltb count 211182768000000) (leb ((count - 211182768000000) / 604800000) 100000) refl refl e
  where
    s : ℕ
    s = count - 211182768000000

    go : (x y : Bool) → ltb count 211182768000000 ≡ x → leb (s / 604800000) 100000 ≡ y
        → cond x (refusal 18) (cond y (answer (week_time (s / 604800000) (s % 604800000))) (refusal 18)) ≡ answer t → OfCount count t
    go true y f g h = let z : ◌≡◌ {A = ℕ} 0 1 = cc in absurd (omega arith)
    go false false f g h = let z : ◌≡◌ {A = ℕ} 0 1 = cc in absurd (omega arith)
    go false true f g h =
        let k : week_time (s / 604800000) (s % 604800000) ≡ t = cc in
        let b : 211182768000000 ≤ count = ltb-false count 211182768000000 f in
        subst (OfCount count) k (record { is = whole count b; week = leb-true (s / 604800000) 100000 g; millis = omega arith })
      where
        whole : (c : ℕ) → 211182768000000 ≤ c → 604800000 * ((c - 211182768000000) / 604800000) + (c - 211182768000000) % 604800000 + 211182768000000 ≡ c
        whole c b = omega arith

-- the day, its number not below 0, and the fraction
pub record OfDay (d : JulianDate) (t : WeekTime) : Type 0 where
  pub number : DayNumber
  pub given : day_number_and_fraction d.jd1 d.jd2 ≡ answer number
  pub n : ℕ
  pub is : number.day ≡ pos n
  pub count : OfCount (n * 86400000 + day_millis number.fraction) t

in-day : (z : ℤ) (ms : ℕ) (t : WeekTime) → week_of_day z ms ≡ answer t → (n : ℕ) × (z ≡ pos n) × OfCount (n * 86400000 + ms) t
unfolding week_of_day
in-day (pos n) ms t e = (n, refl, of_count (n * 86400000 + ms) t e)
in-day (negsuc n) ms t e = let z : ◌≡◌ {A = ℕ} 0 1 = cc in absurd (omega arith)

pub of_day : (d : JulianDate) (t : WeekTime) → week_of d ≡ answer t → OfDay d t
unfolding week_of finite_jd onward
of_day d t e = go (finite_parts d) (day_number_and_fraction d.jd1 d.jd2) refl e
  where
    days : Outcome DayNumber → Outcome WeekTime
    days o = onward o (λ n. week_of_day n.day (day_millis n.fraction))

    go : (b : Bool) (o : Outcome DayNumber) → day_number_and_fraction d.jd1 d.jd2 ≡ o
        → onward (cond b (answer d) (refusal 9)) (λ e. onward (day_number_and_fraction e.jd1 e.jd2) (λ n. week_of_day n.day (day_millis n.fraction))) ≡
        answer t → OfDay d t
    go false o f h = let z : ◌≡◌ {A = ℕ} 0 1 = cc in absurd (omega arith)
    go true (refusal n) f h = let k : refusal n ≡ answer t = sym (ap days f) ∙ h in let z : ◌≡◌ {A = ℕ} 0 1 = cc in absurd (omega arith)
    go true (answer n) f h =
        let k : week_of_day n.day (day_millis n.fraction) ≡ answer t = sym (ap days f) ∙ h in
        let x = in-day n.day (day_millis n.fraction) t k in
        record { number = n; given = f; n = x.0; is = x.1; count = x.2 }

-- ---- a date's day and milliseconds against its exact sum

-- |86400000 k + m - 43200000 - 86400000 (P - N) / L| ≤ 0.50000005, both sides times 20000000 L
pub record DaysNear (P N k m : ℕ) : Type 0 where
  pub over : 20000000 * (86400000 * (k * L) + m * L + 86400000 * N) ≤ 20000000 * (86400000 * P + 43200000 * L) + 10000001 * L
  pub under : 20000000 * (86400000 * P + 43200000 * L) ≤ 20000000 * (86400000 * (k * L) + m * L + 86400000 * N) + 10000001 * L

-- 2^-51 day is at most 1 / 25000000 ms, and 2^-27 ms at most 1 / 100000000
day-over : (K u R S l : ℕ) → 2 ^ 51 * (K + u + R) ≤ 2 ^ 51 * S + 2 ^ 50 * l + l
    → 25000000 * (86400000 * (K + u + R)) ≤ 25000000 * (86400000 * S + 43200000 * l) + l
day-over K u R S l h = omega arith

day-under : (K u R S l : ℕ) → 2 ^ 51 * S + 2 ^ 50 * l ≤ 2 ^ 51 * (K + u + R) + l
    → 25000000 * (86400000 * S + 43200000 * l) ≤ 25000000 * (86400000 * (K + u + R)) + l
day-under K u R S l h = omega arith

count-over : (M f l : ℕ) → 2 ^ 27 * M ≤ 2 ^ 27 * f + 2 ^ 26 * l + l → 100000000 * M ≤ 100000000 * f + 50000001 * l
count-over M f l h = omega arith

count_under : (M f l : ℕ) → 2 ^ 27 * f ≤ 2 ^ 27 * M + 2 ^ 26 * l + l → 100000000 * f ≤ 100000000 * M + 50000001 * l
count_under M f l h = omega arith

module _ (P N S R u K M l : ℕ) (sum : S + N ≡ P + R) where
  above : 25000000 * (86400000 * (K + u + R)) ≤ 25000000 * (86400000 * S + 43200000 * l) + l → 100000000 * M ≤ 100000000 * (86400000 * u) + 50000001 * l
      → 20000000 * (86400000 * K + M + 86400000 * N) ≤ 20000000 * (86400000 * P + 43200000 * l) + 10000001 * l
  above a b = omega arith

  under : 25000000 * (86400000 * S + 43200000 * l) ≤ 25000000 * (86400000 * (K + u + R)) + l → 100000000 * (86400000 * u) ≤ 100000000 * M + 50000001 * l
      → 20000000 * (86400000 * P + 43200000 * l) ≤ 20000000 * (86400000 * K + M + 86400000 * N) + 10000001 * l
  under a b = omega arith

module _ (d : JulianDate) (P N : ℕ) (s : SmallParts d) (w : Worth d P N L) (number : DayNumber)
    (given : day_number_and_fraction d.jd1 d.jd2 ≡ answer number) where
  abbrev i : ℤ
  i = pos w.p -ℤ pos w.n

  abbrev j : ℤ
  j = pos w.q -ℤ pos w.m

  near : DayNear (i +ℤ j) number.day number.fraction
  near = day-near d.jd1 d.jd2 s.first s.second i j (val-move w.first (omega (arith, sub_pair (pos w.p) (pos w.n))))
      (val-move w.second (omega (arith, sub_pair (pos w.q) (pos w.m)))) number given

  is_sum : plus_z (i +ℤ j) + N ≡ P + minus_z (i +ℤ j)
  is_sum = omega (arith, add_pair i j, sub_pair (pos w.p) (pos w.n), sub_pair (pos w.q) (pos w.m), w.total)

  below_one : near.units < L
  below_one =
      let r = fraction-range d.jd1 d.jd2 s.first.held s.second.held number given in
      let h : near.units + 0 < L + 0 = lt_says L-pos near.val (one-val L) r.high in
      omega arith

  -- its milliseconds are at most a whole day's
  pub in_a_day : day_millis number.fraction ≤ 86400000
  in_a_day = (millis-near number.fraction near.units near.val below_one).most

  pub sum_near : (n : ℕ) → number.day ≡ pos n → DaysNear P N n (day_millis number.fraction)
  sum_near n e =
      let c = millis-near number.fraction near.units near.val below_one in
      let o = subst (λ (z : ℤ). 2 ^ 51 * (plus_z z * L + near.units + minus_z (i +ℤ j)) ≤ 2 ^ 51 * (plus_z (i +ℤ j) + minus_z z * L) + 2 ^ 50 * L + L) e
      near.over in
      let v = subst (λ (z : ℤ). 2 ^ 51 * (plus_z (i +ℤ j) + minus_z z * L) + 2 ^ 50 * L ≤ 2 ^ 51 * (plus_z z * L + near.units + minus_z (i +ℤ j)) + L) e
      near.under in
      record {
        over = above P N (plus_z (i +ℤ j)) (minus_z (i +ℤ j)) near.units (n * L) (day_millis number.fraction * L) L is_sum
            (day-over (n * L) near.units _ _ L (plain _ _ _ _ o)) (count-over (day_millis number.fraction * L) (86400000 * near.units) L c.over);
        under = under P N (plus_z (i +ℤ j)) (minus_z (i +ℤ j)) near.units (n * L) (day_millis number.fraction * L) L is_sum
            (day-under (n * L) near.units _ _ L (plain' _ _ _ _ v)) (count_under (day_millis number.fraction * L) (86400000 * near.units) L c.under);
      }
    where
      plain : (a S l r : ℕ) → 2 ^ 51 * a ≤ 2 ^ 51 * (S + 0 * L) + l + r → 2 ^ 51 * a ≤ 2 ^ 51 * S + l + r
      plain a S l r h = omega arith

      plain' : (a S l r : ℕ) → 2 ^ 51 * (S + 0 * L) + l ≤ 2 ^ 51 * a + r → 2 ^ 51 * S + l ≤ 2 ^ 51 * a + r
      plain' a S l r h = omega arith

  -- a date from day 1 on has a day number that is not below 0
  pub from-day-0 : N + L ≤ P → (z : ℤ) → number.day ≡ z → (n : ℕ) × (number.day ≡ pos n)
  from-day-0 h (pos n) e = (n, e)
  from-day-0 h (negsuc a) e =
      let v = subst (λ (z : ℤ). 2 ^ 51 * (plus_z (i +ℤ j) + minus_z z * L) + 2 ^ 50 * L ≤ 2 ^ 51 * (plus_z z * L + near.units + minus_z (i +ℤ j)) + L) e
      near.under in
      absurd (no (plus_z (i +ℤ j)) (minus_z (i +ℤ j)) (suc a * L) is_sum (mul-le-mul_right L (some a)) v)
    where
      some : (a : ℕ) → 1 ≤ suc a
      some a = omega arith

      no : (S R b : ℕ) → S + N ≡ P + R → 1 * L ≤ b → 2 ^ 51 * (S + b) + 2 ^ 50 * L ≤ 2 ^ 51 * (0 * L + near.units + R) + L → ⊥
      no S R b s l v = omega (arith, below_one)

-- document 02's way back, in exact numbers
pub week-near : (d : JulianDate) (P N : ℕ) → SmallParts d → Worth d P N L → (t : WeekTime) → week_of d ≡ answer t → NearWeek P N t
week-near d P N s w t e =
    let g = of_day d t e in
    let m = day_millis g.number.fraction in
    let k = sum_near d P N s w g.number g.given g.n g.is in
    let c : (millis_since t + 211182724800000) * L + 43200000 * L ≡ 86400000 * (g.n * L) + m * L = times (millis_since t) g.n m g.count.is in
    record { over = omega (arith, c, k.over); under = omega (arith, c, k.under) }
  where
    times : (x n m : ℕ) → x + 211182768000000 ≡ n * 86400000 + m → (x + 211182724800000) * L + 43200000 * L ≡ 86400000 * (n * L) + m * L
    times x n m e =
        sym (add-mul (x + 211182724800000) 43200000 L)
        ∙ ap (λ (y : ℕ). y * L) (shift x (n * 86400000 + m) e)
        ∙ add-mul (n * 86400000) m L
        ∙ ap (λ (y : ℕ). y * L + m * L) (mul_comm n 86400000)
        ∙ ap (λ (y : ℕ). y + m * L) (mul_assoc 86400000 n L)
      where
        shift : (x c : ℕ) → x + 211182768000000 ≡ c → x + 211182724800000 + 43200000 ≡ c
        shift x c h = omega arith
