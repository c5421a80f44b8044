-- Which refusals the two ways give, and exactly when: 18 alone for a week; 9, then 6, then 18 for a date. Assumes nothing.
use Rattle.std.proofs.Common.{◌≡◌, ℕ, ◌+◌, ◌-◌, ◌*◌, ◌/◌, ◌%◌, ◌<◌, ◌≤◌, Bool, true, false, cond, ◌&&◌, ltb, leb, ◌⊎◌, ℤ, pos, negsuc, refl, inl, inr, arith}
use Rattle.std.proofs.Common.{ltb-false, ltb-true, leb-false, leb-true}
use Rattle.refusals.specs.Outcome.{Outcome, answer, refusal, onward}
use Rattle.julian.specs.declared.day_number.DayNumber.{DayNumber}
use Rattle.julian.specs.day_number.DayNumber.{accepted, day_of}
use Rattle.julian.specs.day_number.Answer.{day_number_and_fraction}
use Rattle.julian.proofs.day_number.Answer.{answered, refused}
use Rattle.julian.specs.declared.JulianDate.{JulianDate}
use Rattle.julian.specs.JulianDate.{julian}
use Rattle.julian.specs.Finite.{finite_parts, finite_jd}
use Rattle.scales.specs.declared.gps_weeks.WeekTime.{WeekTime}
use Rattle.scales.specs.gps_weeks.WeekDate.{week_midnight, part_of_day, day_in, week_date}
use Rattle.scales.specs.gps_weeks.WeekOf.{week_time, day_millis, week_at, week_of_day, week_of}
use Rattle.scales.specs.gps_week_laws.Decisions.{FromWeek, dated, over, AtCount, within, outside, ToWeek, not_finite, no_day, before_day_0, counted}

-- ---- a week's date

pub from-week-decided : (week ms : ℕ) → FromWeek week ms (week_date week ms)
unfolding week_date
from-week-decided week ms = go (leb week 100000) (ltb ms 604800000) refl refl
  where
    go : (x y : Bool) → leb week 100000 ≡ x → ltb ms 604800000 ≡ y
        → FromWeek week ms (cond (x && y) (answer (julian (week_midnight (day_in week ms)) (part_of_day (ms % 86400000)))) (refusal 18))
    go true true f g = dated (leb-true week 100000 f) (ltb-true ms 604800000 g)
    go true false f g = over (inr (ltb-false ms 604800000 g))
    go false y f g = over (inl (leb-false week 100000 f))

-- ---- a date's week

pub count-decided : (count : ℕ) → AtCount count (week_at count)
unfolding week_at
count-decided count = go (ltb count 211182768000000) (leb ((count - 211182768000000) / 604800000) 100000) refl refl
  where
    s : ℕ
    s = count - 211182768000000

    go : (x y : Bool) → ltb count 211182768000000 ≡ x → leb (s / 604800000) 100000 ≡ y
        → AtCount count (cond x (refusal 18) (cond y (answer (week_time (s / 604800000) (s % 604800000))) (refusal 18)))
    go true y f g = outside (inl (ltb-true count 211182768000000 f))
    go false true f g =
        let b : 211182768000000 ≤ count = ltb-false count 211182768000000 f in
        let k : s / 604800000 ≤ 100000 = leb-true (s / 604800000) 100000 g in
        within (week_time (s / 604800000) (s % 604800000)) b (omega arith) k (omega arith)
    go false false f g = let k : 100000 < s / 604800000 = leb-false (s / 604800000) 100000 g in outside (inr (omega arith))

pub to-week-decided : (d : JulianDate) → ToWeek d (week_of d)
unfolding week_of finite_jd onward week_of_day
to-week-decided d = go (finite_parts d) (accepted d.jd1 d.jd2) refl refl
  where
    number : DayNumber
    number = day_of d.jd1 d.jd2

    on-day : (z : ℤ) → number.day ≡ z → finite_parts d ≡ true → accepted d.jd1 d.jd2 ≡ true → ToWeek d (week_of_day z (day_millis number.fraction))
    on-day (pos n) e f a = counted n (week_at (n * 86400000 + day_millis number.fraction)) f a e (count-decided (n * 86400000 + day_millis number.fraction))
    on-day (negsuc n) e f a = before_day_0 n f a e

    go : (x y : Bool) → finite_parts d ≡ x → accepted d.jd1 d.jd2 ≡ y
        → ToWeek d (onward (cond x (answer d) (refusal 9))
        (λ e. onward (day_number_and_fraction e.jd1 e.jd2) (λ n. week_of_day n.day (day_millis n.fraction))))
    go false y f a = not_finite f
    go true false f a = rw (refused d.jd1 d.jd2 a) (no_day f a)
    go true true f a = rw (answered d.jd1 d.jd2 a) (on-day number.day refl f a)

-- only 9, 6 and 18 occur
pub to-week-numbers : (d : JulianDate) (n : ℕ) → week_of d ≡ refusal n → (n ≡ 9) ⊎ ((n ≡ 6) ⊎ (n ≡ 18))
to-week-numbers d n e = go (week_of d) (to-week-decided d) e
  where
    at : (count : ℕ) (o : Outcome WeekTime) → AtCount count o → o ≡ refusal n → n ≡ 18
    at count _ (within t a b c f) h = let z : ◌≡◌ {A = ℕ} 0 1 = cc in absurd (omega arith)
    at count _ (outside x) h = cc

    go : (o : Outcome WeekTime) → ToWeek d o → o ≡ refusal n → (n ≡ 9) ⊎ ((n ≡ 6) ⊎ (n ≡ 18))
    go _ (not_finite f) h = inl (cc)
    go _ (no_day f a) h = inr (inl (cc))
    go _ (before_day_0 k f a g) h = inr (inr (cc))
    go _ (counted k o f a g c) h = inr (inr (at _ o c h))
