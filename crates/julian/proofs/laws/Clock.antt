-- A clock time of a calendar date: which times are refused, and what the answered date is worth, within 17 picoseconds of the exact time. Assumes nothing.
use mathlib.Core.Path.{◌≡◌, refl, sym, ap, ◌∙◌, subst, subst₂}
use mathlib.Core.Bool.{Bool, true, false, cond, ◌&&◌, true≢false}
use Prim.Native.Nat.{ℕ, ◌+◌, ◌-◌, ◌*◌, ◌^◌, ◌≤◌, ◌<◌}
use native.Mathlib.Nat.{le_trans, le_of_eq, mul-le-mul_right, mul_assoc, mul-one}
use native.Mathlib.Omega.{arith}
use lib.Dec.{T, eqb, leb, lit≤, lit<}
use lib.IntN.{ℤ, pos}
use lib.Ieee.{Float, nan, inf, fin, binary64, fits, round, of_int, add, mul, div, lt, le, eq}
use lib.Ieee.Scale.{finite}
use borrow.Author.Tests.{leb-true, lt-leb}
use mir.Syntax.{w32}
use mir.Val.{SFits}
use Rattle.refusals.specs.Outcome.{Outcome, answer, refusal, onward}
use Rattle.floats.specs.Whole.{nought}
use Rattle.rounding.specs.Value.{Val, L}
use Rattle.rounding.specs.Picoseconds.{Within}
use Rattle.rounding.proofs.Value.{L-pos, val-move, mul_rounds}
use Rattle.rounding.proofs.Exact.{rounds-exact}
use Rattle.rounding.proofs.Own.{own, own_val, plus-of, minus-of}
use Rattle.rounding.proofs.Compare.{lt_says, le_says}
use Rattle.rounding.proofs.Sizes.{whole_val}
use Rattle.rounding.proofs.Casts.{of_int_val}
use Rattle.rounding.proofs.About.{U, L-U, about_own, about_add, about_div, about_within}
use Rattle.constants.specs.Constants.{decimal, seconds_per_day, mjd_zero_point}
use Rattle.calendar.specs.DayCount.{mjd_of}
use Rattle.julian.specs.declared.JulianDate.{JulianDate}
use Rattle.julian.specs.JulianDate.{julian, rounded_sum}
use Rattle.julian.specs.DayFraction.{second_limit, time_in_day, day_fraction}
use Rattle.julian.specs.Calendar.{at_time, from_calendar}
use Rattle.julian.proofs.Midnights.{midnight-refused, midnight-given, midnight-sum, mjd-in-42-bits}
use Rattle.julian.specs.laws.Distances.{AtClock}

-- ---- which times are refused

no_minute : (a b c : Bool) → b ≡ false → ((a && b) && c) ≡ false
no_minute true b c e = rw e
no_minute false b c e = refl

pub hour-refused : (hour minute : ℕ) (second leap : Float) → 24 ≤ hour → day_fraction hour minute second leap ≡ refusal 4
unfolding day_fraction time_in_day
hour-refused hour minute second leap h = rw (lt-leb hour 23 h)

pub minute-refused : (hour minute : ℕ) (second leap : Float) → 60 ≤ minute → day_fraction hour minute second leap ≡ refusal 4
unfolding day_fraction time_in_day
minute-refused hour minute second leap h =
    rw (no_minute (leb hour 23) (leb minute 59) (finite leap && (le nought second && lt second (second_limit hour minute leap))) (lt-leb minute 59 h))

no_leap : (a b c : Bool) → b ≡ false → (a && (b && c)) ≡ false
no_leap true b c e = rw e
no_leap false b c e = refl

no_second : (a b c : Bool) → c ≡ false → (a && (b && c)) ≡ false
no_second true true c e = e
no_second true false c e = refl
no_second false b c e = refl

-- neither a NaN nor an infinity is from 0.0 to below a limit, an infinite one too
outside : (x z : Float) → finite x ≡ false → (le nought x && lt x z) ≡ false
unfolding le lt eq
outside nan z h = refl
outside (inf true) z h = refl
outside (inf false) nan h = refl
outside (inf false) (inf t) h = refl
outside (inf false) (fin t n d) h = refl
outside (fin s m e) z h = absurd (true≢false h)

-- A SECOND OR A LEAP THAT IS NOT FINITE IS REFUSED WITH 4, whatever the rest
module _ (hour minute : ℕ) (second leap : Float) where
  pub second_not_finite : finite second ≡ false → day_fraction hour minute second leap ≡ refusal 4
  unfolding day_fraction time_in_day
  second_not_finite h =
      rw (no_second (leb hour 23 && leb minute 59) (finite leap) (le nought second && lt second (second_limit hour minute leap))
      (outside second (second_limit hour minute leap) h))

  pub leap-not-finite : finite leap ≡ false → day_fraction hour minute second leap ≡ refusal 4
  unfolding day_fraction time_in_day
  leap-not-finite h =
      rw (no_leap (leb hour 23 && leb minute 59) (finite leap) (le nought second && lt second (second_limit hour minute leap)) h)

-- ---- by the cases of the date

module _ (y : ℤ) (m d hour minute : ℕ) (second : Float) where
  pub on-date : (n : ℤ) → mjd_of y (pos m) (pos d) ≡ answer n
      → from_calendar y m d hour minute second ≡ at_time (julian mjd_zero_point (of_int binary64 n)) (day_fraction hour minute second nought)
  unfolding from_calendar onward
  on-date n e = rw (midnight-given y (pos m) (pos d) n e)

  -- HOUR 24 AND LATER, AND MINUTE 60 AND LATER, ARE REFUSED WITH 4, on every valid date
  pub hour-24-refused : (n : ℤ) → mjd_of y (pos m) (pos d) ≡ answer n → 24 ≤ hour → from_calendar y m d hour minute second ≡ refusal 4
  unfolding at_time onward
  hour-24-refused n e h = on-date n e ∙ rw (hour-refused hour minute second nought h)

  pub minute-60-refused : (n : ℤ) → mjd_of y (pos m) (pos d) ≡ answer n → 60 ≤ minute → from_calendar y m d hour minute second ≡ refusal 4
  unfolding at_time onward
  minute-60-refused n e h = on-date n e ∙ rw (minute-refused hour minute second nought h)

-- ---- what the test of the time says

record InDay (hour minute : ℕ) (second : Float) : Type 0 where
  hours : hour ≤ 23
  minutes : minute ≤ 59
  low : T (le nought second)
  high : T (lt second (decimal 60 0))

limit_is : (b : Bool) → cond b (add binary64 (decimal 60 0) nought) (decimal 60 0) ≡ decimal 60 0
unfolding add round
limit_is true = refl
limit_is false = refl

in-day : (hour minute : ℕ) (second : Float) → time_in_day hour minute second nought ≡ true → InDay hour minute second
unfolding time_in_day second_limit
in-day hour minute second e = go (leb hour 23) refl (leb minute 59) refl (le nought second) refl (lt second (second_limit hour minute nought)) refl e
  where
    test : (b : Bool) → b ≡ true → T b
    test b e = rw e tt

    go : (a : Bool) → leb hour 23 ≡ a → (b : Bool) → leb minute 59 ≡ b → (c : Bool) → le nought second ≡ c → (f : Bool)
        → lt second (second_limit hour minute nought) ≡ f → (a && b) && (c && f) ≡ true → InDay hour minute second
    go true p true q true r true s e = record {
      hours = leb-true hour 23 p;
      minutes = leb-true minute 59 q;
      low = test (le nought second) r;
      high = subst (λ (z : Float). T (lt second z)) (limit_is (eqb hour 23 && eqb minute 59)) (test (lt second (second_limit hour minute nought)) s);
    }
    go false p b q c r f s e = let z : ◌≡◌ {A = Bool} false true = e in absurd (true≢false (sym z))
    go true p false q c r f s e = let z : ◌≡◌ {A = Bool} false true = e in absurd (true≢false (sym z))
    go true p true q false r f s e = let z : ◌≡◌ {A = Bool} false true = e in absurd (true≢false (sym z))
    go true p true q true r false s e = let z : ◌≡◌ {A = Bool} false true = e in absurd (true≢false (sym z))

-- the second at its exact value, x / L
record Second (s : Float) : Type 0 where
  x : ℕ
  val : Val s x 0 L
  high : x ≤ 60 * L

second-finite : (s : Float) → T (le nought s) → T (lt s (decimal 60 0)) → T (finite s)
unfolding le lt eq round
second-finite nan h k = absurd k
second-finite (inf true) h k = absurd h
second-finite (inf false) h k = absurd k
second-finite (fin t m e) h k = tt

sixty-val : Val (decimal 60 0) (60 * L) (0 * L) L
unfolding round
sixty-val = whole_val (record { sign = false; size = 60; has = (refl, refl); is = refl })

nought-val : Val nought (0 * L) (0 * L) L
nought-val = whole_val (record { sign = false; size = 0; has = (refl, refl); is = refl })

second-of : (s : Float) → T (fits binary64 s) → T (le nought s) → T (lt s (decimal 60 0)) → Second s
second-of s f h k =
    let o = own s f (second-finite s h k) in
    let v = own_val s o in
    let l = le_says L-pos nought-val v h in
    let u = lt_says L-pos v sixty-val k in
    record { x = plus-of o.sign o.size - minus-of o.sign o.size; val = val-move v (moved _ _ L l); high = most _ _ L u }
  where
    moved : (p n l : ℕ) → 0 * l + n ≤ p + 0 * l → p + 0 ≡ p - n + n
    moved p n l h = omega arith

    most : (p n l : ℕ) → p + 0 * l < 60 * l + n → p - n ≤ 60 * l
    most p n l h = omega arith

-- ---- the fraction of the day

day-val : Val (add binary64 seconds_per_day nought) 86400 0 1
unfolding seconds_per_day add round
day-val = record { sign = false; size = 86400; has = (refl, refl); is = refl }

sixty : Val (decimal 60 0) 60 0 1
unfolding round
sixty = record { sign = false; size = 60; has = (refl, refl); is = refl }

-- 60 times the minutes, exactly
minutes_val : (k : ℕ) → k ≤ 1439 → Val (mul binary64 (decimal 60 0) (of_int binary64 (pos k))) (60 * k) 0 1
minutes_val k h = val-move (rounds-exact 0 (lit≤ tt) (omega arith) (omega arith)
    (mul_rounds binary64 (lit< tt) (lit< tt) sixty (of_int_val (pos k) (omega arith) (omega arith)))) (omega arith)

-- K days in units of 2 ^ -90
units : (K x : ℕ) → x ≤ K * L → x ≤ 0 + K * 2 ^ 90 * U
units K x h = le_trans h (le_of_eq (ap (λ (z : ℕ). K * z) L-U ∙ sym (mul_assoc K (2 ^ 90) U) ∙ go (K * 2 ^ 90 * U)))
  where
    go : (z : ℕ) → z ≡ 0 + z
    go z = omega arith

module _ (hour minute : ℕ) (s : Float) (h : hour ≤ 23) (k : minute ≤ 59) (w : Second s) where
  time-near : Within 17 (div binary64 (add binary64 (mul binary64 (decimal 60 0) (of_int binary64 (pos (60 * hour + minute)))) s)
      (add binary64 seconds_per_day nought)) ((3600 * hour + 60 * minute) * L + w.x) 0 (L * 86400)
  time-near =
      let m = about_own (86340 * 2 ^ 90) {p = 60 * (60 * hour + minute) * L} {n = 0 * L} (units_of) (none _ L)
      (whole_val (minutes_val (60 * hour + minute) (omega arith))) in
      let t = about_own (60 * 2 ^ 90) (units 60 w.x w.high) (omega arith) w.val in
      let a = about_add 53 (lit≤ tt) (lit< tt) m t in
      let b = about_div 37 86400 (2 ^ 90) 241688944847 (lit≤ tt) (lit< tt) (lit≤ tt) (lit< tt) (lit≤ tt) day-val a in
      subst₂ (λ (P N : ℕ). Within 17 (div binary64 (add binary64 (mul binary64 (decimal 60 0) (of_int binary64 (pos (60 * hour + minute)))) s)
      (add binary64 seconds_per_day nought)) P N (L * 86400)) up (down L) (about_within 17 (lit≤ tt) b)
    where
      units_of : 60 * (60 * hour + minute) * L ≤ 0 * L + 86340 * 2 ^ 90 * U
      units_of = le_trans (units 86340 (60 * (60 * hour + minute) * L) (mul-le-mul_right L (omega arith))) (le_of_eq (none_of (86340 * 2 ^ 90 * U) L))
        where
          none_of : (z l : ℕ) → 0 + z ≡ 0 * l + z
          none_of z l = omega arith

      none : (z l : ℕ) → 0 * l ≤ z
      none z l = omega arith

      up : (60 * (60 * hour + minute) * L + w.x) * 1 ≡ (3600 * hour + 60 * minute) * L + w.x
      up = mul-one _ ∙ ap (λ (z : ℕ). z * L + w.x) (go hour minute)
        where
          go : (h m : ℕ) → 60 * (60 * h + m) ≡ 3600 * h + 60 * m
          go h m = omega arith

      down : (l : ℕ) → (0 * l + 0) * 1 ≡ 0
      down l = omega arith

-- ---- the date

-- THE CLOCK TIME: an answered date is exactly the midnight of the calendar date in jd1, and within 17 picoseconds of the time in jd2
pub at_clock : (y : ℤ) (m d hour minute : ℕ) (second : Float) → SFits w32 y → T (fits binary64 second) → (date : JulianDate)
    → from_calendar y m d hour minute second ≡ answer date → AtClock 17 y m d hour minute second date
unfolding from_calendar at_time day_fraction rounded_sum onward
at_clock y m d hour minute second fy fs date e = go (mjd_of y (pos m) (pos d)) refl
  where
    timed : (n : ℤ) → mjd_of y (pos m) (pos d) ≡ answer n → (b : Bool) → time_in_day hour minute second nought ≡ b → AtClock 17 y m d hour minute second date
    timed n p false q = let r : from_calendar y m d hour minute second ≡ refusal 4 = on-date y m d hour minute second n p ∙ rw q in let z : ◌≡◌ {A = ℕ} 0 1 =
        cc in absurd (omega arith)
    timed n p true q =
        let i = in-day hour minute second q in
        let w = second-of second fs i.low i.high in
        let s : answer date ≡ answer (julian (add binary64 mjd_zero_point (of_int binary64 n))
        (div binary64 (add binary64 (mul binary64 (decimal 60 0) (of_int binary64 (pos (60 * hour + minute)))) second)
        (add binary64 seconds_per_day nought))) = sym e ∙ on-date y m d hour minute second n p ∙ rw q in
        let same : julian (add binary64 mjd_zero_point (of_int binary64 n))
        (div binary64 (add binary64 (mul binary64 (decimal 60 0) (of_int binary64 (pos (60 * hour + minute)))) second) (add binary64 seconds_per_day nought))
        ≡ date = cc in
        subst (AtClock 17 y m d hour minute second) same
        (record {
          n = n;
          mjd = p;
          midnight = midnight-sum n (mjd-in-42-bits y (pos m) (pos d) n fy p);
          x = w.x;
          seconds = w.val;
          time =
              time-near hour minute second i.hours i.minutes w;
        })

    go : (o : Outcome ℤ) → mjd_of y (pos m) (pos d) ≡ o → AtClock 17 y m d hour minute second date
    go (answer n) p = timed n p (time_in_day hour minute second nought) refl
    go (refusal k) p = let r : from_calendar y m d hour minute second ≡ refusal k = rw (midnight-refused y (pos m) (pos d) k p) in let z : ◌≡◌ {A = ℕ} 0 1 =
        cc in absurd (omega arith)
