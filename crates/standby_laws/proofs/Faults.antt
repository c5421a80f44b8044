-- FAULTS ARE utc_from_calendar's: for years from 1972 on and up to 999 ms, a time is refused exactly where `utc_from_calendar` refuses it, with the same
-- number, under every table that is taken. Assumes nothing.
use mathlib.Core.Path.{◌≡◌, refl, ap, sym, subst, ◌∙◌}
use mathlib.Core.Bool.{Bool, true, false, true≢false, cond, ◌&&◌}
use mathlib.Core.Logic.{◌⊎◌, inl, inr}
use mathlib.Core.List.{List}
use Prim.Native.Nat.{ℕ, suc, ◌+◌, ◌-◌, ◌*◌, ◌^◌, ◌≤◌, ◌<◌}
use native.Mathlib.Omega.{arith}
use native.Mathlib.Nat.{le_of_lt, add-zero, one-mul, mul-le-mul_right}
use lib.Dec.{T, lit<, lit≤, eqb, ltb}
use lib.IntN.{ℤ, pos, negsuc, nat_abs}
use lib.Signed.{lt_z}
use lib.Ieee.{Float, nan, inf, fin, binary64, round, of_int, of_bits, add, lt, le}
use lib.Ieee.Scale.{finite}
use lib.Ieee.Order.{round_mono}
use borrow.Author.Tests.{ltb-true, ltb-false, le-ltb, le-leb}
use Rattle.refusals.specs.Outcome.{Outcome, answer, refusal, onward}
use Rattle.floats.specs.Whole.{nought, one}
use Rattle.rounding.specs.Value.{Val, L}
use Rattle.rounding.proofs.Value.{val-finite-true, val-scale, L-is, L-pos}
use Rattle.rounding.proofs.Casts.{of_int_val}
use Rattle.rounding.proofs.Compare.{lt_val, le_true}
use Rattle.rounding.proofs.Near.{Near, rounds-near}
use Rattle.constants.specs.Constants.{decimal}
use Rattle.calendar.specs.declared.CalendarDate.{CalendarDate}
use Rattle.calendar.specs.Calendar.{month_length}
use Rattle.calendar.specs.Refusals.{valid_date, next_of}
use Rattle.calendar.specs.DayCount.{mjd_number}
use Rattle.calendar.proofs.Accepted.{date-accepted}
use Rattle.calendar.proofs.NextDates.{next-is, next-in-calendar}
use Rattle.julian.specs.declared.JulianDate.{JulianDate}
use Rattle.julian.specs.DayFraction.{second_limit, time_in_day, day_fraction}
use Rattle.leap_table.specs.declared.rows.AnnouncedRows.{AnnouncedRows}
use Rattle.leap_table.specs.rows.Table.{Row, starts, month_number}
use Rattle.leap_table.specs.rows.Announced.{table_of}
use Rattle.leap_table.specs.offsets.Offset.{seconds_in}
use Rattle.leap_table.specs.offsets.Leap.{leap_of, offsets_of_day, leap_at_end_of_day}
use Rattle.leap_table.specs.offsets.WholeSeconds.{whole_seconds}
use Rattle.leap_table.proofs.rows.Reached.{member}
use Rattle.leap_table.proofs.offsets.Days.{day-offsets-are, leap-given}
use Rattle.leap_table.proofs.offsets.TableSeconds.{seconds-stay, seconds-step}
use Rattle.leap_table.proofs.offsets.WholeSeconds.{late}
use Rattle.leap_days.proofs.Months.{next-month-number}
use Rattle.leap_days.proofs.TableLeaps.{no_step, one-second-more, one-second-less}
use Rattle.time_of_day.specs.ExactTime.{minus_one_f}
use Rattle.utc.specs.FromCalendar as From
use Rattle.utc.proofs.laws.FromCalendars.{date_refused, leap-refused, on-date}
use Rattle.parsing_laws.proofs.UtcTimes.{not_negative, second_below}
use Rattle.standby.specs.declared.UtcTime.{UtcTime}
use Rattle.standby.specs.Times.{last_minute, in_its_day, tai_ms, instant_on, instant}
use Rattle.standby.proofs.Times as Given
use Rattle.standby.proofs.Elapsed.{next-from}
use Rattle.standby_laws.specs.Verdict.{fault_of, as_calendar}

-- ---- a second of milliseconds is not below a whole number that it reaches, as a float too
holds : (b : Bool) → T b → b ≡ true
holds true t = refl
holds false t = absurd t

close : (n : ℕ) → n < 256000 → Near (decimal n 3) n 0 1000 1030
close n h =
    rounds-near 1030 {z = decimal n 3} {P = n} {N = 0} {D = 1000} (lit< tt) (lit≤ tt)
    (wide512 (n * L) L (2 ^ 1083) (rw L-is) L-pos (mul-le-mul_right L (le_of_lt h)))
    (wide_back (n * L) L (2 ^ 1083) (rw L-is) L-pos)
    (record { sign = false; size = n; eq = refl; is = add-zero n })
  where
    wide512 : (nu u P : ℕ) → P ≡ 512 * u → 0 < u → nu ≤ 256000 * u → nu < 0 * u + P * 1000
    wide512 nu u P e h k = omega arith

    wide_back : (nu u P : ℕ) → P ≡ 512 * u → 0 < u → 0 * u < nu + P * 1000
    wide_back nu u P e h = omega arith

whole_val : (b : ℕ) → b ≤ 61 → Val (decimal b 0) (b * L) (0 * L) L
unfolding of_int
whole_val b h = subst (Val (decimal b 0) (b * L) (0 * L)) (one-mul L) (val-scale L (of_int_val (pos b) (omega arith) (omega arith)))

second-reached : (n b : ℕ) → 1000 * b ≤ n → b ≤ 61 → n < 256000 → lt (decimal n 3) (decimal b 0) ≡ false
second-reached n b h k m =
    let e = close n m in
    let g : le (decimal b 0) (decimal n 3) ≡ true = holds _ (round_mono binary64 b 1 n 1000 (lit< tt) (lit< tt) (omega arith)) in
    lt_val L-pos e.val (whole_val b k) ∙ le-ltb _ _ (le_true L-pos (whole_val b k) e.val g)

second-test : (s ms b : ℕ) → ms ≤ 999 → s < 256 → b ≤ 61 → lt (decimal (1000 * s + ms) 3) (decimal b 0) ≡ ltb s b
second-test s ms b h k l = go (ltb s b) refl
  where
    go : (t : Bool) → ltb s b ≡ t → lt (decimal (1000 * s + ms) 3) (decimal b 0) ≡ t
    go true e = second_below (1000 * s + ms) b (omega (arith, ltb-true s b e)) l
    go false e = second-reached (1000 * s + ms) b (omega (arith, ltb-false s b e)) l (omega arith)

-- ---- the limit of the last minute
limit_is : (c : Bool) (x : Float) (last : ℕ) → add binary64 (decimal 60 0) x ≡ decimal last 0
    → cond c (add binary64 (decimal 60 0) x) (decimal 60 0) ≡ decimal (cond c last 60) 0
limit_is true x last e = e
limit_is false x last e = refl

limit_small : (c : Bool) (last : ℕ) → last ≤ 61 → cond c last 60 ≤ 61
limit_small true last h = h
limit_small false last h = omega arith

-- a leap by which the limit is a whole number of seconds is finite
leap-finite : (x : Float) (last : ℕ) → last ≤ 61 → add binary64 (decimal 60 0) x ≡ decimal last 0 → finite x ≡ true
unfolding add
leap-finite x last l e = go x (val-finite-true (subst (λ (z : Float). Val z (last * L) (0 * L) L) (sym e) (whole_val last l)))
  where
    go : (x : Float) → finite (add binary64 (decimal 60 0) x) ≡ true → finite x ≡ true
    go nan h = absurd (true≢false (sym h))
    go (inf s) h = absurd (true≢false (sym h))
    go (fin s m k) h = refl

same_test : (t : UtcTime) (x : Float) (last : ℕ) → t.millis ≤ 999 → t.second < 256 → last ≤ 61 → add binary64 (decimal 60 0) x ≡ decimal last 0
    → time_in_day t.hour t.minute (decimal (1000 * t.second + t.millis) 3) x ≡ in_its_day t last
unfolding time_in_day second_limit in_its_day
same_test t x last h k l e =
    let c = eqb t.hour 23 && eqb t.minute 59 in
    rw (
      leap-finite x last l e,
      not_negative (1000 * t.second + t.millis),
      le-leb t.millis 999 h,
      limit_is c x last e,
      second-test t.second t.millis (cond c last 60) h k (limit_small c last l),
    )

-- ---- a date that is refused has no next
date-first : (y m d : ℤ) (i : ℕ) → valid_date y m d ≡ refusal i → next_of y m d ≡ refusal i
unfolding next_of onward
date-first y m d i q = rw q

same_number : {A : Type 0} {i j : ℕ} → ◌≡◌ {A = Outcome A} (refusal i) (refusal j) → i ≡ j
same_number e = cc

-- ---- 4 where the time is not in the day
abbrev to_verdict : Bool → Outcome Unit
to_verdict b = cond b (answer tt) (refusal 4)

time-verdict : (midnight : JulianDate) (hour minute : ℕ) (s x : Float)
    → fault_of (From.midnight_plus midnight (day_fraction hour minute s x)) ≡ to_verdict (time_in_day hour minute s x)
unfolding onward From.midnight_plus day_fraction
time-verdict midnight hour minute s x = go (time_in_day hour minute s x) refl
  where
    go : (b : Bool) → time_in_day hour minute s x ≡ b → fault_of (From.midnight_plus midnight (day_fraction hour minute s x)) ≡ to_verdict b
    go true q = rw q
    go false q = rw q

-- ---- the leap in whole seconds: TAI-UTC stays, or steps by one up or down
data Step (k k' : ℕ) : Type 0 where
  stays : k' ≡ k → Step k k'
  up : k' ≡ suc k → Step k k'
  down : k ≡ suc k' → Step k k'

sixty : add binary64 (decimal 60 0) nought ≡ decimal 60 0
unfolding add round
sixty = refl

sixty-one : add binary64 (decimal 60 0) one ≡ decimal 61 0
unfolding add round
sixty-one = refl

fifty_nine : add binary64 (decimal 60 0) minus_one_f ≡ decimal 59 0
unfolding add round of_bits
fifty_nine = refl

module _ (table : AnnouncedRows) (rows : List Row) (taken : table_of table ≡ answer rows) where
  abbrev K : ℕ → ℕ
  K n = seconds_in rows n

  step_of : (n : ℕ) → 23664 ≤ n → (b : Bool) → Step (K n) (K (cond b n (suc n)))
  step_of n h true = stays refl
  step_of n h false = go (member (suc n) (starts rows)) refl
    where
      by : (K (suc n) ≡ K n + 1) ⊎ (K n ≡ K (suc n) + 1) → Step (K n) (K (suc n))
      by (inl e) = up (omega (arith, e))
      by (inr e) = down (omega (arith, e))

      go : (b : Bool) → member (suc n) (starts rows) ≡ b → Step (K n) (K (suc n))
      go true e = by (seconds-step table rows taken n h e)
      go false e = stays (seconds-stay table rows taken n h e)

  minute-ends : (n n' : ℕ) (h : 23664 ≤ n) (h' : 23664 ≤ n') (j : ℤ) → Step (K n) (K n')
      → add binary64 (decimal 60 0) (leap_of (offsets_of_day rows n n' j)) ≡ decimal (60 + K n' - K n) 0
  minute-ends n n' h h' j (stays e) =
      ap (add binary64 (decimal 60 0)) (no_step table rows taken n n' h h' j e).0 ∙ sixty ∙ ap (λ (k : ℕ). decimal k 0) (same (K n) (K n') e)
    where
      same : (k k' : ℕ) → k' ≡ k → 60 ≡ 60 + k' - k
      same k k' e = omega arith
  minute-ends n n' h h' j (up e) =
      ap (add binary64 (decimal 60 0)) (one-second-more table rows taken n n' h h' j e).0 ∙ sixty-one ∙ ap (λ (k : ℕ). decimal k 0) (more (K n) (K n') e)
    where
      more : (k k' : ℕ) → k' ≡ suc k → 61 ≡ 60 + k' - k
      more k k' e = omega arith
  minute-ends n n' h h' j (down e) =
      ap (add binary64 (decimal 60 0)) (one-second-less table rows taken n n' h h' j e).0 ∙ fifty_nine ∙ ap (λ (k : ℕ). decimal k 0) (less (K n) (K n') e)
    where
      less : (k k' : ℕ) → k ≡ suc k' → 59 ≡ 60 + k' - k
      less k k' e = omega arith

  short_minute : (k k' : ℕ) → Step k k' → 60 + k' - k ≤ 61
  short_minute k k' (stays e) = omega arith
  short_minute k k' (up e) = omega arith
  short_minute k k' (down e) = omega arith

  pub whole_here : (y : ℤ) (m : ℕ) → lt_z y (pos 1972) ≡ false → 1 ≤ m → m ≤ 12 → whole_seconds rows y m ≡ K (month_number y m)
  unfolding whole_seconds
  whole_here y m p g h = rw (p, le-ltb m 1 g, le-ltb 12 m h)

  month-after : (y : ℤ) (m d : ℤ) (s : CalendarDate) → lt_z y (pos 1972) ≡ false → next_of y m d ≡ answer s → (b : Bool)
      × (month_number s.year s.month ≡ cond b (month_number y (nat_abs m)) (suc (month_number y (nat_abs m))))
  unfolding month_number
  month-after (pos y) m d s p e = (ltb (nat_abs d) (month_length (pos y) (nat_abs m)), next-month-number y m d s e)
  month-after (negsuc y) m d s p e = absurd (true≢false p)

  -- ---- on a date
  module _ (t : UtcTime) (p : lt_z t.year (pos 1972) ≡ false) (h : t.millis ≤ 999) (k : t.second < 256) where
    abbrev y : ℤ
    y = t.year

    abbrev m : ℕ
    m = t.month

    abbrev d : ℕ
    d = t.day

    abbrev second : Float
    second = decimal (1000 * t.second + t.millis) 3

    -- the test of the time is the same
    module _ (s : CalendarDate) (e : next_of y (pos m) (pos d) ≡ answer s) where
      abbrev n : ℕ
      n = month_number y m

      abbrev n' : ℕ
      n' = month_number s.year s.month

      late-here : 23664 ≤ n
      late-here = late y m p (date-accepted y (pos m) (pos d) (next-is y (pos m) (pos d) s e).0).m_low

      year-after : lt_z s.year (pos 1972) ≡ false
      year-after = next-from t p s e

      late-after : 23664 ≤ n'
      late-after = late s.year s.month year-after (next-in-calendar y (pos m) (pos d) s e).m_low

      a-step : Step (K n) (K n')
      a-step = let b = month-after y (pos m) (pos d) s p e in subst (λ (x : ℕ). Step (K n) (K x)) (sym b.1) (step_of n late-here b.0)

      minute_is : last_minute rows t s ≡ 60 + K n' - K n
      unfolding last_minute
      minute_is =
          let a = date-accepted y (pos m) (pos d) (next-is y (pos m) (pos d) s e).0 in
          let c = next-in-calendar y (pos m) (pos d) s e in
          let u = whole_here y m p a.m_low a.m_high in
          let v = whole_here s.year s.month year-after c.m_low c.m_high in
          λ i. 60 + v i - u i

      time-same : time_in_day t.hour t.minute second (leap_of (offsets_of_day rows n n' (mjd_number y (pos m) (pos d)))) ≡ in_its_day t (last_minute rows t s)
      time-same =
          same_test t (leap_of (offsets_of_day rows n n' (mjd_number y (pos m) (pos d)))) (60 + K n' - K n) h k (short_minute (K n) (K n') a-step)
          (minute-ends n n' late-here late-after (mjd_number y (pos m) (pos d)) a-step)
          ∙ ap (in_its_day t) (sym minute_is)

      by_calendar : fault_of (as_calendar rows t) ≡ to_verdict (in_its_day t (last_minute rows t s))
      by_calendar =
          ap fault_of (on-date rows y m d t.hour t.minute second (next-is y (pos m) (pos d) s e).0
          (leap_of (offsets_of_day rows n n' (mjd_number y (pos m) (pos d)))) (leap-given rows y (pos m) (pos d) s e))
          ∙ time-verdict _ t.hour t.minute second (leap_of (offsets_of_day rows n n' (mjd_number y (pos m) (pos d))))
          ∙ ap to_verdict time-same

      by-bill : fault_of (instant rows t) ≡ to_verdict (in_its_day t (last_minute rows t s))
      unfolding onward instant_on
      by-bill = ap fault_of (sym (Given.on-date rows t p s e)) ∙ go (in_its_day t (last_minute rows t s))
        where
          go : (b : Bool) → fault_of (cond b (answer (tai_ms rows t)) (refusal 4)) ≡ to_verdict b
          go true = refl
          go false = refl

    -- a date that is refused, or has no next
    module _ (j : ℕ) (e : next_of y (pos m) (pos d) ≡ refusal j) where
      no_leap : leap_at_end_of_day rows y (pos m) (pos d) ≡ refusal j
      unfolding leap_at_end_of_day onward
      no_leap = rw (day-offsets-are rows y (pos m) (pos d), e)

      no_calendar : as_calendar rows t ≡ refusal j
      no_calendar = go (valid_date y (pos m) (pos d)) refl
        where
          go : (o : Outcome Unit) → valid_date y (pos m) (pos d) ≡ o → as_calendar rows t ≡ refusal j
          go (answer x) q = leap-refused rows y m d t.hour t.minute second q j no_leap
          go (refusal i) q = date_refused rows y m d t.hour t.minute second i q ∙ ap refusal (same_number (sym (date-first y (pos m) (pos d) i q) ∙ e))

    -- THE LAW
    pub faults-are-calendars : fault_of (instant rows t) ≡ fault_of (as_calendar rows t)
    unfolding onward
    faults-are-calendars = go (next_of y (pos m) (pos d)) refl
      where
        go : (o : Outcome CalendarDate) → next_of y (pos m) (pos d) ≡ o → fault_of (instant rows t) ≡ fault_of (as_calendar rows t)
        go (answer s) e = by-bill s e ∙ sym (by_calendar s e)
        go (refusal j) e = ap fault_of (sym (Given.no_next rows t p j e)) ∙ sym (ap fault_of (no_calendar j e))
