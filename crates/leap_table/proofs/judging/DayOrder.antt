-- EARLIER MEANS AN EARLIER DAY: of two good dates one is earlier exactly where its Modified Julian Date is smaller. Assumes nothing.
use Rattle.std.proofs.Common.{◌≡◌, ℕ, zero, suc, ◌+◌, ◌-◌, ◌*◌, ◌<◌, ◌≤◌, Bool, true, false, cond, ltb, ℤ, pos, negsuc, ◌+ℤ◌, ◌-ℤ◌, nat_abs, sym, refl, ap, ◌∙◌}
use Rattle.std.proofs.Common.{subst, true≢false, arith, ltb-false, ltb-true, le-ltb, lt-ltb}
use native.Mathlib.Decide.{dec_lt}
use lib.IntN.{suc_ℤ}
use lib.Signed.{lt_z}
use Rattle.refusals.specs.Outcome.{answer}
use Rattle.calendar.specs.declared.CalendarDate.{CalendarDate}
use Rattle.calendar.specs.Calendar.{date, date_at, next, leap_year, month_length}
use Rattle.calendar.specs.DayCount.{mjd_number}
use Rattle.calendar.specs.InCalendar.{InCalendar}
use Rattle.calendar.proofs.Accepted.{Accepted, date-accepted, short}
use Rattle.calendar.proofs.Days.{after, date-at-in-calendar}
use Rattle.calendar.proofs.Years.{years_later, not_before}
use Rattle.calendar.proofs.Signs.{sub_at}
use Rattle.calendar.proofs.Mjd.{day-of-date}
use Rattle.leap_table.specs.declared.judging.Triple.{Triple}
use Rattle.leap_table.specs.judging.Judging.{earlier, valid_triple}

-- ---- a year from -4799 on, counted from there
abbrev From : ℤ → Type 0
From z = lt_z z (negsuc 4798) ≡ false

abbrev since : ℤ → ℕ
since z = nat_abs (z +ℤ pos 4799)

since-neg : (n : ℕ) → n ≤ 4798 → since (negsuc n) ≡ 4799 - suc n
since-neg n h = ap nat_abs (sub_at 4799 (suc n) (omega arith))

one-year : (z : ℤ) → From z → since (suc_ℤ z) ≡ since z + 1
one-year (pos n) e = omega arith
one-year (negsuc zero) e = refl
one-year (negsuc (suc n)) e = let h = ltb-false 4798 (suc n) e in omega (arith, h, since-neg n (omega (arith, h)), since-neg (suc n) h)

same_test : (a b c d : ℕ) → (a < b → c < d) → (b ≤ a → d ≤ c) → ltb a b ≡ ltb c d
same_test a b c d f g = go (ltb a b) refl
  where
    go : (t : Bool) → ltb a b ≡ t → ltb a b ≡ ltb c d
    go true e = e ∙ sym (lt-ltb c d (f (ltb-true a b e)))
    go false e = e ∙ sym (le-ltb c d (g (ltb-false a b e)))

years : (y z : ℤ) → From y → From z → lt_z y z ≡ ltb (since y) (since z)
years (pos a) (pos b) p q = same_test a b (a + 4799) (b + 4799) (λ h. omega arith) (λ h. omega arith)
years (pos a) (negsuc b) p q = sym (le-ltb (a + 4799) (since (negsuc b)) (omega (arith, since-neg b (ltb-false 4798 b q))))
years (negsuc a) (pos b) p q = sym (lt-ltb (since (negsuc a)) (b + 4799) (omega (arith, since-neg a (ltb-false 4798 a p))))
years (negsuc a) (negsuc b) p q =
    let h = ltb-false 4798 a p in
    let k = ltb-false 4798 b q in
    same_test b a (since (negsuc a)) (since (negsuc b)) (λ l. omega (arith, l, h, k, since-neg a h, since-neg b k))
    (λ l. omega (arith, l, h, k, since-neg a h, since-neg b k))

sizes : (m n : ℤ) → lt_z m (pos 1) ≡ false → lt_z n (pos 1) ≡ false → lt_z m n ≡ ltb (nat_abs m) (nat_abs n)
sizes (pos a) (pos b) p q = refl
sizes (negsuc a) n p q = absurd (true≢false p)
sizes (pos a) (negsuc b) p q = absurd (true≢false q)

-- ---- a date as one number, month and day in places of 13 and 32
abbrev place : ℕ → ℕ → ℕ → ℕ
place y m d = 416 * y + 32 * m + d

abbrev place_of : CalendarDate → ℕ
place_of t = place (since t.year) t.month t.day

next-rises : (t : CalendarDate) → InCalendar t → From t.year → place_of t < place_of (next t)
unfolding next
next-rises t c p = go (ltb t.day (month_length t.year t.month)) (ltb t.month 12)
  where
    few : t.day ≤ 31
    few = omega (arith, c.d_high, short (leap_year t.year) t.month c.m_low c.m_high)

    go : (a b : Bool) → place_of t < place_of
        (cond a (date t.year t.month (t.day + 1)) (cond b (date t.year (t.month + 1) 1) (date (suc_ℤ t.year) 1 1)))
    go true b = omega arith
    go false true = omega (arith, few)
    go false false = omega (arith, few, one-year t.year p, c.m_high)

rises : (k j : ℕ) → j < k → From (date_at j).year → place_of (date_at j) < place_of (date_at k)
rises zero j h p = absurd (omega arith)
rises (suc k) j h p = go (dec_lt j k) (λ l. rises k j l p)
  where
    step : (i : ℕ) → From (date_at i).year → place_of (date_at i) < place_of (date_at (suc i))
    step i q = subst (λ (t : CalendarDate). place_of (date_at i) < place_of t) (sym (after i)) (next-rises (date_at i) (date-at-in-calendar i) q)

    go : Dec (j < k) → (j < k → place_of (date_at j) < place_of (date_at k)) → place_of (date_at j) < place_of (date_at (suc k))
    go (yes l) more = omega (arith, more l, step k (years_later From (not_before 4798) j k (omega (arith, l)) p))
    go (no n) more =
        let e : j ≡ k = omega arith in
        subst (λ (i : ℕ). place_of (date_at j) < place_of (date_at (suc i))) e (step j p)

-- ---- the order by fields is that of the places
by-places : (y m d y' m' d' : ℕ) → m ≤ 12 → d ≤ 31 → m' ≤ 12 → d' ≤ 31
    → cond (ltb y y') true (cond (ltb y' y) false (cond (ltb m m') true (cond (ltb m' m) false (ltb d d')))) ≡ ltb (place y m d) (place y' m' d')
by-places y m d y' m' d' hm hd hm' hd' = go (ltb y y') refl (ltb y' y) refl (ltb m m') refl (ltb m' m) refl
  where
    go : (p : Bool) → ltb y y' ≡ p → (q : Bool) → ltb y' y ≡ q → (r : Bool) → ltb m m' ≡ r → (s : Bool) → ltb m' m ≡ s
        → cond p true (cond q false (cond r true (cond s false (ltb d d')))) ≡ ltb (place y m d) (place y' m' d')
    go true a q b r e s f = sym (lt-ltb (place y m d) (place y' m' d') (omega (arith, ltb-true y y' a)))
    go false a true b r e s f = sym (le-ltb (place y m d) (place y' m' d') (omega (arith, ltb-true y' y b)))
    go false a false b true e s f = sym (lt-ltb (place y m d) (place y' m' d') (omega (arith, ltb-false y y' a, ltb-false y' y b, ltb-true m m' e)))
    go false a false b false e true f = sym (le-ltb (place y m d) (place y' m' d') (omega (arith, ltb-false y y' a, ltb-false y' y b, ltb-true m' m f)))
    go false a false b false e false f =
        let u = ltb-false y y' a in
        let v = ltb-false y' y b in
        let w = ltb-false m m' e in
        let x = ltb-false m' m f in
        same_test d d' (place y m d) (place y' m' d') (λ h. omega (arith, h, u, v, w, x)) (λ h. omega (arith, h, u, v, w, x))

-- ---- a difference keeps the order
less_by : (c a b : ℕ) → lt_z (pos a -ℤ pos (suc c)) (pos b -ℤ pos (suc c)) ≡ ltb a b
less_by c a b = go (ltb a (suc c)) refl (ltb b (suc c)) refl
  where
    go : (p : Bool) → ltb a (suc c) ≡ p → (q : Bool) → ltb b (suc c) ≡ q
        → lt_z (cond p (negsuc (suc c - suc a)) (pos (a - suc c))) (cond q (negsuc (suc c - suc b)) (pos (b - suc c))) ≡ ltb a b
    go true e true f = same_test (suc c - suc b) (suc c - suc a) a b (λ h. omega (arith, h)) (λ h. omega (arith, h, ltb-true a (suc c) e, ltb-true b (suc c) f))
    go true e false f = sym (lt-ltb a b (omega (arith, ltb-true a (suc c) e, ltb-false b (suc c) f)))
    go false e true f = sym (le-ltb a b (omega (arith, ltb-false a (suc c) e, ltb-true b (suc c) f)))
    go false e false f = same_test (a - suc c) (b - suc c) a b (λ h. omega (arith, h)) (λ h. omega (arith, h, ltb-false a (suc c) e, ltb-false b (suc c) f))

module _ (a b : Triple) (p : valid_triple a ≡ answer tt) (q : valid_triple b ≡ answer tt) where
  good-a : Accepted a.year a.month a.day
  good-a = date-accepted a.year a.month a.day p

  good-b : Accepted b.year b.month b.day
  good-b = date-accepted b.year b.month b.day q

  by-fields : earlier a b ≡ ltb (place (since a.year) (nat_abs a.month) (nat_abs a.day)) (place (since b.year) (nat_abs b.month) (nat_abs b.day))
  unfolding earlier
  by-fields =
      let x = good-a in
      let y = good-b in
      let u = years a.year b.year x.year y.year in
      let v = years b.year a.year y.year x.year in
      let w = sizes a.month b.month x.m-sign y.m-sign in
      let z = sizes b.month a.month y.m-sign x.m-sign in
      let d = sizes a.day b.day x.d_sign y.d_sign in
      (λ i. cond (u i) true (cond (v i) false (cond (w i) true (cond (z i) false (d i)))))
      ∙ by-places (since a.year) (nat_abs a.month) (nat_abs a.day) (since b.year) (nat_abs b.month) (nat_abs b.day)
      x.m_high (omega (arith, x.d_high, short (leap_year a.year) (nat_abs a.month) x.m_low x.m_high))
      y.m_high (omega (arith, y.d_high, short (leap_year b.year) (nat_abs b.month) y.m_low y.m_high))

  pub earlier-by-day : earlier a b ≡ lt_z (mjd_number a.year a.month a.day) (mjd_number b.year b.month b.day)
  earlier-by-day =
      let (j, e, s) = day-of-date a.year a.month a.day p in
      let (k, f, t) = day-of-date b.year b.month b.day q in
      by-fields
      ∙ sym (λ i. ltb (place_of (s i)) (place_of (t i)))
      ∙ sym (days j k (subst (λ (x : CalendarDate). From x.year) (sym s) good-a.year)
      (subst (λ (x : CalendarDate). From x.year) (sym t) good-b.year))
      ∙ sym (less_by 2578141 j k)
      ∙ sym (λ i. lt_z (e i) (f i))
    where
      days : (j k : ℕ) → From (date_at j).year → From (date_at k).year → ltb j k ≡ ltb (place_of (date_at j)) (place_of (date_at k))
      days j k u v = same_test j k (place_of (date_at j)) (place_of (date_at k)) (λ h. rises k j h u) (λ h. back (dec_lt k j) h)
        where
          back : Dec (k < j) → k ≤ j → place_of (date_at k) ≤ place_of (date_at j)
          back (yes l) h = omega (arith, rises j k l v)
          back (no n) h =
              let e : k ≡ j = omega arith in
              let z : place_of (date_at k) ≡ place_of (date_at j) = ap (λ (i : ℕ). place_of (date_at i)) e in
              omega (arith, z)
