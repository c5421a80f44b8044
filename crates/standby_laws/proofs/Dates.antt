-- The order of dates from 1972 on: a later day has a later date, year before month before day. Assumes nothing.
use mathlib.Core.Path.{◌≡◌, refl, ap, sym, subst, ◌∙◌}
use mathlib.Core.Bool.{Bool, true, false, true≢false, cond}
use mathlib.Core.List.{List, ◌∷◌}
use Prim.Native.Nat.{ℕ, zero, suc, ◌+◌, ◌-◌, ◌*◌, ◌≤◌, ◌<◌}
use native.Mathlib.Omega.{arith}
use lib.Dec.{ltb, eqb}
use lib.IntN.{ℤ, pos, negsuc, nat_abs, sub_ℕ, suc_ℤ}
use lib.Signed.{lt_z}
use borrow.Author.Tests.{ltb-true, ltb-false, lt-ltb, le-ltb, eqb-true, eqb-false, eq-eqb}
use Rattle.refusals.specs.Outcome.{answer}
use Rattle.calendar.specs.declared.CalendarDate.{CalendarDate}
use Rattle.calendar.specs.Calendar.{date, date_at, next, leap_year, month_length}
use Rattle.calendar.specs.Refusals.{valid_date}
use Rattle.calendar.specs.DayCount.{mjd_number}
use Rattle.calendar.specs.InCalendar.{InCalendar}
use Rattle.calendar.proofs.Accepted.{short}
use Rattle.calendar.proofs.Days.{after, date-at-in-calendar}
use Rattle.calendar.proofs.Years.{years_later}
use Rattle.calendar.proofs.Mjd.{day-of-date}
use Rattle.standby.proofs.Times.{mjd-natural}
use Rattle.standby.proofs.Elapsed.{year-later}
use Rattle.standby_laws.specs.Fields.{less_by}

-- ---- a date as one number, month and day in places of 13 and 32
abbrev pub key : ℕ → ℕ → ℕ → ℕ
key y m d = 416 * y + 32 * m + d

abbrev key_of : CalendarDate → ℕ
key_of t = key (nat_abs t.year) t.month t.day

abbrev From : ℤ → Type 0
From z = lt_z z (pos 1972) ≡ false

one-year : (z : ℤ) → From z → nat_abs (suc_ℤ z) ≡ nat_abs z + 1
one-year (pos n) e = omega arith
one-year (negsuc n) e = absurd (true≢false e)

next-rises : (t : CalendarDate) → InCalendar t → From t.year → key_of t < key_of (next t)
unfolding next
next-rises t c p = go (ltb t.day (month_length t.year t.month)) (ltb t.month 12) refl
  where
    few : t.day ≤ 31
    few = omega (arith, c.d_high, short (leap_year t.year) t.month c.m_low c.m_high)

    go : (a b : Bool) → ltb t.month 12 ≡ b
        → key_of t < key_of (cond a (date t.year t.month (t.day + 1)) (cond b (date t.year (t.month + 1) 1) (date (suc_ℤ t.year) 1 1)))
    go true b e = omega arith
    go false true e = omega (arith, few)
    go false false e = omega (arith, few, one-year t.year p, c.m_high)

step : (k : ℕ) → From (date_at k).year → key_of (date_at k) < key_of (date_at (suc k))
step k p = subst (λ (t : CalendarDate). key_of (date_at k) < key_of t) (sym (after k)) (next-rises (date_at k) (date-at-in-calendar k) p)

pub smaller : (a b : ℕ) → (a ≡ b → ⊥) → a ≤ b → a < b
smaller a b n l = pick (ltb a b) refl
  where
    pick : (t : Bool) → ltb a b ≡ t → a < b
    pick true q = ltb-true a b q
    pick false q = absurd (n (omega (arith, ltb-false a b q)))

rises : (k j : ℕ) → j < k → From (date_at j).year → key_of (date_at j) < key_of (date_at k)
rises zero j h p = absurd (omega arith)
rises (suc k) j h p = go (eqb j k) refl (λ l. rises k j l p)
  where
    go : (b : Bool) → eqb j k ≡ b → (j < k → key_of (date_at j) < key_of (date_at k)) → key_of (date_at j) < key_of (date_at (suc k))
    go true e more = subst (λ (i : ℕ). key_of (date_at j) < key_of (date_at (suc i))) (eqb-true j k e) (step j p)
    go false e more =
        let l : j < k = smaller j k (eqb-false j k e) (omega arith) in
        omega (arith, more l, step k (years_later From year-later j k (omega (arith, l)) p))

-- ---- by the Modified Julian Date
abbrev pub mjd : ℤ → ℕ → ℕ → ℕ
mjd y m d = nat_abs (mjd_number y (pos m) (pos d))

unsub : (k c n : ℕ) → sub_ℕ k c ≡ pos n → k ≡ n + c
unsub k c n e = go (ltb k c) refl e
  where
    go : (b : Bool) → ltb k c ≡ b → cond b (negsuc (c - suc k)) (pos (k - c)) ≡ pos n → k ≡ n + c
    go true p q = let z : ◌≡◌ {A = ℕ} 0 1 = cc in absurd (omega arith)
    go false p q = omega (arith, ltb-false k c p, ap nat_abs q)

module _ (y : ℤ) (m d : ℕ) (p : From y) (v : valid_date y (pos m) (pos d) ≡ answer tt) where
  day_is : date_at (mjd y m d + 2578142) ≡ date y m d
  day_is =
      let k = day-of-date y (pos m) (pos d) v in
      ap date_at (sym (unsub k.0 2578142 (mjd y m d) (sym k.1 ∙ mjd-natural y (pos m) (pos d) p))) ∙ k.2

module _ (y : ℤ) (m d : ℕ) (p : From y) (v : valid_date y (pos m) (pos d) ≡ answer tt) (y' : ℤ) (m' d' : ℕ) (p' : From y')
    (v' : valid_date y' (pos m') (pos d') ≡ answer tt) where
  pub earlier-day : mjd y m d < mjd y' m' d' → key (nat_abs y) m d < key (nat_abs y') m' d'
  earlier-day h =
      let a = day_is y m d p v in
      let b = day_is y' m' d' p' v' in
      subst (λ (t : CalendarDate). key_of t < key (nat_abs y') m' d') a
      (subst (λ (t : CalendarDate). key_of (date_at (mjd y m d + 2578142)) < key_of t) b
      (rises (mjd y' m' d' + 2578142) (mjd y m d + 2578142) (omega arith) (subst (λ (t : CalendarDate). From t.year) (sym a) p)))

  pub same-date : mjd y m d ≡ mjd y' m' d' → date y m d ≡ date y' m' d'
  same-date e = sym (day_is y m d p v) ∙ ap (λ (k : ℕ). date_at (k + 2578142)) e ∙ day_is y' m' d' p' v'

-- ---- year before month before day
module _ (y m d y' m' d' : ℕ) (r r' : List ℕ) (hm : m ≤ 12) (hd : d ≤ 31) (hm' : m' ≤ 12) (hd' : d' ≤ 31) where
  pub date-less : key y m d < key y' m' d' → less_by (y ∷ m ∷ d ∷ r) (y' ∷ m' ∷ d' ∷ r') ≡ true
  date-less h = go (eqb y y') refl (eqb m m') refl (eqb d d') refl
    where
      go : (a : Bool) → eqb y y' ≡ a → (b : Bool) → eqb m m' ≡ b → (c : Bool) → eqb d d' ≡ c
          → cond a (cond b (cond c (less_by r r') (ltb d d')) (ltb m m')) (ltb y y') ≡ true
      go false e b f c g = lt-ltb y y' (smaller y y' (eqb-false y y' e) (omega arith))
      go true e false f c g = lt-ltb m m' (smaller m m' (eqb-false m m' f) (omega (arith, eqb-true y y' e)))
      go true e true f false g = lt-ltb d d' (omega (arith, eqb-true y y' e, eqb-true m m' f))
      go true e true f true g = absurd (omega (arith, eqb-true y y' e, eqb-true m m' f, eqb-true d d' g))

  pub date-more : key y' m' d' < key y m d → less_by (y ∷ m ∷ d ∷ r) (y' ∷ m' ∷ d' ∷ r') ≡ false
  date-more h = go (eqb y y') refl (eqb m m') refl (eqb d d') refl
    where
      go : (a : Bool) → eqb y y' ≡ a → (b : Bool) → eqb m m' ≡ b → (c : Bool) → eqb d d' ≡ c
          → cond a (cond b (cond c (less_by r r') (ltb d d')) (ltb m m')) (ltb y y') ≡ false
      go false e b f c g = le-ltb y y' (omega arith)
      go true e false f c g = le-ltb m m' (omega (arith, eqb-true y y' e))
      go true e true f false g = le-ltb d d' (omega (arith, eqb-true y y' e, eqb-true m m' f))
      go true e true f true g = absurd (omega (arith, eqb-true y y' e, eqb-true m m' f, eqb-true d d' g))

pub date-level : (y m d : ℕ) (r r' : List ℕ) → less_by (y ∷ m ∷ d ∷ r) (y ∷ m ∷ d ∷ r') ≡ less_by r r'
date-level y m d r r' = rw (eq-eqb y y refl, eq-eqb m m refl, eq-eqb d d refl)
