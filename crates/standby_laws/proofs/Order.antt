-- 26 IS OF INSTANTS: for times that are not refused the order of the exact TAI is that of the seven fields, leap seconds and those left out among them, so the
-- end is before the start exactly where its fields are. Assumes nothing.
use mathlib.Core.Path.{◌≡◌, refl, ap, sym, ◌∙◌}
use mathlib.Core.Bool.{Bool, true, false, true≢false, cond, ◌&&◌}
use mathlib.Core.List.{List, [], ◌∷◌}
use Prim.Native.Nat.{ℕ, ◌+◌, ◌*◌, ◌≤◌, ◌<◌}
use native.Mathlib.Omega.{arith}
use lib.Dec.{ltb, leb, eqb}
use lib.IntN.{pos, nat_abs}
use lib.Signed.{lt_z}
use borrow.Author.Tests.{ltb-true, ltb-false, lt-ltb, le-ltb, leb-true, eqb-true, eqb-false}
use Rattle.refusals.specs.Outcome.{answer, refusal}
use Rattle.calendar.specs.declared.CalendarDate.{CalendarDate}
use Rattle.calendar.specs.Calendar.{leap_year}
use Rattle.calendar.specs.Refusals.{valid_date, next_of}
use Rattle.calendar.proofs.Accepted.{Accepted, date-accepted, short}
use Rattle.calendar.proofs.Mjd.{same_answer}
use Rattle.calendar.proofs.NextDates.{next-is, next-in-calendar, next-accepted}
use Rattle.leap_table.specs.declared.rows.AnnouncedRows.{AnnouncedRows}
use Rattle.leap_table.specs.rows.Table.{Row, most_seconds}
use Rattle.leap_table.specs.rows.Announced.{table_of}
use Rattle.leap_table.specs.offsets.WholeSeconds.{whole_seconds}
use Rattle.standby.specs.declared.UtcTime.{UtcTime}
use Rattle.standby.specs.Times.{offset_on_date, offset_after, last_minute, in_its_day, time_seconds, mjd_day, tai_ms, instant}
use Rattle.standby.proofs.Times.{offset-small}
use Rattle.standby.proofs.Elapsed.{next-from, day-after}
use Rattle.standby_laws.specs.Decisions.{TimeDecision, early, no_day, no_time, given}
use Rattle.standby_laws.specs.Fields.{seven_fields, less_by}
use Rattle.standby_laws.proofs.Decided.{time-decided}
use Rattle.standby_laws.proofs.Dates.{key, mjd, smaller, earlier-day, same-date, date-less, date-more, date-level}

-- ---- a time of a day whose last minute has `last` seconds
pub record InDay (t : UtcTime) (last : ℕ) : Type 0 where
  hours : t.hour ≤ 23
  minutes : t.minute ≤ 59
  milliseconds : t.millis ≤ 999
  by-hour : t.hour < 23 → t.second ≤ 59
  by-minute : t.minute < 59 → t.second ≤ 59
  ends : 3600 * t.hour + 60 * t.minute + t.second < 86340 + last

in-day : (t : UtcTime) (last : ℕ) → in_its_day t last ≡ true → InDay t last
unfolding in_its_day
in-day t last e = go (leb t.hour 23) refl (leb t.minute 59) refl (leb t.millis 999) refl (eqb t.hour 23) refl (eqb t.minute 59) refl e
  where
    go : (a : Bool) → leb t.hour 23 ≡ a → (b : Bool) → leb t.minute 59 ≡ b → (c : Bool) → leb t.millis 999 ≡ c → (f : Bool) → eqb t.hour 23 ≡ f
        → (g : Bool) → eqb t.minute 59 ≡ g
        → (a && b) && (c && ltb t.second (cond (f && g) last 60)) ≡ true → InDay t last
    go true pa true pb true pc true pf true pg q =
        let h = eqb-true t.hour 23 pf in
        let n = eqb-true t.minute 59 pg in
        let s = ltb-true t.second last q in
        record {
          hours = leb-true t.hour 23 pa;
          minutes = leb-true t.minute 59 pb;
          milliseconds = leb-true t.millis 999 pc;
          by-hour = λ l. absurd (omega (arith, l, h));
          by-minute = λ l. absurd (omega (arith, l, n));
          ends = omega (arith, h, n, s);
        }
    go true pa true pb true pc true pf false pg q =
        let h = leb-true t.hour 23 pa in
        let n = smaller t.minute 59 (eqb-false t.minute 59 pg) (leb-true t.minute 59 pb) in
        let s = ltb-true t.second 60 q in
        record {
          hours = h;
          minutes = omega (arith, n);
          milliseconds = leb-true t.millis 999 pc;
          by-hour = λ l. omega (arith, s);
          by-minute =
              λ l. omega (arith, s);
          ends = omega (arith, h, n, s);
        }
    go true pa true pb true pc false pf g pg q =
        let h = smaller t.hour 23 (eqb-false t.hour 23 pf) (leb-true t.hour 23 pa) in
        let n = leb-true t.minute 59 pb in
        let s = ltb-true t.second 60 q in
        record {
          hours = omega (arith, h);
          minutes = n;
          milliseconds = leb-true t.millis 999 pc;
          by-hour = λ l. omega (arith, s);
          by-minute =
              λ l. omega (arith, s);
          ends = omega (arith, h, n, s);
        }
    go true pa true pb false pc f pf g pg q = absurd (true≢false (sym q))
    go true pa false pb c pc f pf g pg q = absurd (true≢false (sym q))
    go false pa b pb c pc f pf g pg q = absurd (true≢false (sym q))

-- ---- the order of two times of a day, hour before minute before second before millisecond
abbrev in_millis : UtcTime → ℕ
in_millis t = 1000 * (3600 * t.hour + 60 * t.minute + t.second) + t.millis

abbrev clock : UtcTime → List ℕ
clock t = t.hour ∷ t.minute ∷ t.second ∷ t.millis ∷ []

time-order : (a b : UtcTime) (la lb : ℕ) → InDay a la → InDay b lb → less_by (clock a) (clock b) ≡ ltb (in_millis a) (in_millis b)
time-order a b la lb p q = go (eqb a.hour b.hour) refl (eqb a.minute b.minute) refl (eqb a.second b.second) refl
    (eqb a.millis b.millis) refl
  where
    test : (x y : ℕ) → (x ≡ y → ⊥) → (x < y → in_millis a < in_millis b) → (y < x → in_millis b ≤ in_millis a) → ltb x y ≡ ltb (in_millis a) (in_millis b)
    test x y n less more = pick (ltb x y) refl
      where
        pick : (t : Bool) → ltb x y ≡ t → t ≡ ltb (in_millis a) (in_millis b)
        pick true e = sym (lt-ltb (in_millis a) (in_millis b) (less (ltb-true x y e)))
        pick false e = sym (le-ltb (in_millis a) (in_millis b) (more (smaller y x (λ z. n (sym z)) (ltb-false x y e))))

    go : (c : Bool) → eqb a.hour b.hour ≡ c → (d : Bool) → eqb a.minute b.minute ≡ d → (e : Bool) → eqb a.second b.second ≡ e → (f : Bool)
        → eqb a.millis b.millis ≡ f
        → cond c (cond d (cond e (cond f false (ltb a.millis b.millis)) (ltb a.second b.second)) (ltb a.minute b.minute))
        (ltb a.hour b.hour) ≡ ltb (in_millis a) (in_millis b)
    go false ph d pm e ps f pf =
        test a.hour b.hour (eqb-false a.hour b.hour ph)
        (λ l. omega (arith, l, p.by-hour (omega (arith, l, q.hours)), p.minutes, p.milliseconds))
        (λ l. omega (arith, l, q.by-hour (omega (arith, l, p.hours)), q.minutes, q.milliseconds))
    go true ph false pm e ps f pf =
        let h = eqb-true a.hour b.hour ph in
        test a.minute b.minute (eqb-false a.minute b.minute pm)
        (λ l. omega (arith, h, l, p.by-minute (omega (arith, l, q.minutes)), p.milliseconds))
        (λ l. omega (arith, h, l, q.by-minute (omega (arith, l, p.minutes)), q.milliseconds))
    go true ph true pm false ps f pf =
        let h = eqb-true a.hour b.hour ph in
        let m = eqb-true a.minute b.minute pm in
        test a.second b.second (eqb-false a.second b.second ps) (λ l. omega (arith, h, m, l, p.milliseconds))
        (λ l. omega (arith, h, m, l, q.milliseconds))
    go true ph true pm true ps false pf =
        let h = eqb-true a.hour b.hour ph in
        let m = eqb-true a.minute b.minute pm in
        let s = eqb-true a.second b.second ps in
        test a.millis b.millis (eqb-false a.millis b.millis pf) (λ l. omega (arith, h, m, s, l)) (λ l. omega (arith, h, m, s, l))
    go true ph true pm true ps true pf =
        let h = eqb-true a.hour b.hour ph in
        let m = eqb-true a.minute b.minute pm in
        let s = eqb-true a.second b.second ps in
        sym (le-ltb (in_millis a) (in_millis b) (omega (arith, h, m, s, eqb-true a.millis b.millis pf)))

-- ---- two times that are not refused
module _ (table : AnnouncedRows) (rows : List Row) (taken : table_of table ≡ answer rows) where
  -- what is known of one
  pub record Known (t : UtcTime) : Type 0 where
    pub from : lt_z t.year (pos 1972) ≡ false
    pub after : CalendarDate
    pub has_next : next_of t.year (pos t.month) (pos t.day) ≡ answer after
    pub time : InDay t (last_minute rows t after)
    pub is : instant rows t ≡ answer (tai_ms rows t)

  pub known : (t : UtcTime) (s : ℕ) → instant rows t ≡ answer s → Known t
  known t s e = go (time-decided rows t)
    where
      no : (k : ℕ) → instant rows t ≡ refusal k → Known t
      no k p = let z : ◌≡◌ {A = ℕ} 0 1 = cc in absurd (omega arith)

      go : TimeDecision rows t → Known t
      go (early p q) = no 1 q
      go (no_day p k d q) = no k q
      go (no_time p d n i q) = no 4 q
      go (given p d n i q) = record { from = p; after = d; has_next = n; time = in-day t (last_minute rows t d) i; is = q }

  module _ (t : UtcTime) (k : Known t) where
    valid : valid_date t.year (pos t.month) (pos t.day) ≡ answer tt
    valid = (next-is t.year (pos t.month) (pos t.day) k.after k.has_next).0

    date-ok : Accepted t.year (pos t.month) (pos t.day)
    date-ok = date-accepted t.year (pos t.month) (pos t.day) valid

    few_days : t.day ≤ 31
    few_days = omega (arith, date-ok.d_high, short (leap_year t.year) t.month date-ok.m_low date-ok.m_high)

    offset-range : (10 ≤ offset_on_date rows t) × (offset_on_date rows t ≤ most_seconds)
    offset-range = offset-small table rows taken t.year t.month k.from date-ok.m_low date-ok.m_high

    -- the next date is from 1972 on too, and a day later
    from-after : lt_z k.after.year (pos 1972) ≡ false
    from-after = next-from t k.from k.after k.has_next

    after-range : (10 ≤ offset_after rows k.after) × (offset_after rows k.after ≤ most_seconds)
    after-range =
        let c = next-in-calendar t.year (pos t.month) (pos t.day) k.after k.has_next in
        offset-small table rows taken k.after.year k.after.month from-after c.m_low c.m_high

    valid_after : valid_date k.after.year (pos k.after.month) (pos k.after.day) ≡ answer tt
    valid_after = next-accepted t.year (pos t.month) (pos t.day) k.after k.has_next

    a-day-on : mjd k.after.year k.after.month k.after.day ≡ mjd_day t + 1
    a-day-on = day-after t k.from k.after k.has_next

    -- the time ends before the next midnight in TAI
    before-midnight : time_seconds t + offset_on_date rows t < 86400 + offset_after rows k.after
    unfolding time_seconds last_minute
    before-midnight = omega (arith, k.time.ends, offset-range.0, offset-range.1, after-range.0, after-range.1)

  module _ (a b : UtcTime) (p : Known a) (q : Known b) where
    -- an earlier day, an earlier instant
    days-apart : mjd_day a < mjd_day b → tai_ms rows a < tai_ms rows b
    unfolding tai_ms
    days-apart h = go (eqb (mjd_day a + 1) (mjd_day b)) refl
      where
        next-day : mjd_day a + 1 ≡ mjd_day b → offset_after rows p.after ≡ offset_on_date rows b
        next-day e =
            let s = same-date p.after.year p.after.month p.after.day (from-after a p) (valid_after a p) b.year b.month b.day q.from
            (valid b q) (a-day-on a p ∙ e) in
            ap (λ (x : CalendarDate). whole_seconds rows x.year x.month) s

        go : (t : Bool) → eqb (mjd_day a + 1) (mjd_day b) ≡ t
            → 1000 * (86400 * mjd_day a + time_seconds a + offset_on_date rows a) + a.millis < 1000 *
            (86400 * mjd_day b + time_seconds b + offset_on_date rows b) +
            b.millis
        go true e = omega (
          arith,
          eqb-true (mjd_day a + 1) (mjd_day b) e,
          next-day (eqb-true (mjd_day a + 1) (mjd_day b) e),
          before-midnight a p,
          p.time.milliseconds,
        )
        go false e =
            omega (
              arith,
              smaller (mjd_day a + 1) (mjd_day b) (eqb-false (mjd_day a + 1) (mjd_day b) e) (omega arith),
              before-midnight a p,
              p.time.milliseconds,
              (after-range a p).1,
              (offset-range b q).0,
            )

  module _ (a b : UtcTime) (p : Known a) (q : Known b) where
    keys : mjd_day a < mjd_day b → key (nat_abs a.year) a.month a.day < key (nat_abs b.year) b.month b.day
    keys h = earlier-day a.year a.month a.day p.from (valid a p) b.year b.month b.day q.from (valid b q) h

  abbrev Order : UtcTime → UtcTime → Type 0
  Order a b = less_by (seven_fields a) (seven_fields b) ≡ ltb (tai_ms rows a) (tai_ms rows b)

  on-one-day : (a b : UtcTime) → Known a → Known b → mjd_day a ≡ mjd_day b → Order a b
  unfolding tai_ms time_seconds
  on-one-day a b p q e =
      let s = same-date a.year a.month a.day p.from (valid a p) b.year b.month b.day q.from (valid b q) e in
      let o : offset_on_date rows a ≡ offset_on_date rows b = ap (λ (x : CalendarDate). whole_seconds rows x.year x.month) s in
      ap (λ (x : CalendarDate). less_by (nat_abs x.year ∷ x.month ∷ x.day ∷ clock a) (seven_fields b)) s
      ∙ date-level (nat_abs b.year) b.month b.day (clock a) (clock b)
      ∙ time-order a b (last_minute rows a p.after) (last_minute rows b q.after) p.time q.time
      ∙ shifted (in_millis a) (in_millis b) (1000 * (86400 * mjd_day a + offset_on_date rows a)) (tai_ms rows a) (tai_ms rows b) (omega arith)
      (omega (arith, e, o))
    where
      shifted : (x y c u v : ℕ) → u ≡ c + x → v ≡ c + y → ltb x y ≡ ltb u v
      shifted x y c u v eu ev = go (ltb x y) refl
        where
          go : (t : Bool) → ltb x y ≡ t → t ≡ ltb u v
          go true l = sym (lt-ltb u v (omega (arith, ltb-true x y l)))
          go false l = sym (le-ltb u v (omega (arith, ltb-false x y l)))

  ordered : (a b : UtcTime) → Known a → Known b → Order a b
  ordered a b p q = go (ltb (mjd_day a) (mjd_day b)) refl (ltb (mjd_day b) (mjd_day a)) refl
    where
      go : (t : Bool) → ltb (mjd_day a) (mjd_day b) ≡ t → (u : Bool) → ltb (mjd_day b) (mjd_day a) ≡ u → Order a b
      go true e u f =
          let h = ltb-true (mjd_day a) (mjd_day b) e in
          date-less (nat_abs a.year) a.month a.day (nat_abs b.year) b.month b.day (clock a) (clock b) (date-ok a p).m_high (few_days a p)
          (date-ok b q).m_high (few_days b q) (keys a b p q h)
          ∙ sym (lt-ltb (tai_ms rows a) (tai_ms rows b) (days-apart a b p q h))
      go false e true f =
          let h = ltb-true (mjd_day b) (mjd_day a) f in
          date-more (nat_abs a.year) a.month a.day (nat_abs b.year) b.month b.day (clock a) (clock b) (date-ok a p).m_high (few_days a p)
          (date-ok b q).m_high (few_days b q) (keys b a q p h)
          ∙ sym (le-ltb (tai_ms rows a) (tai_ms rows b) (omega (arith, days-apart b a q p h)))
      go false e false f = on-one-day a b p q (omega (arith, ltb-false (mjd_day a) (mjd_day b) e, ltb-false (mjd_day b) (mjd_day a) f))

  -- THE LAW: of two times that are taken, the one whose fields are first is the one whose exact TAI is first
  pub order-of-fields : (a b : UtcTime) (s e : ℕ) → instant rows a ≡ answer s → instant rows b ≡ answer e → less_by (seven_fields a) (seven_fields b) ≡ ltb s e
  order-of-fields a b s e u v =
      let p = known a s u in
      let q = known b e v in
      ordered a b p q ∙ (λ i. ltb (same_answer (sym p.is ∙ u) i) (same_answer (sym q.is ∙ v) i))
