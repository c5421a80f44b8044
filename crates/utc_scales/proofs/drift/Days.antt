-- The dates of the days 1961-01-01 to 1971-12-31 by their numbers: the year, the next date, and the three offsets of TAI-UTC, each near its row's formula.
-- Assumes nothing.
use mathlib.Core.Path.{◌≡◌, refl, sym, ap, ◌∙◌, subst}
use mathlib.Core.Bool.{Bool, true, false}
use Prim.Native.Nat.{ℕ, suc, ◌+◌, ◌-◌, ◌≤◌}
use native.Mathlib.Omega.{arith}
use lib.Dec.{T, ltb}
use lib.IntN.{ℤ, pos, negsuc, suc_ℤ}
use lib.Signed.{lt_z}
use lib.Ieee.{Float, binary64, fits}
use borrow.Author.Tests.{le-ltb, ltb-false, ltb-true}
use Rattle.refusals.specs.Outcome.{answer, onward}
use Rattle.refusals.proofs.Onward.{went, came}
use Rattle.floats.specs.Whole.{nought, half}
use Rattle.calendar.specs.declared.CalendarDate.{CalendarDate}
use Rattle.calendar.specs.Calendar.{date, date_at, date_of, leap_size, lengths, days_in_month}
use Rattle.calendar.specs.Refusals.{valid_date, next_of, last_date}
use Rattle.calendar.specs.DayCount.{mjd_of, mjd_number, civil_count}
use Rattle.calendar.specs.Gregorian.{gregorian_date}
use Rattle.calendar.proofs.Signs.{sub_at}
use Rattle.calendar.proofs.Years.{years_later, valid_of, gregorian_valid, gregorian_in_range, before_last}
use Rattle.calendar.proofs.Mjd.{date-of-mjd, mjd-of-date, same_answer}
use Rattle.calendar.proofs.NextDates.{by, first-false}
use Rattle.leap_table.specs.rows.Table.{fixed, starts, reached, month_number, month_of}
use Rattle.leap_table.specs.offsets.Offset.{tai_utc_offset, row_at}
use Rattle.leap_table.specs.offsets.Leap.{offsets, day_offsets}
use Rattle.leap_table.specs.declared.offsets.DayOffsets.{DayOffsets}
use Rattle.leap_table.proofs.offsets.Days.{day-offsets-are}
use Rattle.leap_days.specs.Formula.{NearFormula}
use Rattle.leap_days.proofs.Formula.{drift-formula}
use Rattle.utc_scales.specs.days.Dates.{offsets_of}
use Rattle.julian.proofs.day_order.Once.{nought-fits, half-fits}
use Rattle.utc_scales.proofs.round_trip.DaySeconds.{date-of, next-date}
use Rattle.utc_scales.specs.drift.Drift.{row_on}

-- ---- the date of a day number
at_count : (n : ℕ) → date_of (pos n) ≡ date_at (n + 178141)
unfolding date_of
at_count n = refl

-- ---- 1961 to 1971
first-mjd : mjd_of (pos 1961) (pos 1) (pos 1) ≡ answer (pos 37300)
unfolding mjd_of mjd_number civil_count valid_date days_in_month lengths leap_size onward
first-mjd = refl

first-date : date_of (pos 2437301) ≡ date (pos 1961) 1 1
first-date = sym (date-of 2437301 (omega arith)) ∙ date-of-mjd (pos 1961) (pos 1) (pos 1) (pos 37300) first-mjd refl

last-mjd : mjd_of (pos 1971) (pos 12) (pos 31) ≡ answer (pos 41316)
unfolding mjd_of mjd_number civil_count valid_date days_in_month lengths leap_size onward
last-mjd = refl

last-date : date_of (pos 2441317) ≡ date (pos 1971) 12 31
last-date = sym (date-of 2441317 (omega arith)) ∙ date-of-mjd (pos 1971) (pos 12) (pos 31) (pos 41316) last-mjd refl

since : (q : ℕ) (z : ℤ) → lt_z z (pos q) ≡ false → lt_z (suc_ℤ z) (pos q) ≡ false
since q (pos n) e = le-ltb (suc n) q (omega (arith, ltb-false n q e))
since q (negsuc n) e = let z : true ≡ false = e in cc

-- a year that is reached stays reached
reached-on : (q i n : ℕ) → i ≤ n → lt_z (date_of (pos i)).year (pos q) ≡ false → lt_z (date_of (pos n)).year (pos q) ≡ false
reached-on q i n g e =
    subst (λ (t : CalendarDate). lt_z t.year (pos q) ≡ false) (sym (at_count n))
    (years_later (λ z. lt_z z (pos q) ≡ false) (since q) (i + 178141) (n + 178141) (omega arith)
    (subst (λ (t : CalendarDate). lt_z t.year (pos q) ≡ false) (at_count i) e))

pub year-of : (n : ℕ) → 2437301 ≤ n → n ≤ 2441317 → (y : ℕ) × ((date_of (pos n)).year ≡ pos y) × (1961 ≤ y) × (y ≤ 1971)
year-of n l h = go (date_of (pos n)).year refl
    (reached-on 1961 2437301 n l (subst (λ (t : CalendarDate). lt_z t.year (pos 1961) ≡ false) (sym first-date) refl))
  where
    not_yet : lt_z (date_of (pos n)).year (pos 1972) ≡ false → ⊥
    not_yet e = let z : ◌≡◌ {A = Bool} true false =
        subst (λ (t : CalendarDate). lt_z t.year (pos 1972) ≡ false) last-date (reached-on 1972 n 2441317 h e) in let w : ◌≡◌ {A = ℕ} 0 1 =
        cc in absurd (omega arith)

    below : (y : ℕ) → (ltb y 1972 ≡ false → ⊥) → y ≤ 1971
    below y k = side (ltb y 1972) refl
      where
        side : (b : Bool) → ltb y 1972 ≡ b → y ≤ 1971
        side true e = omega (arith, ltb-true y 1972 e)
        side false e = absurd (k e)

    go : (z : ℤ) → (date_of (pos n)).year ≡ z → lt_z (date_of (pos n)).year (pos 1961) ≡ false → (y : ℕ) × ((date_of (pos n)).year ≡ pos y) × (1961 ≤ y) ×
        (y ≤ 1971)
    go (pos y) e k = (
      y,
      e,
      ltb-false y 1961 (subst (λ (z : ℤ). lt_z z (pos 1961) ≡ false) e k),
      below y (λ f. not_yet (subst (λ (z : ℤ). lt_z z (pos 1972) ≡ false) (sym e) f)),
    )
    go (negsuc y) e k = let z : ◌≡◌ {A = Bool} true false = subst (λ (z : ℤ). lt_z z (pos 1961) ≡ false) e k in let w : ◌≡◌ {A = ℕ} 0 1 =
        cc in absurd (omega arith)

-- ---- the formula of a day's row, at 0h and at 12h
formula_at : (n : ℕ) → 2437301 ≤ n → n ≤ 2441317 → (f x : Float) → T (fits binary64 f)
    → tai_utc_offset fixed (date_of (pos n)).year (pos (date_of (pos n)).month) (pos (date_of (pos n)).day) f ≡ answer x → NearFormula (row_on n)
    (n - 2400001) f x
unfolding row_on month_number
formula_at n l h f x g e = go (year-of n l h)
  where
    mjd : (y : ℕ) → (date_of (pos n)).year ≡ pos y → mjd_of (pos y) (pos (date_of (pos n)).month) (pos (date_of (pos n)).day) ≡ answer (pos (n - 2400001))
    mjd y p =
        subst (λ (z : ℤ). mjd_of z (pos (date_of (pos n)).month) (pos (date_of (pos n)).day) ≡ answer (pos (n - 2400001))) p
        (subst (λ (x : CalendarDate). mjd_of x.year (pos x.month) (pos x.day) ≡ answer (pos (n - 2400001))) (date-of n (omega arith))
        (mjd-of-date (pos n) refl (le-ltb 1000000000 n (omega arith))
        (subst (λ (x : CalendarDate). lt_z x.year (negsuc 4798) ≡ false) (sym (date-of n (omega arith)))
        (subst (λ (z : ℤ). lt_z z (negsuc 4798) ≡ false) (sym p) refl))
        ∙ ap answer (sub_at n 2400001 (omega arith))))

    same-nat : (i j : ℕ) → ◌≡◌ {A = ℤ} (pos i) (pos j) → i ≡ j
    same-nat i j e = cc

    go : (y : ℕ) × ((date_of (pos n)).year ≡ pos y) × (1961 ≤ y) × (y ≤ 1971)
        → NearFormula (row_at (reached (starts fixed) (month_number (date_of (pos n)).year (date_of (pos n)).month))) (n - 2400001) f x
    go (y, p, a, b) =
        let (j, s, r) = drift-formula y (pos (date_of (pos n)).month) (pos (date_of (pos n)).day) f x (omega arith) b g
        (subst (λ (z : ℤ). tai_utc_offset fixed z (pos (date_of (pos n)).month) (pos (date_of (pos n)).day) f ≡ answer x) p e) in
        subst (λ (z : ℤ). NearFormula (row_at (reached (starts fixed) (month_number z (date_of (pos n)).month))) (n - 2400001) f x) (sym p)
        (subst (λ (i : ℕ). NearFormula (row_at (reached (starts fixed) (month_of y (date_of (pos n)).month))) i f x)
        (same-nat j (n - 2400001) (same_answer (sym s ∙ mjd y p))) r)

-- ---- the three offsets of a day
pub record Offsets (n : ℕ) : Type 0 where
  pub x : Float
  pub y : Float
  pub z : Float
  pub is : offsets_of fixed (gregorian_date (pos n)) ≡ answer (offsets x y z)
  pub at-0h : NearFormula (row_on n) (n - 2400001) nought x
  pub at-12h : NearFormula (row_on n) (n - 2400001) half y
  pub at-24h : NearFormula (row_on (suc n)) (suc n - 2400001) nought z

module _ (n : ℕ) (l : 2437301 ≤ n) (h : n ≤ 2441316) where
  abbrev t : CalendarDate
  t = date_of (pos n)

  valid : valid_of t ≡ answer tt
  valid = subst (λ (x : CalendarDate). valid_of x ≡ answer tt) (date-of n (omega arith)) (gregorian_valid (pos n))

  not_last : last_date t.year t.month t.day ≡ false
  not_last = first-false _ _ (before_last t.year
      (subst (λ (x : CalendarDate). lt_z (pos 2733194) x.year ≡ false) (date-of n (omega arith)) (gregorian_in_range (pos n)).year_high))

  next-answered : next_of t.year (pos t.month) (pos t.day) ≡ answer (date_of (pos (suc n)))
  next-answered = by t.year (pos t.month) (pos t.day) valid false not_last ∙ ap answer (sym (next-date n))

  some : (o : DayOffsets) × (day_offsets fixed t.year (pos t.month) (pos t.day) ≡ answer o)
  some = (_, day-offsets-are fixed t.year (pos t.month) (pos t.day) ∙ went _ next-answered)

  pub offsets-near : Offsets n
  unfolding offsets_of day_offsets
  offsets-near = go some.0 some.1
    where
      go : (o : DayOffsets) → day_offsets fixed t.year (pos t.month) (pos t.day) ≡ answer o → Offsets n
      go o e =
          let (a, p, q) = came (tai_utc_offset fixed t.year (pos t.month) (pos t.day) nought) _ o e in
          let (b, r, s) = came (tai_utc_offset fixed t.year (pos t.month) (pos t.day) half) _ o q in
          let (u, v, w) = came (next_of t.year (pos t.month) (pos t.day)) _ o s in
          let (c, i, j) = came (tai_utc_offset fixed u.year (pos u.month) (pos u.day) nought) _ o w in
          let k : o ≡ offsets a b c = cc in
          let m : u ≡ date_of (pos (suc n)) = same_answer (sym v ∙ next-answered) in
          record {
            x = a;
            y = b;
            z = c;
            is = ap (λ (x : CalendarDate). offsets_of fixed x) (date-of n (omega arith)) ∙ e ∙ ap answer k;
            at-0h = formula_at n l (omega arith) nought a nought-fits p;
            at-12h = formula_at n l (omega arith) half b half-fits r;
            at-24h = formula_at (suc n) (omega arith) (omega arith) nought c nought-fits
                (subst (λ (x : CalendarDate). tai_utc_offset fixed x.year (pos x.month) (pos x.day) nought ≡ answer c) m i);
          }
