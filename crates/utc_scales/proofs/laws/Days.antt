-- The three kinds of a pair of parts: no day, a day whose year is before -4799, and a day with a valid date, whose offsets are answered for any rows. Assumes
-- nothing.
use mathlib.Core.Path.{◌≡◌, refl, ◌∙◌}
use mathlib.Core.Bool.{Bool, true, false, cond, ◌||◌}
use mathlib.Core.List.{List}
use mathlib.Core.Logic.{◌⊎◌, inl, inr}
use Prim.Native.Nat.{ℕ}
use native.Mathlib.Omega.{arith}
use lib.Dec.{T}
use lib.IntN.{ℤ, pos, negsuc}
use lib.Signed.{lt_z, le_z}
use lib.Ieee.{Float, binary64, fits}
use Rattle.refusals.specs.Outcome.{Outcome, answer, refusal}
use Rattle.floats.specs.Whole.{nought}
use Rattle.calendar.specs.declared.CalendarDate.{CalendarDate}
use Rattle.calendar.specs.Calendar.{days_in_month, date, next}
use Rattle.calendar.specs.Refusals.{valid_date, next_of, last_date}
use Rattle.calendar.specs.Gregorian.{gregorian_date}
use Rattle.calendar.proofs.Accepted.{date-accepted}
use Rattle.calendar.proofs.Years.{valid_of, gregorian_in_range, gregorian_refusal, before_last}
use Rattle.calendar.proofs.Mjd.{mjd-given}
use Rattle.calendar.proofs.NextDates.{by}
use Rattle.julian.specs.day_number.DayNumber.{day_of}
use Rattle.julian.specs.day_number.DayNumber as D
use Rattle.julian.specs.day_number.Answer.{day_number_and_fraction}
use Rattle.julian.specs.day_number.Ranges.{InDays}
use Rattle.julian.proofs.day_number.Answer.{answered, refused}
use Rattle.julian.proofs.day_number.Ranges.{day-range}
use Rattle.leap_table.specs.declared.offsets.DayOffsets.{DayOffsets}
use Rattle.leap_table.specs.rows.Table.{Row}
use Rattle.leap_table.proofs.offsets.Offsets.{in_day_zero, offset-given}
use Rattle.leap_table.proofs.offsets.Days.{day-offsets-are}
use Rattle.refusals.proofs.Onward.{went}
use Rattle.utc_scales.specs.days.Dates.{offset_at0h, offsets_of}

-- whether the year is before -4799
abbrev pub early : CalendarDate → Bool
early t = lt_z t.year (negsuc 4798)

abbrev pub date_in : Float → Float → CalendarDate
date_in x y = gregorian_date (day_of x y).day

pub data Kind (x y : Float) : Type 0 where
  outside : D.accepted x y ≡ false → day_number_and_fraction x y ≡ refusal 6 → Kind x y
  before : D.accepted x y ≡ true → day_number_and_fraction x y ≡ answer (day_of x y) → early (date_in x y) ≡ true → valid_of (date_in x y) ≡ refusal 1
      → Kind x y
  valid : D.accepted x y ≡ true → day_number_and_fraction x y ≡ answer (day_of x y) → early (date_in x y) ≡ false → valid_of (date_in x y) ≡ answer tt
      → InDays (day_of x y).day → Kind x y

differ : {X : Type 0} (m n : ℕ) → (m ≡ n → ⊥) → ◌≡◌ {A = Outcome X} (refusal m) (refusal n) → ⊥
differ m n h e = h (cc)

-- a date that is refused with 1 is early
refused-early : (y m d : ℤ) → valid_date y m d ≡ refusal 1 → lt_z y (negsuc 4798) ≡ true
unfolding valid_date
refused-early y m d e = go (lt_z y (negsuc 4798)) (lt_z m (pos 1) || lt_z (pos 12) m) (lt_z d (pos 1) || lt_z (pos (days_in_month y m)) d) e
  where
    go : (a b c : Bool) → ◌≡◌ {A = Outcome Unit} (cond a (refusal 1) (cond b (refusal 2) (cond c (refusal 3) (answer tt)))) (refusal 1) → a ≡ true
    go true b c h = refl
    go false true c h = absurd (differ 2 1 (λ z. omega arith) h)
    go false false true h = absurd (differ 3 1 (λ z. omega arith) h)
    go false false false h = let z : ◌≡◌ {A = ℕ} 0 1 = cc in absurd (omega arith)

pub kind : (x y : Float) → T (fits binary64 x) → T (fits binary64 y) → Kind x y
kind x y f g = go (D.accepted x y) refl
  where
    split : D.accepted x y ≡ true → (valid_of (date_in x y) ≡ answer tt) ⊎ (valid_of (date_in x y) ≡ refusal 1) → Kind x y
    split e (inl v) = let t = date_in x y in valid e (answered x y e) (date-accepted t.year (pos t.month) (pos t.day) v).year v
        (day-range x y f g (day_of x y) (answered x y e))
    split e (inr v) = let t = date_in x y in before e (answered x y e) (refused-early t.year (pos t.month) (pos t.day) v) v

    go : (b : Bool) → D.accepted x y ≡ b → Kind x y
    go true e = split e (gregorian_refusal (day_of x y).day)
    go false e = outside e (refused x y e)

-- ---- the offsets of a valid date
not_last : (y : ℤ) (m d : ℕ) → le_z (pos 2147483647) y ≡ false → last_date y m d ≡ false
not_last y m d e = rw e

module _ (rows : List Row) (n : ℤ) (v : valid_of (gregorian_date n) ≡ answer tt) where
  abbrev t : CalendarDate
  t = gregorian_date n

  pub offset-answered : (x : Float) × (offset_at0h rows t ≡ answer x)
  unfolding offset_at0h
  offset-answered = (
    _,
    offset-given rows t.year (pos t.month) (pos t.day) nought in_day_zero _
        (mjd-given t.year (pos t.month) (pos t.day) v),
  )

  next-answered : next_of t.year (pos t.month) (pos t.day) ≡ answer (next (date t.year t.month t.day))
  next-answered = by t.year (pos t.month) (pos t.day) v false
      (not_last t.year t.month t.day (before_last t.year (gregorian_in_range n).year_high))

  pub offsets-answered : (o : DayOffsets) × (offsets_of rows t ≡ answer o)
  unfolding offsets_of
  offsets-answered = (_, day-offsets-are rows t.year (pos t.month) (pos t.day) ∙ went _ next-answered)
