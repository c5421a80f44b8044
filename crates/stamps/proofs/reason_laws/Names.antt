-- A refusal names its field: where a call of document 01 refuses by a number, the reason of that number with the call's values names the field that the call's
-- test found wrong; and values that the test passes name none, nor does a number whose test reads other values. Each law is of the landed definition of the
-- call. Assumes nothing.
use Prim.Native.Nat.{ℕ, ◌+◌, ◌*◌, ◌/◌, ◌%◌, ◌≤◌, ◌<◌}
use native.Mathlib.Omega.{arith}
use mathlib.Core.Path.{◌≡◌, refl, sym, ap, ◌∙◌}
use mathlib.Core.Bool.{Bool, true, false, cond, not, ◌&&◌, ◌||◌}
use mathlib.Core.Logic.{◌⊎◌, inl, inr}
use mathlib.Core.List.{List}
use lib.Dec.{eqb, ltb, leb}
use lib.ListN.{length}
use lib.IntN.{ℤ, pos, negsuc, nat_abs}
use lib.Signed.{lt_z}
use lib.Ieee.{Float, binary64, of_int, add, le, lt}
use lib.Ieee.Scale.{finite}
use borrow.Author.Tests.{ltb-true, le-leb, ne_eqb}
use Rattle.refusals.specs.Outcome.{Outcome, answer, refusal, onward}
use Rattle.numerals.specs.little_endian.LittleEndian.{u32_at}
use Rattle.floats.specs.Whole.{nought}
use Rattle.constants.specs.Constants.{unix_epoch_jd}
use Rattle.calendar.specs.Calendar.{days_in_month}
use Rattle.calendar.specs.Refusals.{valid_date}
use Rattle.calendar.specs.DayCount.{mjd_number, mjd_of}
use Rattle.julian.specs.day_number.DayNumber.{in_julian_range, accepted}
use Rattle.julian.specs.declared.day_number.DayNumber.{DayNumber}
use Rattle.julian.specs.day_number.Answer.{day_number_and_fraction}
use Rattle.julian.specs.declared.JulianDate.{JulianDate}
use Rattle.julian.specs.JulianDate.{julian, rounded_sum}
use Rattle.julian.specs.DayFraction.{second_limit, time_in_day, day_fraction}
use Rattle.julian.specs.Finite.{finite_jd, finite_arg}
use Rattle.julian.specs.declared.CalendarFields.{CalendarFields}
use Rattle.julian.specs.Calendar.{julian_to_calendar}
use Rattle.julian.proofs.laws.CalendarDays.{only-six}
use Rattle.leap_table.specs.rows.Table.{Row, month_number}
use Rattle.leap_table.specs.offsets.Offset.{offset_at, in_day, tai_utc_offset}
use Rattle.utc.specs.UnixTime.{unix_day, second_of_unix_day, second_with_nanos, utc_new}
use Rattle.utc.proofs.UnixTimes.{nanos-refused, day-refused, day-given}
use Rattle.utc.proofs.laws.DateNumbers.{from-calendar-numbers}
use Rattle.stamps.specs.Block.{block_of}
use Rattle.reasons.specs.declared.sentences.Named.{Named}
use Rattle.reasons.specs.declared.sentences.Named.TheVariants.{NoField, Year, Month, Day, Hour, Minute, Second, Sum, Fraction, Nanos, FirstPart}
use Rattle.reasons.specs.declared.sentences.Named.TheVariants.{SecondPart, Offset, SecondSize, Size, WholeLength}
use Rattle.reasons.specs.declared.Values.{Values}
use Rattle.reasons.specs.declared.Values.TheVariants.{NoValues, Date, Time, Parts, Number, Count, Block}
use Rattle.reasons.specs.declared.sentences.Reason.{Reason}
use Rattle.reasons.specs.Offending.{offending, date_field, year_field, month_field, day_field, time_field, sum_field, part_field, parts_field, float_field}
use Rattle.reasons.specs.Offending.{nanos_field, block_field}
use Rattle.reasons.specs.Sentence.{reason_of}
use Rattle.reasons.proofs.FieldTests.{hour-wrong, minute-wrong}
use Rattle.stamps.specs.reason_laws.Groups.{reads}

-- number k with this field
abbrev names : ℕ → Named → Outcome Reason
names k f = answer (record { number = k; named = f })

-- an impossible outcome
no_answer : {A : Type 0} {a : A} {k : ℕ} → answer a ≡ refusal k → ⊥
no_answer e = let z : ◌≡◌ {A = ℕ} 0 1 = cc in omega arith

no_refusal : {A : Type 0} {a : A} {k : ℕ} → refusal k ≡ answer a → ⊥
no_refusal e = let z : ◌≡◌ {A = ℕ} 0 1 = cc in omega arith

other : {A : Type 0} {j k : ℕ} → ◌≡◌ {A = Outcome A} (refusal j) (refusal k) → j ≡ k
other e = cc

-- one test
tested : {A : Type 0} (a : A) (k : ℕ) (b : Bool) → cond b (answer a) (refusal k) ≡ refusal k → b ≡ false
tested a k true e = absurd (no_answer e)
tested a k false e = refl

passed : {A : Type 0} (a x : A) (k : ℕ) (b : Bool) → cond b (answer a) (refusal k) ≡ answer x → b ≡ true
passed a x k true e = refl
passed a x k false e = absurd (no_refusal e)

-- three tests that pass
whichever : (p q r : Bool) → cond p NoField (cond q NoField (cond r NoField NoField)) ≡ NoField
whichever true q r = refl
whichever false true r = refl
whichever false false true = refl
whichever false false false = refl

-- ---- 1, 2, 3: a date
module _ (a b c : Bool) where
  abbrev three : Outcome Unit
  three = cond a (refusal 1) (cond b (refusal 2) (cond c (refusal 3) (answer tt)))

by-year : (a b c : Bool) → three a b c ≡ refusal 1 → a ≡ true
by-year true b c e = refl
by-year false true c e = absurd (omega (arith, other e))
by-year false false true e = absurd (omega (arith, other e))
by-year false false false e = absurd (no_answer e)

by_month : (a b c : Bool) → three a b c ≡ refusal 2 → b ≡ true
by_month true b c e = absurd (omega (arith, other e))
by_month false true c e = refl
by_month false false true e = absurd (omega (arith, other e))
by_month false false false e = absurd (no_answer e)

by_day : (a b c : Bool) → three a b c ≡ refusal 3 → c ≡ true
by_day true b c e = absurd (omega (arith, other e))
by_day false true c e = absurd (omega (arith, other e))
by_day false false true e = refl
by_day false false false e = absurd (no_answer e)

by-none : (a b c : Bool) → three a b c ≡ answer tt → (a ≡ false) × (b ≡ false) × (c ≡ false)
by-none true b c e = absurd (no_refusal e)
by-none false true c e = absurd (no_refusal e)
by-none false false true e = absurd (no_refusal e)
by-none false false false e = (refl, refl, refl)

abbrev early : ℤ → Bool
early y = lt_z y (negsuc 4798)

abbrev no_month : ℤ → Bool
no_month m = lt_z m (pos 1) || lt_z (pos 12) m

abbrev no_day : ℤ → ℤ → ℤ → Bool
no_day y m d = lt_z d (pos 1) || lt_z (pos (days_in_month y m)) d

module _ (y m d : ℤ) where
  pub year-reported : valid_date y m d ≡ refusal 1 → reason_of 1 (Date y m d) ≡ names 1 (Year y)
  unfolding valid_date reason_of offending date_field year_field
  year-reported e = rw (by-year (early y) (no_month m) (no_day y m d) e)

  pub month-reported : valid_date y m d ≡ refusal 2 → reason_of 2 (Date y m d) ≡ names 2 (Month m)
  unfolding valid_date reason_of offending date_field month_field
  month-reported e = rw (by_month (early y) (no_month m) (no_day y m d) e)

  pub day-reported : valid_date y m d ≡ refusal 3 → reason_of 3 (Date y m d) ≡ names 3 (Day d)
  unfolding valid_date reason_of offending date_field day_field
  day-reported e = rw (by_day (early y) (no_month m) (no_day y m d) e)

  -- a date that is taken names none, by whatever number
  pub date-passes : (k : ℕ) → valid_date y m d ≡ answer tt → offending k (Date y m d) ≡ NoField
  unfolding valid_date offending date_field year_field month_field day_field
  date-passes k e =
      let n : (early y ≡ false) × (no_month m ≡ false) × (no_day y m d ≡ false) = by-none (early y) (no_month m) (no_day y m d) e in
      rw (n.0, n.1, n.2) (whichever (eqb k 1) (eqb k 2) (eqb k 3))

-- ---- 4: a time, by the first of its fields that is wrong
module _ (hour minute : ℕ) (second leap : Float) where
  pub hour-reported : 23 < hour → reason_of 4 (Time hour minute second leap) ≡ names 4 (Hour hour)
  unfolding reason_of offending
  hour-reported h = ap (names 4) (sym (hour-wrong hour minute second leap h))

  pub minute-reported : hour ≤ 23 → 59 < minute → reason_of 4 (Time hour minute second leap) ≡ names 4 (Minute minute)
  unfolding reason_of offending
  minute-reported h m = ap (names 4) (sym (minute-wrong hour minute second leap h m))

  pub second-reported : day_fraction hour minute second leap ≡ refusal 4 → hour ≤ 23 → minute ≤ 59
      → reason_of 4 (Time hour minute second leap) ≡ names 4 (Second second)
  unfolding reason_of offending day_fraction time_field
  second-reported e h m = rw (le-leb hour 23 h, le-leb minute 59 m, tested _ 4 (time_in_day hour minute second leap) e)

  -- a time that is taken names none
  pub time-passes : (x : Float) → day_fraction hour minute second leap ≡ answer x → time_field hour minute second leap ≡ NoField
  unfolding day_fraction time_field time_in_day
  time-passes x e = go (leb hour 23) (leb minute 59) (finite leap && (le nought second && lt second (second_limit hour minute leap)))
      (passed _ x 4 (time_in_day hour minute second leap) e)
    where
      go : (a b c : Bool) → (a && b) && c ≡ true → cond a (cond b (cond (not ((a && b) && c)) (Second second) NoField) (Minute minute)) (Hour hour) ≡ NoField
      go true true true t = refl
      go true true false t = let z : ◌≡◌ {A = ℕ} 0 1 = cc in absurd (omega (arith, z))
      go true false c t = let z : ◌≡◌ {A = ℕ} 0 1 = cc in absurd (omega (arith, z))
      go false b c t = let z : ◌≡◌ {A = ℕ} 0 1 = cc in absurd (omega (arith, z))

-- ---- 6: the rounded sum of the parts
module _ (a b : Float) where
  pub sum-reported : day_number_and_fraction a b ≡ refusal 6 → reason_of 6 (Parts a b) ≡ names 6 (Sum (rounded_sum (julian a b)))
  unfolding reason_of offending parts_field sum_field day_number_and_fraction accepted rounded_sum
  sum-reported e = rw (tested _ 6 (in_julian_range (add binary64 a b)) e)

  pub sum-passes : (n : DayNumber) → day_number_and_fraction a b ≡ answer n → offending 6 (Parts a b) ≡ NoField
  unfolding offending parts_field sum_field day_number_and_fraction accepted rounded_sum
  sum-passes n e = rw (passed _ n 6 (in_julian_range (add binary64 a b)) e)

-- ---- 7: the fraction
after-date : {A B C : Type 0} (f : A → B) (g : B → C) (a b c : Bool) (x : A) (k : ℕ)
    → onward (onward (cond a (refusal 1) (cond b (refusal 2) (cond c (refusal 3) (answer x)))) (λ u. answer (f u))) (λ n. answer (g n)) ≡ refusal k → k ≤ 3
unfolding onward
after-date f g true b c x k e = omega (arith, other e)
after-date f g false true c x k e = omega (arith, other e)
after-date f g false false true x k e = omega (arith, other e)
after-date f g false false false x k e = absurd (no_answer e)

module _ (rows : List Row) (y m d : ℤ) (x : Float) where
  pub fraction-reported : tai_utc_offset rows y m d x ≡ refusal 7 → reason_of 7 (Number x) ≡ names 7 (Fraction x)
  unfolding reason_of offending float_field tai_utc_offset mjd_of valid_date
  fraction-reported e = rw (outside (in_day x) refl)
    where
      not_seven : onward (mjd_of y m d) (λ n. answer (offset_at rows (month_number y (nat_abs m)) (of_int binary64 n) x)) ≡ refusal 7 → ⊥
      not_seven q =
          let h : 7 ≤ 3 = after-date {A = Unit} {B = ℤ} {C = Float} (λ u. mjd_number y m d)
          (λ n. offset_at rows (month_number y (nat_abs m)) (of_int binary64 n) x) (early y) (no_month m) (no_day y m d) tt 7 q in
          omega (arith, h)

      outside : (b : Bool) → in_day x ≡ b → in_day x ≡ false
      outside true t = absurd (not_seven (rw t at e))
      outside false t = t

  -- a fraction that is taken names none
  pub fraction-passes : (offset : Float) → tai_utc_offset rows y m d x ≡ answer offset → offending 7 (Number x) ≡ NoField
  unfolding offending float_field tai_utc_offset
  fraction-passes offset e = go (in_day x) refl
    where
      go : (b : Bool) → in_day x ≡ b → offending 7 (Number x) ≡ NoField
      go true t = rw t
      go false t = absurd (no_refusal (rw t at e))

-- ---- 8: the nanoseconds
module _ (n : ℕ) where
  pub nanos-reported : ltb n 1000000000 ≡ false → reason_of 8 (Count n) ≡ names 8 (Nanos n)
  unfolding reason_of offending nanos_field
  nanos-reported e = rw e

  pub nanos-pass : ltb n 1000000000 ≡ true → offending 8 (Count n) ≡ NoField
  unfolding offending nanos_field
  nanos-pass e = rw e

-- of the ladder of UTC from Unix time no other step gives 8
no_eight : (k : ℕ) → k ≡ 8 → ((k ≡ 1) ⊎ ((k ≡ 2) ⊎ (k ≡ 3))) ⊎ ((k ≡ 5) ⊎ (k ≡ 4)) → ⊥
no_eight k h (inl (inl e)) = omega arith
no_eight k h (inl (inr (inl e))) = omega arith
no_eight k h (inl (inr (inr e))) = omega arith
no_eight k h (inr (inl e)) = omega arith
no_eight k h (inr (inr e)) = omega arith

module _ (rows : List Row) (unix : ℤ) (nanos : ℕ) where
  by-nanos : utc_new rows unix nanos ≡ refusal 8 → ltb nanos 1000000000 ≡ false
  by-nanos e = go (ltb nanos 1000000000) refl
    where
      u : Float
      u = of_int binary64 (unix_day unix)

      s : ℕ
      s = second_of_unix_day unix

      by_day : ltb nanos 1000000000 ≡ true → (o : Outcome CalendarFields) → julian_to_calendar unix_epoch_jd u ≡ o → ⊥
      by_day p (refusal n) q = omega (arith, other (sym (day-refused rows unix nanos p n q) ∙ e), only-six unix_epoch_jd u n q)
      by_day p (answer c) q =
          no_eight 8 refl
          (from-calendar-numbers rows c.date.year c.date.month c.date.day (s / 3600) (s % 3600 / 60) (second_with_nanos s nanos) 8
          (day-given rows unix nanos p c q c.date.year s (second_with_nanos s nanos) refl refl refl ∙ e))

      go : (b : Bool) → ltb nanos 1000000000 ≡ b → ltb nanos 1000000000 ≡ false
      go false p = p
      go true p = absurd (by_day p (julian_to_calendar unix_epoch_jd u) refl)

  pub unix_nanos_reported : utc_new rows unix nanos ≡ refusal 8 → reason_of 8 (Count nanos) ≡ names 8 (Nanos nanos)
  unix_nanos_reported e = nanos-reported nanos (by-nanos e)

  pub unix_nanos_pass : (d : JulianDate) → utc_new rows unix nanos ≡ answer d → offending 8 (Count nanos) ≡ NoField
  unix_nanos_pass d e = go (ltb nanos 1000000000) refl
    where
      go : (b : Bool) → ltb nanos 1000000000 ≡ b → offending 8 (Count nanos) ≡ NoField
      go true p = nanos-pass nanos p
      go false p = absurd (no_refusal (sym (nanos-refused rows unix nanos p) ∙ e))

-- ---- 9: the first part that is not finite
module _ (d : JulianDate) where
  pub part-reported : finite_jd d ≡ refusal 9
      → ((finite d.jd1 ≡ false) × (reason_of 9 (Parts d.jd1 d.jd2) ≡ names 9 (FirstPart d.jd1)))
      ⊎ ((finite d.jd1 ≡ true) × (reason_of 9 (Parts d.jd1 d.jd2) ≡ names 9 (SecondPart d.jd2)))
  unfolding reason_of offending parts_field part_field finite_jd
  part-reported e = go (finite d.jd1) (finite d.jd2) refl refl (tested d 9 (finite d.jd1 && finite d.jd2) e)
    where
      go : (a b : Bool) → finite d.jd1 ≡ a → finite d.jd2 ≡ b → finite d.jd1 && finite d.jd2 ≡ false
          → ((finite d.jd1 ≡ false) × (reason_of 9 (Parts d.jd1 d.jd2) ≡ names 9 (FirstPart d.jd1)))
          ⊎ ((finite d.jd1 ≡ true) × (reason_of 9 (Parts d.jd1 d.jd2) ≡ names 9 (SecondPart d.jd2)))
      go false b p q t = inl (p, rw p)
      go true false p q t = inr (p, rw (p, q))
      go true true p q t = let z : ◌≡◌ {A = Bool} true false = rw (p, q) at t in let w : ◌≡◌ {A = ℕ} 0 1 = cc in absurd (omega (arith, w))

  pub parts-pass : finite_jd d ≡ answer d → offending 9 (Parts d.jd1 d.jd2) ≡ NoField
  unfolding offending parts_field part_field finite_jd
  parts-pass e = go (finite d.jd1) (finite d.jd2) (passed d d 9 (finite d.jd1 && finite d.jd2) e)
    where
      go : (a b : Bool) → a && b ≡ true → cond a (cond (not b) (SecondPart d.jd2) NoField) (FirstPart d.jd1) ≡ NoField
      go true true t = refl
      go true false t = let z : ◌≡◌ {A = ℕ} 0 1 = cc in absurd (omega (arith, z))
      go false b t = let z : ◌≡◌ {A = ℕ} 0 1 = cc in absurd (omega (arith, z))

-- ---- 10: the offset
module _ (x : Float) where
  pub offset-reported : finite_arg x ≡ refusal 10 → reason_of 10 (Number x) ≡ names 10 (Offset x)
  unfolding reason_of offending float_field finite_arg
  offset-reported e = rw (tested x 10 (finite x) e)

  pub offset-passes : finite_arg x ≡ answer x → offending 10 (Number x) ≡ NoField
  unfolding offending float_field finite_arg
  offset-passes e = rw (passed x x 10 (finite x) e)

-- ---- 12, 13, 14: a block
by-sizes : (n : ℕ) (a b c d : Bool) → cond a (refusal 14) (cond b (cond c (cond d (answer n) (refusal 14)) (refusal 13)) (refusal 12)) ≡ refusal 12 → b ≡ false
by-sizes n true b c d e = absurd (omega (arith, other e))
by-sizes n false true true true e = absurd (no_answer e)
by-sizes n false true true false e = absurd (omega (arith, other e))
by-sizes n false true false d e = absurd (omega (arith, other e))
by-sizes n false false c d e = refl

by_size : (n : ℕ) (a b c d : Bool) → cond a (refusal 14) (cond b (cond c (cond d (answer n) (refusal 14)) (refusal 13)) (refusal 12)) ≡ refusal 13 → c ≡ false
by_size n true b c d e = absurd (omega (arith, other e))
by_size n false true true true e = absurd (no_answer e)
by_size n false true true false e = absurd (omega (arith, other e))
by_size n false true false d e = refl
by_size n false false c d e = absurd (omega (arith, other e))

by_length : (n : ℕ) (a b c d : Bool) → cond a (refusal 14) (cond b (cond c (cond d (answer n) (refusal 14)) (refusal 13)) (refusal 12)) ≡ refusal 14
    → (a ≡ true) ⊎ (d ≡ false)
by_length n true b c d e = inl refl
by_length n false true true true e = absurd (no_answer e)
by_length n false true true false e = inr refl
by_length n false true false d e = absurd (omega (arith, other e))
by_length n false false c d e = absurd (omega (arith, other e))

by-none-of : (n x : ℕ) (a b c d : Bool) → cond a (refusal 14) (cond b (cond c (cond d (answer n) (refusal 14)) (refusal 13)) (refusal 12)) ≡ answer x
    → (b ≡ true) × (c ≡ true) × (d ≡ true)
by-none-of n x true b c d e = absurd (no_refusal e)
by-none-of n x false true true true e = (refl, refl, refl)
by-none-of n x false true true false e = absurd (no_refusal e)
by-none-of n x false true false d e = absurd (no_refusal e)
by-none-of n x false false c d e = absurd (no_refusal e)

module _ (s : List ℕ) where
  pub second-size-reported : block_of s ≡ refusal 12 → reason_of 12 (Block (length s) (u32_at s 0) (u32_at s 4)) ≡ names 12 (SecondSize (u32_at s 4))
  unfolding reason_of offending block_field block_of
  second-size-reported e = rw (by-sizes (u32_at s 0) (ltb (length s) 8) (eqb (u32_at s 0) (u32_at s 4)) (leb (u32_at s 0) 4000)
      (eqb (length s) (8 + 16 * u32_at s 0)) e)

  pub size-reported : block_of s ≡ refusal 13 → reason_of 13 (Block (length s) (u32_at s 0) (u32_at s 4)) ≡ names 13 (Size (u32_at s 0))
  unfolding reason_of offending block_field block_of
  size-reported e = rw (by_size (u32_at s 0) (ltb (length s) 8) (eqb (u32_at s 0) (u32_at s 4)) (leb (u32_at s 0) 4000)
      (eqb (length s) (8 + 16 * u32_at s 0)) e)

  pub length-reported : block_of s ≡ refusal 14 → reason_of 14 (Block (length s) (u32_at s 0) (u32_at s 4)) ≡ names 14 (WholeLength (length s))
  unfolding reason_of offending block_field block_of
  length-reported e = rw (wrong (by_length (u32_at s 0) (ltb (length s) 8) (eqb (u32_at s 0) (u32_at s 4)) (leb (u32_at s 0) 4000)
      (eqb (length s) (8 + 16 * u32_at s 0)) e))
    where
      wrong : (ltb (length s) 8 ≡ true) ⊎ (eqb (length s) (8 + 16 * u32_at s 0) ≡ false) → eqb (length s) (8 + 16 * u32_at s 0) ≡ false
      wrong (inl h) = ne_eqb (length s) (8 + 16 * u32_at s 0) (λ q. omega (arith, ltb-true (length s) 8 h))
      wrong (inr h) = h

  -- a block that is taken names none, by whatever number
  pub block-passes : (k n : ℕ) → block_of s ≡ answer n → offending k (Block (length s) (u32_at s 0) (u32_at s 4)) ≡ NoField
  unfolding offending block_field block_of
  block-passes k n e =
      let t = by-none-of (u32_at s 0) n (ltb (length s) 8) (eqb (u32_at s 0) (u32_at s 4)) (leb (u32_at s 0) 4000) (eqb (length s) (8 + 16 * u32_at s 0)) e in
      rw (t.0, t.1, t.2) (whichever (eqb k 12) (eqb k 13) (eqb k 14))

-- ---- a number whose test reads other values names none
none-of-one : (p : Bool) (a : Named) → p ≡ false → cond p a NoField ≡ NoField
none-of-one p a e = rw e

none_of_two : (p q : Bool) (a b : Named) → p || q ≡ false → cond p a (cond q b NoField) ≡ NoField
none_of_two false false a b e = refl
none_of_two false true a b e = let z : ◌≡◌ {A = ℕ} 0 1 = cc in absurd (omega (arith, z))
none_of_two true q a b e = let z : ◌≡◌ {A = ℕ} 0 1 = cc in absurd (omega (arith, z))

none-of-three : (p q r : Bool) (a b c : Named) → p || (q || r) ≡ false → cond p a (cond q b (cond r c NoField)) ≡ NoField
none-of-three false q r a b c e = none_of_two q r b c e
none-of-three true q r a b c e = let z : ◌≡◌ {A = ℕ} 0 1 = cc in absurd (omega (arith, z))

pub other_number : (k : ℕ) (values : Values) → reads k values ≡ false → offending k values ≡ NoField
unfolding reads offending date_field parts_field float_field block_field
other_number k NoValues e = refl
other_number k (Date y m d) e = none-of-three (eqb k 1) (eqb k 2) (eqb k 3) _ _ _ e
other_number k (Time hour minute second leap) e = none-of-one (eqb k 4) _ e
other_number k (Parts a b) e = none_of_two (eqb k 6) (eqb k 9) _ _ e
other_number k (Number x) e = none_of_two (eqb k 7) (eqb k 10) _ _ e
other_number k (Count n) e = none-of-one (eqb k 8) _ e
other_number k (Block len size second) e = none-of-three (eqb k 12) (eqb k 13) (eqb k 14) _ _ _ e
