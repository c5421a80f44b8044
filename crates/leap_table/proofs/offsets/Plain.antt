-- The dates from 1972 on up to the 27th of a month: the next date is in the same month, and one number of whole seconds is TAI-UTC at the start, the middle and
-- the end of the day, and at every fraction of it.
-- Assumes nothing.
use Rattle.std.proofs.Common.{◌≡◌, ℕ, ◌≤◌, Bool, true, false, List, ℤ, pos, negsuc, nat_abs, sym, refl, ap, ◌∙◌, arith, to_z-of_z, w32, SFits, to_z, of_z}
use Rattle.std.proofs.Common.{ltb-false, leb-true}
use lib.IntN.{suc_ℤ}
use lib.Signed.{lt_z, le_z}
use lib.Ieee.{Float, binary64, of_int, sub, mul}
use Rattle.refusals.specs.Outcome.{Outcome, answer, onward}
use Rattle.floats.specs.Whole.{nought, half}
use Rattle.calendar.specs.Calendar.{date, leap_year, lengths}
use Rattle.calendar.specs.Refusals.{valid_date}
use Rattle.calendar.specs.DayCount.{mjd_number}
use Rattle.calendar.proofs.Months.{months}
use Rattle.calendar.proofs.Accepted.{Accepted, date-accepted, in_calendar_valid}
use Rattle.calendar.proofs.Mjd.{mjd-given}
use Rattle.calendar.proofs.NextDates.{next-day, next-is}
use Rattle.leap_table.specs.declared.offsets.DayOffsets.{DayOffsets}
use Rattle.leap_table.specs.rows.Table.{Row, month_number}
use Rattle.leap_table.specs.offsets.Offset.{offset_at, in_day, tai_utc_offset}
use Rattle.leap_table.specs.offsets.Leap.{offsets, offsets_of_day, day_offsets, leap_of, leap_at_end_of_day, two_f}
use Rattle.leap_table.specs.offsets.Plain.{Plain}
use Rattle.leap_table.specs.offsets.Rule.{rule_at}
use Rattle.leap_table.proofs.offsets.Offsets.{offset-given}
use Rattle.leap_table.proofs.offsets.Days.{day-given}

-- ---- the tests of the code
long : (b : Bool) (m : ℕ) → 1 ≤ m → m ≤ 12 → 28 ≤ lengths b m
unfolding lengths
long true = months (λ m. 28 ≤ lengths true m) (omega arith) (omega arith) (omega arith) (omega arith) (omega arith) (omega arith) (omega arith) (omega arith)
    (omega arith) (omega arith) (omega arith) (omega arith)
long false = months (λ m. 28 ≤ lengths false m) (omega arith) (omega arith) (omega arith) (omega arith) (omega arith) (omega arith) (omega arith)
    (omega arith) (omega arith) (omega arith) (omega arith) (omega arith)

up_to_27 : (y m d : ℕ) → 1972 ≤ y → 1 ≤ m → m ≤ 12 → 1 ≤ d → d ≤ 27 → Plain (pos y) (pos m) (pos d)
unfolding month_number
up_to_27 y m d p a b c e =
    let h = long (leap_year (pos y)) m a b in
    let v : valid_date (pos y) (pos m) (pos d) ≡ answer tt =
    in_calendar_valid (date (pos y) m d) (record { m_low = a; m_high = b; d_low = c; d_high = omega arith }) refl in
    record { same_month = next-day (pos y) (pos m) (pos d) v (omega arith); from_1972 = omega arith }

pub plain : (y m d : ℤ) (first last : ℕ) → lt_z y (pos first) ≡ false → lt_z m (pos 1) ≡ false → lt_z (pos 12) m ≡ false → lt_z d (pos 1) ≡ false
    → le_z d (pos last) ≡ true → 1972 ≤ first → last ≤ 27 → Plain y m d
plain (pos y) (pos m) (pos d) first last p a b c e g h =
    up_to_27 y m d (omega (arith, ltb-false y first p)) (ltb-false m 1 a) (ltb-false 12 m b) (ltb-false d 1 c) (omega (arith, leb-true d last e))
plain (pos y) (pos m) (negsuc d) first last p a b c e g h = let z : ◌≡◌ {A = ℕ} 0 1 = cc in absurd (omega arith)
plain (pos y) (negsuc m) d first last p a b c e g h = let z : ◌≡◌ {A = ℕ} 0 1 = cc in absurd (omega arith)
plain (negsuc y) m d first last p a b c e g h = let z : ◌≡◌ {A = ℕ} 0 1 = cc in absurd (omega arith)

pub le_left : (z b : ℤ) (t : Bool) → SFits w32 z → le_z (to_z w32 (of_z w32 z)) b ≡ t → le_z z b ≡ t
le_left z b t f e = ap (λ (x : ℤ). le_z x b) (sym (to_z-of_z f)) ∙ e

-- ---- a plain date is not refused
valid : (y m d : ℤ) → Plain y m d → valid_date y m d ≡ answer tt
valid y m d p = (next-is y m d _ p.same_month).0

pub plain-accepted : (y m d : ℤ) → Plain y m d → Accepted y m d
plain-accepted y m d p = date-accepted y m d (valid y m d p)

-- a call is handed its three numbers read back from their bits
pub read_plain : (y m d : ℤ) → SFits w32 y → SFits w32 m → SFits w32 d → Plain (to_z w32 (of_z w32 y)) (to_z w32 (of_z w32 m)) (to_z w32 (of_z w32 d))
    → Plain y m d
read_plain y m d f g h p = rw (to_z-of_z f, to_z-of_z g, to_z-of_z h) at p

-- and told of these again
pub read-offset : (rows : List Row) (y m : ℤ) → SFits w32 y → SFits w32 m → (s : Float)
    → ((mjd f : Float) → s ≡ offset_at rows (month_number (to_z w32 (of_z w32 y)) (nat_abs (to_z w32 (of_z w32 m)))) mjd f)
    → (mjd f : Float) → s ≡ offset_at rows (month_number y (nat_abs m)) mjd f
read-offset rows y m f g s e = rw (to_z-of_z f, to_z-of_z g) at e

pub read-rule : (rows : List Row) (y m : ℤ) → SFits w32 y → SFits w32 m → rule_at rows (to_z w32 (of_z w32 y)) (to_z w32 (of_z w32 m)) ≡ rule_at rows y m
read-rule rows y m f g = λ i. rule_at rows (to_z-of_z f i) (to_z-of_z g i)

-- ---- the offsets, where s is that of the month
module _ (rows : List Row) (y m d : ℤ) (p : Plain y m d) (s : Float) (e : (mjd f : Float) → s ≡ offset_at rows (month_number y (nat_abs m)) mjd f) where
  pub plain-offset : (f : Float) → in_day f ≡ true → answer s ≡ tai_utc_offset rows y m d f
  plain-offset f h = ap answer (e _ f) ∙ sym (offset-given rows y m d f h _ (mjd-given y m d (valid y m d p)))

  pub plain-offsets : answer (offsets s s s) ≡ day_offsets rows y m d
  unfolding offsets_of_day
  plain-offsets =
      (λ i. answer (offsets (e (of_int binary64 (mjd_number y m d)) nought i) (e (of_int binary64 (mjd_number y m d)) half i)
      (e (of_int binary64 (suc_ℤ (mjd_number y m d))) nought i)))
      ∙ sym (day-given rows y m d _ (mjd-given y m d (valid y m d p)) _ p.same_month)

  pub plain-leap : answer (sub binary64 s (sub binary64 (mul binary64 two_f s) s)) ≡ leap_at_end_of_day rows y m d
  unfolding leap_at_end_of_day leap_of onward
  plain-leap = ap (λ (o : Outcome DayOffsets). onward o (λ x. answer (leap_of x))) plain-offsets
