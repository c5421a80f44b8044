-- The offset at a fraction of a day, by its cases: the fraction refused, the date refused, and the offset of the month's row.
-- Assumes nothing.
use Rattle.std.proofs.Common.{◌≡◌, ℕ, Bool, true, false, cond, List, ℤ, nat_abs, refl, arith}
use lib.Ieee.{Float, binary64, of_int, le}
use Rattle.refusals.specs.Outcome.{Outcome, answer, refusal, onward}
use Rattle.floats.specs.Whole.{nought, half, one}
use Rattle.calendar.specs.DayCount.{mjd_of}
use Rattle.leap_table.specs.rows.Table.{Row, month_number}
use Rattle.leap_table.specs.offsets.Offset.{offset_at, in_day, tai_utc_offset}

-- ---- the two tests of the code
pub too_low : (f : Float) → le nought f ≡ false → in_day f ≡ false
unfolding in_day
too_low f e = rw e

pub too_high : (f : Float) → le nought f ≡ true → le f one ≡ false → in_day f ≡ false
unfolding in_day
too_high f e g = rw (e, g)

pub in-day : (f : Float) → le nought f ≡ true → le f one ≡ true → in_day f ≡ true
unfolding in_day
in-day f e g = rw (e, g)

pub in_day_zero : in_day nought ≡ true
unfolding in_day le
in_day_zero = refl

pub in_day_half : in_day half ≡ true
unfolding in_day le
in_day_half = refl

-- ---- each case
module _ (rows : List Row) (y m d : ℤ) (f : Float) where
  pub fraction-refused : in_day f ≡ false → tai_utc_offset rows y m d f ≡ refusal 7
  unfolding tai_utc_offset
  fraction-refused e = rw e

  pub date_refused : in_day f ≡ true → (k : ℕ) → mjd_of y m d ≡ refusal k → tai_utc_offset rows y m d f ≡ refusal k
  unfolding tai_utc_offset onward
  date_refused e k p = rw (e, p)

  pub offset-given : in_day f ≡ true → (n : ℤ) → mjd_of y m d ≡ answer n
      → tai_utc_offset rows y m d f ≡ answer (offset_at rows (month_number y (nat_abs m)) (of_int binary64 n) f)
  unfolding tai_utc_offset onward
  offset-given e n p = rw (e, p)

-- ---- an offset that is given comes from a date that is not refused
came : (b : Bool) (o : Outcome ℤ) (g : ℤ → Float) (x : Float) → cond b (onward o (λ n. answer (g n))) (refusal 7) ≡ answer x → (n : ℤ) × (o ≡ answer n)
    × (x ≡ g n)
unfolding onward
came true (answer n) g x e = (n, refl, cc)
came true (refusal k) g x e = let z : ◌≡◌ {A = ℕ} 0 1 = cc in absurd (omega arith)
came false o g x e = let z : ◌≡◌ {A = ℕ} 0 1 = cc in absurd (omega arith)

pub offset-came : (rows : List Row) (y m d : ℤ) (f x : Float) → tai_utc_offset rows y m d f ≡ answer x → (n : ℤ) × (mjd_of y m d ≡ answer n)
    × (x ≡ offset_at rows (month_number y (nat_abs m)) (of_int binary64 n) f)
unfolding tai_utc_offset
offset-came rows y m d f x e = came (in_day f) (mjd_of y m d) (λ n. offset_at rows (month_number y (nat_abs m)) (of_int binary64 n) f) x e

in_day_of : (b : Bool) (o : Outcome Float) (x : Float) → cond b o (refusal 7) ≡ answer x → b ≡ true
in_day_of true o x e = refl
in_day_of false o x e = let z : ◌≡◌ {A = ℕ} 0 1 = cc in absurd (omega arith)

pub offset-in-day : (rows : List Row) (y m d : ℤ) (f x : Float) → tai_utc_offset rows y m d f ≡ answer x → in_day f ≡ true
unfolding tai_utc_offset
offset-in-day rows y m d f x e = in_day_of (in_day f) (onward (mjd_of y m d) (λ n. answer (offset_at rows (month_number y (nat_abs m)) (of_int binary64 n) f)))
    x e
