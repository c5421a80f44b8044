-- The midnight of the day of a date: its Modified Julian Date is the day number less 2400001, with no way through the calendar. Assumes nothing.
use mathlib.Core.Path.{◌≡◌, refl, sym, ap, ◌∙◌, subst}
use mathlib.Core.Bool.{Bool, true, false, cond}
use mathlib.Core.List.{List}
use mathlib.Core.Logic.{◌⊎◌, inl, inr}
use Prim.Native.Nat.{ℕ, ◌^◌, ◌≤◌}
use native.Mathlib.Omega.{arith}
use lib.Dec.{T, le→leb, lt→ltb}
use lib.IntN.{ℤ, pos, negsuc, nat_abs, ◌-ℤ◌}
use lib.Signed.{lt_z}
use lib.Ieee.{Float, binary64, of_int, in_float}
use mir.Syntax.{w32, w64}
use mir.Val.{SFits, to_z, of_z}
use mir.Facts.{to_z-of_z, to_z_pos}
use Rattle.rounding.proofs.Casts.{plus_z, minus_z, sub_le}
use Rattle.refusals.specs.Outcome.{Outcome, answer, refusal}
use Rattle.floats.specs.Whole.{nought}
use Rattle.constants.specs.Constants.{mjd_zero_point}
use Rattle.calendar.specs.declared.CalendarDate.{CalendarDate}
use Rattle.calendar.specs.Gregorian.{gregorian_date}
use Rattle.calendar.proofs.Accepted.{date-accepted}
use Rattle.calendar.proofs.Years.{valid_of, from-lower, gregorian_in_range, gregorian_valid, gregorian_refusal}
use Rattle.calendar.proofs.Mjd.{mjd-refused, mjd-of-date}
use Rattle.julian.specs.day_number.Ranges.{InDays}
use Rattle.julian.proofs.day_number.Ranges.{day-read}
use Rattle.julian.specs.declared.JulianDate.{JulianDate}
use Rattle.julian.specs.JulianDate.{julian}
use Rattle.julian.proofs.laws.CalendarDays.{not_above}
use Rattle.julian.proofs.Midnights.{midnight-given}
use Rattle.leap_table.specs.declared.offsets.DayOffsets.{DayOffsets}
use Rattle.leap_table.specs.rows.Table.{Row}
use Rattle.leap_table.proofs.offsets.Offsets.{in_day_zero, date_refused}
use Rattle.leap_table.proofs.offsets.Days.{day-refused}
use Rattle.utc_scales.specs.days.Dates.{offset_at0h, offsets_of, midnight_of}

-- the midnight of day n
abbrev pub midnight_of_day : ℤ → JulianDate
midnight_of_day n = julian mjd_zero_point (of_int binary64 (n -ℤ pos 2400001))

-- ---- a day number as the machine holds it
day_fits : (z : ℤ) → InDays z → SFits w64 z
day_fits (pos n) h = record { sfits = omega (arith, h.top) }
day_fits (negsuc n) h = record { sfits = omega (arith, h.bottom) }

day-small : (z : ℤ) → InDays z → nat_abs z ≤ 1000000000
day-small (pos n) h = h.top
day-small (negsuc n) h = omega (arith, h.bottom)

pub day-asked : (z : ℤ) → InDays z → nat_abs (to_z w64 (of_z w64 z)) ≤ 1000000000
day-asked z h = subst (λ (x : ℤ). nat_abs x ≤ 1000000000) (sym (day-read z h)) (day-small z h)

-- equal bits are equal days
pub same-day : (a b : ℤ) → SFits w64 a → SFits w64 b → of_z w64 a ≡ of_z w64 b → a ≡ b
same-day a b f g e = sym (to_z-of_z f) ∙ ap (to_z w64) e ∙ to_z-of_z g

-- ---- its Modified Julian Date
module _ (z : ℤ) (f : SFits w64 z) (h : nat_abs z ≤ 1000000000) where
  sides : (plus_z z ≤ 1000000000) × (minus_z z ≤ 1000000000)
  sides = go z h
    where
      go : (x : ℤ) → nat_abs x ≤ 1000000000 → (plus_z x ≤ 1000000000) × (minus_z x ≤ 1000000000)
      go (pos n) k = (k, omega arith)
      go (negsuc n) k = (omega arith, k)

  small : (plus_z (z -ℤ pos 2400001) ≤ 1002400001) × (minus_z (z -ℤ pos 2400001) ≤ 1002400001)
  small = let s = sub_le z (pos 2400001) in (omega (arith, s.0, sides.0), omega (arith, s.1, sides.1))

  fits : (x : ℤ) → (plus_z x ≤ 1002400001) × (minus_z x ≤ 1002400001) → SFits w64 x
  fits (pos n) k = record { sfits = omega (arith, k.0) }
  fits (negsuc n) k = record { sfits = omega (arith, k.1) }

  held : (x : ℤ) → (plus_z x ≤ 1002400001) × (minus_z x ≤ 1002400001) → T (in_float binary64 x)
  unfolding in_float
  held (pos n) k = le→leb n (2 ^ 53) (omega (arith, k.0))
  held (negsuc n) k = lt→ltb n (2 ^ 53) (omega (arith, k.1))

  less : to_z w64 (of_z w64 z) -ℤ pos 2400001 ≡ z -ℤ pos 2400001
  less = ap (λ (x : ℤ). x -ℤ pos 2400001) (to_z-of_z f)

  pub less-fits : SFits w64 (to_z w64 (of_z w64 z) -ℤ pos 2400001)
  less-fits = subst (λ (x : ℤ). SFits w64 x) (sym less) (fits (z -ℤ pos 2400001) small)

  pub less-read : to_z w64 (of_z w64 (to_z w64 (of_z w64 z) -ℤ pos 2400001)) ≡ z -ℤ pos 2400001
  less-read = to_z-of_z less-fits ∙ less

  pub less-held : T (in_float binary64 (to_z w64 (of_z w64 (to_z w64 (of_z w64 z) -ℤ pos 2400001))))
  less-held = subst (λ (x : ℤ). T (in_float binary64 x)) (sym less-read) (held (z -ℤ pos 2400001) small)

-- ---- a date of a day number, handed on as three signed numbers
module _ (n : ℤ) (t : CalendarDate) (e : t ≡ gregorian_date n) where
  pub month_fits : SFits w32 (pos t.month)
  month_fits = subst (λ (u : CalendarDate). SFits w32 (pos u.month)) (sym e) (record { sfits = omega (arith, (gregorian_in_range n).month-high) })

  pub day-of-month-fits : SFits w32 (pos t.day)
  day-of-month-fits = subst (λ (u : CalendarDate). SFits w32 (pos u.day)) (sym e) (record { sfits = omega (arith, (gregorian_in_range n).day-high) })

  pub handed : {A : Type 0} (f : ℤ → ℤ → ℤ → A) → SFits w32 t.year
      → f (to_z w32 (of_z w32 t.year)) (to_z w32 t.month) (to_z w32 t.day) ≡ f (gregorian_date n).year (pos (gregorian_date n).month)
      (pos (gregorian_date n).day)
  handed f y =
      (λ i. f (to_z-of_z y i) (to_z_pos w32 {n = t.month} (omega (arith, month_fits.sfits)) i)
      (to_z_pos w32 {n = t.day} (omega (arith, day-of-month-fits.sfits)) i))
      ∙ ap (λ (u : CalendarDate). f u.year (pos u.month) (pos u.day)) e

-- ---- THE MIDNIGHT of a day with a valid date
not_early : (b : Bool) → ◌≡◌ {A = Outcome Unit} (cond b (refusal 1) (answer tt)) (answer tt) → b ≡ false
not_early true e = let z : ◌≡◌ {A = ℕ} 0 1 = cc in absurd (omega arith)
not_early false e = refl

pub valid_midnight : (n : ℤ) → InDays n → valid_of (gregorian_date n) ≡ answer tt → midnight_of (gregorian_date n) ≡ answer (midnight_of_day n)
unfolding midnight_of
valid_midnight n r v =
    let t = gregorian_date n in
    let l = from-lower n (not_early (lt_z n (negsuc 31737)) (sym (gregorian_valid n) ∙ v)) in
    midnight-given t.year (pos t.month) (pos t.day) (n -ℤ pos 2400001)
    (mjd-of-date n l (not_above n r.top) (date-accepted t.year (pos t.month) (pos t.day) v).year)

-- a date whose offset is answered is valid
module _ (rows : List Row) (n : ℤ) where
  pub offset-early : valid_of (gregorian_date n) ≡ refusal 1 → offset_at0h rows (gregorian_date n) ≡ refusal 1
  unfolding offset_at0h
  offset-early v = let t = gregorian_date n in date_refused rows t.year (pos t.month) (pos t.day) nought in_day_zero 1
      (mjd-refused t.year (pos t.month) (pos t.day) 1 v)

  pub offsets-early : valid_of (gregorian_date n) ≡ refusal 1 → offsets_of rows (gregorian_date n) ≡ refusal 1
  unfolding offsets_of
  offsets-early v = let t = gregorian_date n in day-refused rows t.year (pos t.month) (pos t.day) 1
      (mjd-refused t.year (pos t.month) (pos t.day) 1 v)

  pub offset-valid : (x : Float) → offset_at0h rows (gregorian_date n) ≡ answer x → valid_of (gregorian_date n) ≡ answer tt
  offset-valid x e = go (gregorian_refusal n)
    where
      go : (valid_of (gregorian_date n) ≡ answer tt) ⊎ (valid_of (gregorian_date n) ≡ refusal 1) → valid_of (gregorian_date n) ≡ answer tt
      go (inl v) = v
      go (inr v) = let z : ◌≡◌ {A = ℕ} 0 1 = cc (offset-early v) in absurd (omega arith)

  pub offsets-valid : (o : DayOffsets) → offsets_of rows (gregorian_date n) ≡ answer o → valid_of (gregorian_date n) ≡ answer tt
  offsets-valid o e = go (gregorian_refusal n)
    where
      go : (valid_of (gregorian_date n) ≡ answer tt) ⊎ (valid_of (gregorian_date n) ≡ refusal 1) → valid_of (gregorian_date n) ≡ answer tt
      go (inl v) = v
      go (inr v) = let z : ◌≡◌ {A = ℕ} 0 1 = cc (offsets-early v) in absurd (omega arith)
