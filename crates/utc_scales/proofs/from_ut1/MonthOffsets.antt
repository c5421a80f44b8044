-- From 1972 on no row drifts, so that TAI-UTC at 0h of one day of a month is that of each of its days. Assumes nothing.
use mathlib.Core.Path.{◌≡◌, refl, sym, ap, ◌∙◌}
use mathlib.Core.Bool.{Bool, true, false, cond, ◌||◌}
use mathlib.Core.List.{List}
use mathlib.Core.Logic.{◌⊎◌, inl, inr}
use Prim.Native.Nat.{ℕ, ◌≤◌}
use native.Mathlib.Omega.{arith}
use lib.IntN.{ℤ, pos, negsuc}
use lib.Signed.{lt_z, le_z}
use lib.Ieee.{Float, binary64, of_int}
use mir.Syntax.{w32}
use mir.Val.{SFits, to_z, of_z}
use mir.Facts.{to_z-of_z}
use borrow.Author.Tests.{leb-true}
use Rattle.refusals.specs.Outcome.{Outcome, answer, refusal}
use Rattle.floats.specs.Whole.{nought}
use Rattle.calendar.specs.Calendar.{days_in_month}
use Rattle.calendar.specs.Refusals.{valid_date}
use Rattle.calendar.specs.Gregorian.{gregorian_date}
use Rattle.calendar.proofs.Years.{valid_of, gregorian_in_range, gregorian_refusal}
use Rattle.calendar.proofs.Mjd.{mjd-given}
use Rattle.leap_table.specs.declared.rows.AnnouncedRows.{AnnouncedRows}
use Rattle.leap_table.specs.rows.Table.{month_number}
use Rattle.leap_table.specs.rows.Announced.{rows_of}
use Rattle.leap_table.specs.offsets.Offset.{offset_at}
use Rattle.leap_table.proofs.offsets.ByParts.{seconds-reached}
use Rattle.leap_table.proofs.offsets.Offsets.{in_day_zero, offset-given, offset-came}
use Rattle.utc_scales.specs.declared.from_ut1.months.KnownMonth.{KnownMonth}
use Rattle.utc_scales.specs.days.Dates.{offset_at0h}
use Rattle.utc_scales.specs.from_ut1.KnownMonths.{RightMonth}

-- equal bits are equal years
pub same_bits : (a b : ℤ) → SFits w32 a → SFits w32 b → of_z w32 a ≡ of_z w32 b → a ≡ b
same_bits a b f g e = sym (to_z-of_z f) ∙ ap (to_z w32) e ∙ to_z-of_z g

-- ---- a date of 1972 or later is not refused
not_early : (y : ℤ) → le_z (pos 1972) y ≡ true → lt_z y (negsuc 4798) ≡ false
not_early (pos y) e = refl
not_early (negsuc y) e = let z : ◌≡◌ {A = ℕ} 0 1 = cc in absurd (omega arith)

not_one : (y m d : ℤ) → lt_z y (negsuc 4798) ≡ false → valid_date y m d ≡ refusal 1 → ⊥
unfolding valid_date
not_one y m d e v = go (lt_z m (pos 1) || lt_z (pos 12) m) (lt_z d (pos 1) || lt_z (pos (days_in_month y m)) d)
    (sym (ap (λ (b : Bool). cond b (refusal 1)
    (cond (lt_z m (pos 1) || lt_z (pos 12) m) (refusal 2) (cond (lt_z d (pos 1) || lt_z (pos (days_in_month y m)) d) (refusal 3) (answer tt)))) e) ∙ v)
  where
    go : (b c : Bool) → ◌≡◌ {A = Outcome Unit} (cond b (refusal 2) (cond c (refusal 3) (answer tt))) (refusal 1) → ⊥
    go true c v = let z : ◌≡◌ {A = ℕ} 2 1 = cc in absurd (omega arith)
    go false true v = let z : ◌≡◌ {A = ℕ} 3 1 = cc in absurd (omega arith)
    go false false v = let z : ◌≡◌ {A = ℕ} 0 1 = cc in absurd (omega arith)

valid_late : (n : ℤ) → le_z (pos 1972) (gregorian_date n).year ≡ true → valid_of (gregorian_date n) ≡ answer tt
valid_late n e = go (gregorian_refusal n)
  where
    go : (valid_of (gregorian_date n) ≡ answer tt) ⊎ (valid_of (gregorian_date n) ≡ refusal 1) → valid_of (gregorian_date n) ≡ answer tt
    go (inl v) = v
    go (inr v) = absurd (not_one (gregorian_date n).year (pos (gregorian_date n).month) (pos (gregorian_date n).day) (not_early (gregorian_date n).year e) v)

late : (y : ℤ) (m : ℕ) → le_z (pos 1972) y ≡ true → 1 ≤ m → 23664 ≤ month_number y m
unfolding month_number
late (pos y) m p h = omega (arith, leb-true 1972 y p)
late (negsuc y) m p h = let z : ◌≡◌ {A = ℕ} 0 1 = cc in absurd (omega arith)

-- ---- the offset of the day of number a is that of its month
module _ (t : AnnouncedRows) where
  same-offset : (n : ℕ) → 23664 ≤ n → (x y : Float) → offset_at (rows_of t) n x nought ≡ offset_at (rows_of t) n y nought
  same-offset n h x y = sym (seconds-reached t n _ h refl _ refl x nought) ∙ seconds-reached t n _ h refl _ refl y nought

  pub month-right : (a : ℤ) (k : KnownMonth) → k.year ≡ (gregorian_date a).year → k.month ≡ (gregorian_date a).month
      → offset_at0h (rows_of t) (gregorian_date a) ≡ answer k.seconds → RightMonth (rows_of t) k
  unfolding RightMonth offset_at0h
  month-right a k ey em e n fy fm l =
      let b = gregorian_date n in
      let u = gregorian_date a in
      let lt : le_z (pos 1972) b.year ≡ true = ap (le_z (pos 1972)) fy ∙ l in
      let same : month_number b.year b.month ≡ month_number u.year u.month = (λ i. month_number ((fy ∙ ey) i) ((fm ∙ em) i)) in
      let (z, p, q) = offset-came (rows_of t) u.year (pos u.month) (pos u.day) nought k.seconds e in
      offset-given (rows_of t) b.year (pos b.month) (pos b.day) nought in_day_zero _
      (mjd-given b.year (pos b.month) (pos b.day) (valid_late n lt))
      ∙ ap answer (same-offset (month_number b.year b.month) (late b.year b.month lt (gregorian_in_range n).month-low) _ (of_int binary64 z)
      ∙ ap (λ (w : ℕ). offset_at (rows_of t) w (of_int binary64 z) nought) same ∙ sym q)
