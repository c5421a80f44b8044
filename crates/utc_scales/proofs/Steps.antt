-- UTC to TAI and back step by step: what each is where the day number and the date's offsets are known. Assumes nothing.
use mathlib.Core.Path.{◌≡◌, ap, ◌∙◌}
use mathlib.Core.List.{List}
use Prim.Native.Nat.{ℕ}
use lib.IntN.{pos}
use lib.Ieee.{Float}
use Rattle.refusals.specs.Outcome.{answer, refusal}
use Rattle.refusals.proofs.Onward.{went, stopped, came}
use Rattle.floats.specs.Whole.{nought, half}
use Rattle.calendar.specs.declared.CalendarDate.{CalendarDate}
use Rattle.calendar.specs.Refusals.{next_of}
use Rattle.calendar.specs.Gregorian.{gregorian_date}
use Rattle.julian.specs.declared.day_number.DayNumber.{DayNumber}
use Rattle.julian.specs.day_number.Answer.{day_number_and_fraction}
use Rattle.julian.specs.day_number.Ranges.{InDays}
use Rattle.julian.proofs.laws.CalendarDays.{fields-of}
use Rattle.leap_table.specs.declared.offsets.DayOffsets.{DayOffsets}
use Rattle.leap_table.specs.rows.Table.{Row}
use Rattle.leap_table.specs.offsets.Offset.{tai_utc_offset}
use Rattle.leap_table.specs.offsets.Leap.{offsets, day_offsets}
use Rattle.utc_scales.specs.days.Dates.{offset_at0h, offsets_of}
use Rattle.utc_scales.proofs.days.Midnights.{midnight_of_day, valid_midnight, offsets-valid}
use Rattle.utc_scales.proofs.days.Steps.{no_date}
use Rattle.utc_scales.specs.UtcTai.{tai_from_midnight, tai_fraction}

-- ---- a pair of parts with no day number
pub tai-no-date : (x y : Float) (n : ℕ) → day_number_and_fraction x y ≡ refusal n → (rows : List Row) → tai_fraction rows x y ≡ refusal n
unfolding tai_fraction
tai-no-date x y n e rows = stopped _ (no_date x y n e)

-- ---- a pair with one
module _ (rows : List Row) (x y : Float) (d : DayNumber) (e : day_number_and_fraction x y ≡ answer d) where
  pub tai-no-offsets : (n : ℕ) → offsets_of rows (gregorian_date d.day) ≡ refusal n → tai_fraction rows x y ≡ refusal n
  unfolding tai_fraction
  tai-no-offsets n p = went _ (fields-of x y d e) ∙ stopped _ p

  pub tai-of-day : InDays d.day → (o : DayOffsets) → offsets_of rows (gregorian_date d.day) ≡ answer o
      → tai_fraction rows x y ≡ answer (tai_from_midnight x (midnight_of_day d.day) o d.fraction)
  unfolding tai_fraction
  tai-of-day r o p = went _ (fields-of x y d e) ∙ went _ p ∙ went _ (valid_midnight d.day r (offsets-valid rows d.day o p))

-- ---- the offset at 0h, from the offsets of the day
pub offsets-first : (rows : List Row) (t : CalendarDate) (o : DayOffsets) → offsets_of rows t ≡ answer o → offset_at0h rows t ≡ answer o.at_0h
unfolding offsets_of offset_at0h day_offsets
offsets-first rows t o e =
    let (a, p, q) = came (tai_utc_offset rows t.year (pos t.month) (pos t.day) nought) _ o e in
    let (b, r, s) = came (tai_utc_offset rows t.year (pos t.month) (pos t.day) half) _ o q in
    let (u, v, w) = came (next_of t.year (pos t.month) (pos t.day)) _ o s in
    let (c, x, y) = came (tai_utc_offset rows u.year (pos u.month) (pos u.day) nought) _ o w in
    let k : offsets a b c ≡ o = cc in
    p ∙ ap (λ (z : DayOffsets). answer z.at_0h) k
