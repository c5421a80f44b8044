-- The sizes of what a day hands to UTC to TAI and to UTC to UT1, by every table that is taken: its midnight, the fraction of it, stretched, and TAI-UTC.
-- Assumes nothing.
use mathlib.Core.Path.{◌≡◌, refl, ◌∙◌}
use mathlib.Core.Bool.{true}
use mathlib.Core.Logic.{inl, inr}
use mathlib.Core.List.{List}
use native.Mathlib.Nat.{le_trans}
use native.Mathlib.Omega.{arith}
use lib.Dec.{lit≤}
use lib.IntN.{ℤ, pos, ◌-ℤ◌}
use lib.Ieee.{Float, binary64, of_int, add, div}
use Rattle.refusals.specs.Outcome.{answer}
use Rattle.floats.specs.Whole.{nought}
use Rattle.rounding.proofs.Casts.{sub_le}
use Rattle.rounding.proofs.Sizes.{Size, size-add, size-sub, size-mul, size-div, int_size, power_size}
use Rattle.constants.specs.Constants.{seconds_per_day}
use Rattle.julian.specs.day_number.DayNumber.{accepted, day_of, fraction_passed}
use Rattle.julian.specs.day_number.Ranges.{InDays}
use Rattle.julian.proofs.day_number.Accepted.{accepted-pair}
use Rattle.leap_table.specs.declared.offsets.DayOffsets.{DayOffsets}
use Rattle.leap_table.specs.declared.rows.AnnouncedRows.{AnnouncedRows}
use Rattle.leap_table.specs.rows.Table.{Row}
use Rattle.leap_table.specs.rows.Announced.{table_of}
use Rattle.leap_table.specs.offsets.Leap.{drift_rate, leap_amount}
use Rattle.utc_scales.specs.days.Dates.{offset_of_date, offset_at0h}
use Rattle.utc_scales.specs.UtcTai.{stretch_day_fraction}
use Rattle.utc_scales.specs.laws.Claims.{Holds, SixOrOne, Fits}
use Rattle.utc_scales.proofs.days.Midnights.{offset-early}
use Rattle.utc_scales.proofs.days.Steps.{offset-no-date, offset-of-day}
use Rattle.utc_scales.proofs.laws.Outcomes.{holds-answer, holds-refusal}
use Rattle.utc_scales.proofs.laws.Days.{date_in, Kind, outside, before, valid, kind, offset-answered}
use Rattle.utc_scales.proofs.laws.OffsetSizes.{offset-size, Offsets, zero_size, day-size, day-above}

-- ---- a day's midnight and the fraction of it
fraction-size : (x y : Float) → Fits x → Fits y → accepted x y ≡ true → Size (day_of x y).fraction 0
unfolding day_of fraction_passed
fraction-size x y f g e =
    let o = accepted-pair x y f g e in
    record { p = o.units; n = 0; val = o.val; high = omega (arith, o.below); low = omega arith }

pub midnight-size : (n : ℤ) → InDays n → Size (of_int binary64 (n -ℤ pos 2400001)) 31
midnight-size n r =
    let s = sub_le n (pos 2400001) in
    int_size 31 (n -ℤ pos 2400001) (lit≤ tt) (le_trans s.0 (omega (arith, r.top))) (le_trans s.1 (omega (arith, r.bottom)))

stretched_size : (o : DayOffsets) (f : Float) → Offsets o → Size f 0 → Size (stretch_day_fraction o f) 36
unfolding stretch_day_fraction leap_amount drift_rate
stretched_size o f s b =
    size-mul 18 18 (lit≤ tt)
    (size-mul 0 18 (lit≤ tt) b (size-div 18 (lit≤ tt) (size-add 17 15 18 (lit≤ tt) (lit≤ tt) day-size leap) day-above))
    (size-div 18 (lit≤ tt) (size-add 17 13 18 (lit≤ tt) (lit≤ tt) day-size drift) day-above)
  where
    drift : Size (drift_rate o) 13
    drift = size-mul 1 12 (lit≤ tt) (power_size 1) (size-sub 11 11 12 (lit≤ tt) (lit≤ tt) s.at-12h s.at-0h)

    leap : Size (leap_amount o) 15
    leap = size-sub 11 14 15 (lit≤ tt) (lit≤ tt) s.at-24h (size-add 11 13 14 (lit≤ tt) (lit≤ tt) s.at-0h drift)

-- the days since midnight, in TAI
pub since-midnight-size : (x y : Float) → Fits x → Fits y → accepted x y ≡ true → (o : DayOffsets) → Offsets o
    → Size (add binary64 (stretch_day_fraction o (day_of x y).fraction) (div binary64 o.at_0h seconds_per_day)) 37
since-midnight-size x y f g a o z =
    size-add 36 11 37 (lit≤ tt) (lit≤ tt) (stretched_size o (day_of x y).fraction z (fraction-size x y f g a)) (size-div 11 (lit≤ tt) z.at-0h day-above)

-- ---- TAI-UTC at 0h of the day of a pair of parts
module _ (t : AnnouncedRows) (rows : List Row) (taken : table_of t ≡ answer rows) where
  pub day-offset-size : (x y : Float) → Fits x → Fits y → Holds (λ z. Size z 11) SixOrOne (offset_of_date rows x y)
  unfolding offset_at0h
  day-offset-size x y f g = go (kind x y f g)
    where
      go : Kind x y → Holds (λ z. Size z 11) SixOrOne (offset_of_date rows x y)
      go (outside a e) = holds-refusal 6 (offset-no-date x y 6 e rows) (inl refl)
      go (before a e b v) = holds-refusal 1 (offset-of-day rows x y (day_of x y) e ∙ offset-early rows (day_of x y).day v) (inr refl)
      go (valid a e b v r) =
          let s = date_in x y in
          let o = offset-answered rows (day_of x y).day v in
          holds-answer o.0 (offset-of-day rows x y (day_of x y) e ∙ o.1)
          (offset-size t rows taken s.year (pos s.month) (pos s.day) nought o.0 (zero_size 0) o.1)
