-- UTC TO TAI IS FINITE, by every table that is taken and for all floats: where it gives a date, both parts are finite. The larger part stays, and the numbers
-- that are added to it are far below 2 ^ 969 in size, so that a finite part stays finite. Assumes nothing.
use mathlib.Core.Path.{◌≡◌, refl, sym, subst}
use mathlib.Core.Bool.{Bool, true, false}
use mathlib.Core.Logic.{inl, inr}
use mathlib.Core.List.{List}
use Prim.Native.Nat.{ℕ, ◌*◌, ◌^◌, ◌≤◌}
use native.Mathlib.Nat.{le_trans, mul-le-mul_right}
use lib.Dec.{lit≤}
use lib.IntN.{pos}
use lib.Ieee.{Float, binary64}
use lib.Ieee.Fits.{add-fits, sub-fits}
use lib.Ieee.Scale.{finite}
use Rattle.refusals.specs.Outcome.{answer}
use Rattle.rounding.specs.Value.{L}
use Rattle.rounding.proofs.Value.{L-is, val-finite-true}
use Rattle.rounding.proofs.Own.{own, own_val}
use Rattle.rounding.proofs.Bound.{within_more}
use Rattle.rounding.proofs.Sizes.{Size}
use Rattle.julian.specs.day_number.DayNumber.{accepted, day_of}
use Rattle.julian.specs.day_number.Ranges.{InDays}
use Rattle.julian.proofs.day_number.JulianRange.{accepted-finite}
use Rattle.julian.specs.declared.JulianDate.{JulianDate}
use Rattle.leap_table.specs.declared.offsets.DayOffsets.{DayOffsets}
use Rattle.leap_table.specs.declared.rows.AnnouncedRows.{AnnouncedRows}
use Rattle.leap_table.specs.rows.Table.{Row, fixed}
use Rattle.leap_table.specs.rows.Announced.{table_of}
use Rattle.leap_table.proofs.rows.NoRows.{none-announced, fixed-taken}
use Rattle.scales.specs.laws.Ranges.{Held, FiniteParts}
use Rattle.scales.proofs.laws.Shifts.{Small, added, taken-from, zero_point_small}
use Rattle.utc_scales.specs.days.LargerPart.{kept_parts, beside_as, put_beside, placed, change_smaller}
use Rattle.utc_scales.specs.days.Dates.{offsets_of}
use Rattle.utc_scales.specs.UtcTai.{tai_from_midnight, tai_fraction, utc_to_tai}
use Rattle.utc_scales.specs.laws.Claims.{Holds, answers, SixOrOne, Fits}
use Rattle.utc_scales.proofs.days.Midnights.{midnight_of_day, offsets-early}
use Rattle.utc_scales.proofs.Steps.{tai-no-date, tai-no-offsets, tai-of-day}
use Rattle.utc_scales.proofs.laws.Outcomes.{holds-answer, holds-refusal, holds-onward}
use Rattle.utc_scales.proofs.laws.Days.{date_in, Kind, outside, before, valid, kind, offsets-answered}
use Rattle.utc_scales.proofs.laws.Refusals.{parts-fit}
use Rattle.utc_scales.proofs.laws.OffsetSizes.{Offsets, offsets-size}
use Rattle.utc_scales.proofs.laws.DaySizes.{midnight-size, since-midnight-size}

-- 2 ^ k is at most 2 ^ 969: what it bounds moves no finite float to an infinity
pub size_small : (k : ℕ) {x : Float} → 2 ^ k ≤ 2 ^ 969 → Size x k → Small x
size_small k h s =
    let w = within_more (le_trans (mul-le-mul_right L h) top) s in
    record { p = w.p; n = w.n; val = w.val; high = w.high; low = w.low }
  where
    top : 2 ^ 969 * L ≤ 2 ^ 2043
    top = subst (λ (l : ℕ). 2 ^ 969 * l ≤ 2 ^ 2043) (sym L-is) (lit≤ tt)

kept-finite : (x y : Float) → Fits x → accepted x y ≡ true → finite x ≡ true
kept-finite x y f a = val-finite-true (own_val x (own x f (accepted-finite x y a).0))

-- ---- the smaller part
from-midnight-finite : (x y : Float) → Fits x → Fits y → accepted x y ≡ true → InDays (day_of x y).day → (o : DayOffsets) → Offsets o
    → finite (tai_from_midnight x (midnight_of_day (day_of x y).day) o (day_of x y).fraction) ≡ true
unfolding tai_from_midnight
from-midnight-finite x y f g a r o z =
    added (size_small 37 (lit≤ tt) (since-midnight-size x y f g a o z)) _ (add-fits binary64 _ _)
    (added (size_small 31 (lit≤ tt) (midnight-size (day_of x y).day r)) _ (sub-fits binary64 _ _) (taken-from zero_point_small x f (kept-finite x y f a)))

-- x is finite, and so is the other part in TAI
record Both (x z : Float) : Type 0 where
  kept : finite x ≡ true
  given : finite z ≡ true

put-finite : (d : JulianDate) (x : Float) → Both (kept_parts d).larger x → FiniteParts (put_beside (kept_parts d) x)
unfolding put_beside
put-finite d x h = go (kept_parts d).first
  where
    go : (b : Bool) → FiniteParts (beside_as b (kept_parts d).larger x)
    go true = (h.kept, h.given)
    go false = (h.given, h.kept)

-- ---- THE THEOREM, of every table that is taken
module _ (t : AnnouncedRows) (rows : List Row) (taken : table_of t ≡ answer rows) where
  tai-finite : (x y : Float) → Fits x → Fits y → Holds (Both x) SixOrOne (tai_fraction rows x y)
  unfolding offsets_of
  tai-finite x y f g = go (kind x y f g)
    where
      go : Kind x y → Holds (Both x) SixOrOne (tai_fraction rows x y)
      go (outside a e) = holds-refusal 6 (tai-no-date x y 6 e rows) (inl refl)
      go (before a e b v) = holds-refusal 1 (tai-no-offsets rows x y (day_of x y) e 1 (offsets-early rows (day_of x y).day v)) (inr refl)
      go (valid a e b v r) =
          let s = date_in x y in
          let o = offsets-answered rows (day_of x y).day v in
          let z = offsets-size t rows taken s.year (pos s.month) (pos s.day) o.0 o.1 in
          holds-answer _ (tai-of-day rows x y (day_of x y) e r o.0 o.1)
          (record { kept = kept-finite x y f a; given = from-midnight-finite x y f g a r o.0 z })

  pub table-utc-to-tai-never-infinite : (d : JulianDate) → Held d → Holds FiniteParts SixOrOne (utc_to_tai rows d)
  unfolding utc_to_tai change_smaller placed
  table-utc-to-tai-never-infinite d h =
      let p = parts-fit d h in
      holds-onward _ (tai-finite (kept_parts d).larger (kept_parts d).smaller p.0 p.1) (λ x w. answers (put-finite d x w))

-- of the fixed one
pub utc-to-tai-never-infinite : (d : JulianDate) → Held d → Holds FiniteParts SixOrOne (utc_to_tai fixed d)
utc-to-tai-never-infinite = table-utc-to-tai-never-infinite none-announced fixed fixed-taken
