-- DEMAND 3 of UTC text, for parts on the grid whose exact sum is from -68569.5 to 10^9: the text is refused with 1 exactly where the exact day's year is before
-- -4799, and else shows the exact day and time or the next day's midnight. The theorems hold for any table whose leaps are of the cases of `Leap`; that those
-- of the fixed table are is leap_days'; and for any good form of text. Assumes nothing.
use mathlib.Core.Path.{◌≡◌, refl, sym, ap, ◌∙◌, subst}
use mathlib.Core.Bool.{Bool, true, false, cond, true≢false}
use mathlib.Core.List.{List, []}
use Prim.Native.Nat.{ℕ, ◌*◌, ◌^◌, ◌<◌}
use native.Mathlib.Nat.{le_of_lt}
use native.Mathlib.Omega.{arith}
use lib.Dec.{T}
use lib.IntN.{ℤ, negsuc}
use lib.Signed.{lt_z}
use lib.Ieee.{Float, binary64, fits}
use Rattle.refusals.specs.Outcome.{answer, refusal}
use Rattle.calendar.specs.declared.CalendarDate.{CalendarDate}
use Rattle.calendar.specs.Calendar.{date_of, next}
use Rattle.julian.specs.day_number.ExactDay.{OnGrid, grid_sum, GridSumInRange, exact_day, exact_fraction, fraction_of}
use Rattle.julian.specs.day_number.Ranges.{InDays}
use Rattle.julian.proofs.day_number.ExactDay.{exact-day}
use Rattle.julian.specs.JulianDate.{julian}
use Rattle.leap_table.specs.rows.Table.{Row, fixed}
use Rattle.leap_table.specs.offsets.Leap.{leap_at_end_of_day}
use Rattle.leap_days.specs.Leaps as Table
use Rattle.leap_table.specs.declared.rows.AnnouncedRows.{AnnouncedRows}
use Rattle.leap_table.specs.rows.Announced.{table_of}
use Rattle.leap_days.proofs.Every.{every_leap}
use Rattle.leap_days.proofs.TableLeaps.{table-leap}
use Rattle.leap_days.proofs.Seconds.{small-not-over}
use Rattle.time_of_day.specs.declared.TimeOfDay.{TimeOfDay}
use Rattle.time_of_day.specs.declared.TimeShown.{TimeShown}
use Rattle.time_of_day.specs.declared.TimeShown.TheVariants.{At, NextMidnight}
use Rattle.time_of_day.specs.Milliseconds.{whole_leap}
use Rattle.time_of_day.specs.TimeShown.{shown_by}
use Rattle.time_of_day.specs.ExactTime.{Leap, little, second, first, minus_second, TimeWithin, GoodTime, Good, shown_ms, ShownWithin}
use Rattle.time_of_day.proofs.Shows.{shown-within}
use Rattle.utc.specs.text.ReadBack.{Writable, ReadsAs}
use Rattle.utc.proofs.text.ReadBack.{said_ms}
use Rattle.utc.specs.iso_texts.TextForm.{TextForm}
use Rattle.utc.specs.iso_texts.IsoText.{midnight, iso_text_by, iso_text, standard_form}
use Rattle.utc.specs.laws.Shows.{Promise, promise01, on-day, next_midnight, time_shown, TextRight, too_early, TextDemand}
use Rattle.utc.specs.laws.GoodForm.{GoodForm}
use Rattle.utc.proofs.laws.ShownDates.{early-refused, in_range, date-valid, next-is, next-in-range}
use Rattle.utc.proofs.laws.DayTexts.{text_by, text-refused-by, leap_on, has-leap, has-text-by}
use Rattle.utc.proofs.laws.Sums.{in-days, sum_text, of_sum}
use Rattle.utc.proofs.laws.TextForms.{good01}

-- ---- the cases of leap: every leap of a table that is taken is one
case-of : (x : Float) → Table.TableLeap x → Leap x
case-of x (Table.within t) = little (small-not-over x t)
case-of x (Table.second e) = subst Leap (sym e) second
case-of x (Table.first e) = subst Leap (sym e) first
case-of x (Table.shorter e) = subst Leap (sym e) minus_second

pub table-leaps : (t : AnnouncedRows) (rows : List Row) → table_of t ≡ answer rows → (y m d : ℤ) (x : Float) → leap_at_end_of_day rows y m d ≡ answer x → Leap x
table-leaps t rows p y m d x e = case-of x (table-leap t rows p y m d x e)

pub fixed-leaps : (y m d : ℤ) (x : Float) → leap_at_end_of_day fixed y m d ≡ answer x → Leap x
fixed-leaps y m d x e = case-of x (every_leap y m d x e)

-- ---- what is shown, read back from the text's own digits
module _ (textForm : TextForm) (p : Promise) (good : GoodForm textForm p) (n : ℤ) (low : lt_z (date_of n).year (negsuc 4798) ≡ false) (i : InDays n) (F : ℕ)
    (x : Float) where
  writable : (u : TimeOfDay) → GoodTime u (whole_leap x) → Writable (date_of n) u
  writable u g =
      let r = in_range n low i in
      record {
        year_low = r.year_low;
        year_high = r.year_high;
        month = r.month-high;
        day = r.day-high;
        hour = g.hour;
        minute = g.minute;
        second =
            g.second;
        milli = g.milli;
      }

  writable_next : Writable (next (date_of n)) midnight
  writable_next =
      let r = next-in-range n low i in
      record {
        year_low = r.year_low;
        year_high = r.year_high;
        month = r.month-high;
        day = r.day-high;
        hour = omega arith;
        minute = omega arith;
        second =
            omega arith;
        milli = omega arith;
      }

  pub right : (r : TimeShown) → ShownWithin (p.c x) (p.e x) F (2 ^ 52) x r → TextRight p (text_by textForm.write (date_of n) r) n F x
  unfolding Good shown_ms time_shown
  right (At u) s =
      let w = writable u s.good in
      let said = good.reads (date_of n) u w in
      record {
        form = good.form (date_of n) u w;
        day = on-day u said s.good;
        near = λ W E h d. subst (λ (k : ℕ). TimeWithin (p.c x) (p.e x) (k * E) F (2 ^ 52) W E) (sym (said_ms said)) (s.near W E h d);
      }
  right NextMidnight s = record {
    form = good.form (next (date_of n)) midnight writable_next;
    day = next_midnight (subst (λ (d : CalendarDate). ReadsAs (textForm.write (next (date_of n)) midnight) d midnight) (sym (next-is n low i))
        (good.reads (next (date_of n)) midnight writable_next));
    near = λ W E h d. s.near W E h d;
  }

-- ---- DEMAND 3, in any good form
module _ (rows : List Row) (cases : (y m d : ℤ) (x : Float) → leap_at_end_of_day rows y m d ≡ answer x → Leap x) (textForm : TextForm) (p : Promise)
    (good : GoodForm textForm p) where
  -- the count is near, and so is what it shows
  shown : (F : ℕ) → F < 2 ^ 52 → (x : Float) → Leap x → ShownWithin (p.c x) (p.e x) F (2 ^ 52) x (shown_by textForm.count (fraction_of F) x)
  unfolding shown_by
  shown F h x s = shown-within (p.c x) (p.e x) F (2 ^ 52) (textForm.count (fraction_of F) (whole_leap x)) x s (le_of_lt h) (good.near F h x s)

  pub sum-demand : (sum : ℤ) → GridSumInRange sum → TextDemand p rows sum (sum_text textForm rows sum)
  sum-demand sum range = go (too_early sum) refl
    where
      n : ℤ
      n = exact_day sum

      F : ℕ
      F = exact_fraction sum

      f : Float
      f = fraction_of F

      below : F < 2 ^ 52
      below = (exact-day sum).below

      i : InDays n
      i = in-days sum range

      go : (t : Bool) → too_early sum ≡ t → TextDemand p rows sum (sum_text textForm rows sum)
      go true e = record {
        text = [];
        is = text-refused-by rows (date_of n) textForm f 1 (early-refused n e) ∙ ap (λ (t : Bool). cond t (refusal 1) (answer [])) (sym e);
        leap = f;
        leap_is = λ q. absurd (true≢false (sym e ∙ q));
        right = λ q. absurd (true≢false (sym e ∙ q));
      }
      go false e =
          let ok = date-valid n e i in
          let high = (in_range n e i).year_high in
          let leap = leap_on rows (date_of n) ok high in
          let text = text_by textForm.write (date_of n) (shown_by textForm.count f leap) in
          let given = has-leap rows (date_of n) ok high in
          record {
            text = text;
            is = has-text-by rows (date_of n) ok high textForm f ∙ ap (λ (t : Bool). cond t (refusal 1) (answer text)) (sym e);
            leap = leap;
            leap_is = λ q. given;
            right = λ q. right textForm p good n e i F leap (shown_by textForm.count f leap) (shown F below leap (cases _ _ _ leap given));
          }

  pub demand_3_by : (x y : Float) → T (fits binary64 x) → T (fits binary64 y) → (a : OnGrid x) (b : OnGrid y) → GridSumInRange (grid_sum a b)
      → TextDemand p rows (grid_sum a b) (iso_text_by textForm rows (julian x y))
  demand_3_by x y fx fy a b r =
      subst (TextDemand p rows (grid_sum a b))
      (sym (of_sum textForm rows (grid_sum a b) r (julian x y) (record { first_float = fx; second_float = fy; first = a; second = b; sum_is = refl })))
      (sum-demand (grid_sum a b) r)

-- ---- DEMAND 3 of document 01's form: for every table that is taken, and for the fixed one
pub table-demand-3 : (t : AnnouncedRows) (rows : List Row) → table_of t ≡ answer rows → (x y : Float) → T (fits binary64 x) → T (fits binary64 y)
    → (a : OnGrid x) (b : OnGrid y) → GridSumInRange (grid_sum a b) → TextDemand promise01 rows (grid_sum a b) (iso_text rows (julian x y))
table-demand-3 t rows p = demand_3_by rows (table-leaps t rows p) standard_form promise01 good01

pub demand_3 : (x y : Float) → T (fits binary64 x) → T (fits binary64 y) → (a : OnGrid x) (b : OnGrid y) → GridSumInRange (grid_sum a b)
    → TextDemand promise01 fixed (grid_sum a b) (iso_text fixed (julian x y))
demand_3 = demand_3_by fixed fixed-leaps standard_form promise01 good01
