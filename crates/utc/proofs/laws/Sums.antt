-- A sum from -68569.5 to 10^9 and its divisions into two parts on the grid: its exact day is one that the calendar has, and the text of each division is that
-- of the exact day and the exact fraction. Assumes nothing.
use mathlib.Core.Path.{◌≡◌, sym, subst}
use mathlib.Core.Bool.{false}
use mathlib.Core.List.{List}
use Prim.Native.Nat.{ℕ, ◌^◌}
use native.Mathlib.Omega.{arith}
use lib.Dec.{T}
use lib.IntN.{ℤ}
use lib.Ieee.{binary64, fits}
use lib.Ieee.Fits.{round-fits}
use Rattle.refusals.specs.Outcome.{Outcome}
use Rattle.calendar.specs.Calendar.{date_of}
use Rattle.julian.specs.day_number.ExactDay.{GridSumInRange, exact_day, exact_fraction, fraction_of}
use Rattle.julian.specs.day_number.Ranges.{InDays}
use Rattle.julian.specs.declared.JulianDate.{JulianDate}
use Rattle.julian.proofs.laws.CalendarDays.{day-low, day-high, exact-date}
use Rattle.leap_table.specs.rows.Table.{Row}
use Rattle.utc.specs.iso_texts.TextForm.{TextForm}
use Rattle.utc.specs.iso_texts.IsoText.{day_text_by, iso_text_by}
use Rattle.utc.specs.laws.OneText.{Division}
use Rattle.utc.proofs.iso_texts.TextCalls.{fields-given-by}

pub in-days : (sum : ℤ) → GridSumInRange sum → InDays (exact_day sum)
in-days sum r = record { top = day-high sum r; bottom = omega (arith, day-low sum r) }

pub fraction-fits : (u : ℕ) → T (fits binary64 (fraction_of u))
unfolding fraction_of
fraction-fits u = round-fits binary64 false u (2 ^ 52)

-- the text of the exact day and the exact fraction
abbrev pub sum_text : TextForm → List Row → ℤ → Outcome (List ℕ)
sum_text textForm rows sum = day_text_by textForm rows (date_of (exact_day sum)) (fraction_of (exact_fraction sum))

pub of_sum : (textForm : TextForm) (rows : List Row) (sum : ℤ) → GridSumInRange sum → (jd : JulianDate) → Division sum jd
    → iso_text_by textForm rows jd ≡ sum_text textForm rows sum
of_sum textForm rows sum r jd d =
    subst (λ (s : ℤ). iso_text_by textForm rows jd ≡ sum_text textForm rows s) d.sum_is
    (fields-given-by textForm rows jd _
    (exact-date jd.jd1 jd.jd2 d.first_float d.second_float d.first d.second (subst GridSumInRange (sym d.sum_is) r)))
