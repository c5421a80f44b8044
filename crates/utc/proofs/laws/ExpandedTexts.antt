-- UTC text with expanded years: demand 3 for every table that is taken, its lengths and refusals, and how it stands beside document 01's text. Assumes nothing.
use mathlib.Core.Path.{◌≡◌, refl}
use mathlib.Core.Bool.{false, ◌&&◌}
use mathlib.Core.Logic.{◌⊎◌}
use mathlib.Core.List.{List}
use Prim.Native.Nat.{ℕ}
use lib.Dec.{T}
use lib.IntN.{ℤ, pos, negsuc}
use lib.ListN.{length}
use lib.Ieee.{Float, binary64, fits}
use lib.Ieee.Scale.{finite}
use Rattle.std.specs.Prelude.{Ok, Err}
use Rattle.refusals.specs.declared.Refusal.{Refusal}
use Rattle.refusals.specs.Refusal.{refusal_number}
use Rattle.refusals.specs.Outcome.{Outcome, answer, refusal, onward}
use Rattle.floats.specs.Whole.{away}
use Rattle.calendar.specs.declared.CalendarDate.{CalendarDate}
use Rattle.calendar.specs.Calendar.{date, next, leap_size, lengths, days_in_month}
use Rattle.calendar.specs.Refusals.{valid_date, next_of}
use Rattle.julian.specs.day_number.ExactDay.{OnGrid, grid_sum, GridSumInRange}
use Rattle.julian.specs.declared.JulianDate.{JulianDate}
use Rattle.julian.specs.JulianDate.{julian}
use Rattle.leap_table.specs.rows.Table.{Row}
use Rattle.leap_table.specs.declared.rows.AnnouncedRows.{AnnouncedRows}
use Rattle.leap_table.specs.rows.Announced.{table_of}
use Rattle.time_of_day.specs.declared.TimeShown.{TimeShown}
use Rattle.time_of_day.specs.declared.TimeShown.TheVariants.{At, NextMidnight}
use Rattle.time_of_day.specs.TimeShown.{count_by, shown_by}
use Rattle.time_of_day.proofs.Rounded.{away-nearest}
use Rattle.utc.specs.text.Ascii.{ascii_bytes}
use Rattle.utc.specs.text.Text.{utc_text}
use Rattle.utc.specs.text.Expanded.{expanded_year, expanded_text}
use Rattle.utc.proofs.text.ExpandedLaws as Text
use Rattle.utc.specs.iso_texts.IsoText.{midnight, next_midnight_text_by, shown_text_by, day_text_by, iso_text_by, iso_text}
use Rattle.utc.specs.iso_texts.TextCall.{TextCall}
use Rattle.utc.specs.laws.Shows.{TextDemand}
use Rattle.utc.specs.laws.GoodForm.{GoodForm}
use Rattle.utc.specs.laws.OneText.{OneText}
use Rattle.utc.specs.iso_texts.Expanded.{expanded_form, iso_text_expanded}
use Rattle.utc.specs.laws.Promises.{expanded_promise}
use Rattle.utc.specs.laws.Beside.{Beside, refused, written}
use Rattle.utc.proofs.laws.TextForms.{near-501}
use Rattle.utc.proofs.laws.Demand3.{table-leaps, demand_3_by}
use Rattle.utc.proofs.laws.OneText.{text-for-every-buffer-by}
use Rattle.utc.proofs.laws.Numbers.{call-numbers-by, not_finite_by}
use Rattle.utc.proofs.laws.Lengths.{every_text, every_call}

-- ---- DEMAND 3
pub expanded-good : GoodForm expanded_form expanded_promise
expanded-good = record { near = near-501 away away-nearest; reads = Text.expanded-reads-back; form = Text.expanded-formed }

pub expanded-demand-3 : (t : AnnouncedRows) (rows : List Row) → table_of t ≡ answer rows → (x y : Float) → T (fits binary64 x) → T (fits binary64 y)
    → (a : OnGrid x) (b : OnGrid y) → GridSumInRange (grid_sum a b)
    → TextDemand expanded_promise rows (grid_sum a b) (iso_text_expanded rows (julian x y))
expanded-demand-3 t rows p = demand_3_by rows (table-leaps t rows p) expanded_form expanded_promise expanded-good

pub expanded-for-every-buffer : (t : AnnouncedRows) (rows : List Row) → table_of t ≡ answer rows → (sum : ℤ) → GridSumInRange sum
    → OneText expanded_form expanded_promise rows sum
expanded-for-every-buffer t rows p = text-for-every-buffer-by rows (table-leaps t rows p) expanded_form expanded_promise expanded-good

-- ---- over all floats: 23 or 27 bytes, and the numbers 6, 1 and 11
abbrev TwoLengths : ℕ → Type 0
TwoLengths n = (n ≡ 23) ⊎ (n ≡ 27)

pub expanded-text-length : (rows : List Row) (jd : JulianDate) (t : List ℕ) → iso_text_expanded rows jd ≡ answer t → (length t ≡ 23) ⊎ (length t ≡ 27)
expanded-text-length = every_text expanded_form (λ t. TwoLengths (length t)) Text.expanded-length

pub expanded-call-length : (rows : List Row) (jd : JulianDate) (l out : List ℕ) (n : ℕ) → TextCall (iso_text_expanded rows jd) l (Ok n) out → (n ≡ 23)
    ⊎ (n ≡ 27)
expanded-call-length rows jd = every_call expanded_form (λ t. TwoLengths (length t)) Text.expanded-length rows jd TwoLengths (λ t h. h)

pub expanded-numbers : (rows : List Row) (jd : JulianDate) (l out : List ℕ) (k : Refusal) → TextCall (iso_text_expanded rows jd) l (Err k) out →
    (refusal_number k ≡ 6)
    ⊎ ((refusal_number k ≡ 1) ⊎ (refusal_number k ≡ 11))
expanded-numbers = call-numbers-by expanded_form

pub expanded-not-finite : (rows : List Row) (jd : JulianDate) → finite jd.jd1 && finite jd.jd2 ≡ false → iso_text_expanded rows jd ≡ refusal 6
expanded-not-finite = not_finite_by expanded_form

-- ---- BESIDE DOCUMENT 01'S TEXT, over all floats: one refusal, or one date and time in both
onward-both : {A : Type 0} (o : Outcome A) (f g : A → Outcome (List ℕ)) → ((a : A) → Beside utc_text expanded_text (f a) (g a))
    → Beside utc_text expanded_text (onward o f) (onward o g)
unfolding onward
onward-both (answer a) f g h = h a
onward-both (refusal k) f g h = refused k refl refl

shown-both : (d : CalendarDate) (r : TimeShown) → Beside utc_text expanded_text (shown_text_by utc_text d r) (shown_text_by expanded_text d r)
unfolding shown_text_by next_midnight_text_by
shown-both d (At u) = written d u refl refl
shown-both d NextMidnight = onward-both _ _ _ (λ t. written t midnight refl refl)

pub beside : (rows : List Row) (jd : JulianDate) → Beside utc_text expanded_text (iso_text rows jd) (iso_text_expanded rows jd)
unfolding iso_text_by day_text_by
beside rows jd = onward-both _ _ _ (λ c. onward-both _ _ _ (λ leap. shown-both c.date (shown_by (count_by away) c.fraction leap)))

-- ---- CASES: the length is that of the year after the carry, 27 bytes past 9999 and 23 at year 0
pub carry_to_10000 : next_midnight_text_by expanded_text (date (pos 9999) 12 31)
    ≡ answer (ascii_bytes "+0010000-01-01T00:00:00.000")
unfolding next_midnight_text_by next_of next valid_date days_in_month leap_size lengths onward expanded_text expanded_year
carry_to_10000 = refl

pub carry_to_0 : next_midnight_text_by expanded_text (date (negsuc 0) 12 31)
    ≡ answer (ascii_bytes "0000-01-01T00:00:00.000")
unfolding next_midnight_text_by next_of next valid_date days_in_month leap_size lengths onward expanded_text expanded_year
carry_to_0 = refl
