-- UTC text with a half millisecond to the even one: demand 3 for every table that is taken, with 0.5 ms on days of whole seconds; its lengths and refusals,
-- which are those of document 01's text. Assumes nothing.
use mathlib.Core.Path.{◌≡◌}
use mathlib.Core.Bool.{false, ◌&&◌}
use mathlib.Core.Logic.{◌⊎◌}
use mathlib.Core.List.{List}
use Prim.Native.Nat.{ℕ, ◌*◌, ◌^◌, ◌≤◌, ◌<◌}
use lib.Dec.{T}
use lib.IntN.{ℤ}
use lib.ListN.{length}
use lib.Ieee.{Float, binary64, fits}
use lib.Ieee.Scale.{finite}
use Rattle.std.specs.Prelude.{Ok, Err}
use Rattle.refusals.specs.declared.Refusal.{Refusal}
use Rattle.refusals.specs.Refusal.{refusal_number}
use Rattle.refusals.specs.Outcome.{answer, refusal}
use Rattle.julian.specs.day_number.ExactDay.{OnGrid, grid_sum, GridSumInRange, fraction_of}
use Rattle.julian.proofs.day_number.ExactDay.{fraction-exact}
use Rattle.julian.specs.declared.JulianDate.{JulianDate}
use Rattle.julian.specs.JulianDate.{julian}
use Rattle.leap_table.specs.rows.Table.{Row}
use Rattle.leap_table.specs.declared.rows.AnnouncedRows.{AnnouncedRows}
use Rattle.leap_table.specs.rows.Announced.{table_of}
use Rattle.time_of_day.specs.Milliseconds.{whole_leap}
use Rattle.time_of_day.specs.HalfEven.{even_count}
use Rattle.time_of_day.specs.EvenPromise.{even_parts, even_most}
use Rattle.time_of_day.specs.ExactTime.{Leap, DayLength, TimeWithin}
use Rattle.time_of_day.proofs.EvenExact.{even-exact}
use Rattle.utc.proofs.text.ReadBack as Read
use Rattle.utc.specs.iso_texts.IsoText.{iso_text, standard_form}
use Rattle.utc.specs.iso_texts.TextCall.{TextCall}
use Rattle.utc.specs.laws.Shows.{TextDemand}
use Rattle.utc.specs.laws.GoodForm.{GoodForm}
use Rattle.utc.specs.laws.OneText.{OneText}
use Rattle.utc.specs.iso_texts.HalfEven.{half_even_form, iso_text_half_even}
use Rattle.utc.specs.laws.Promises.{even_promise}
use Rattle.utc.proofs.laws.Sums.{fraction-fits}
use Rattle.utc.proofs.laws.TextForms.{form01}
use Rattle.utc.proofs.laws.Demand3.{table-leaps, demand_3_by}
use Rattle.utc.proofs.laws.OneText.{text-for-every-buffer-by}
use Rattle.utc.proofs.laws.Numbers.{call-numbers-by, not_finite_by, refused-alike}
use Rattle.utc.proofs.laws.Lengths.{Length01, every_text, every_call}

-- ---- DEMAND 3
near : (F : ℕ) → F < 2 ^ 52 → (x : Float) → Leap x → (W E : ℕ) → 0 < E → DayLength x W E
    → TimeWithin (even_parts x) (even_most x) (even_count (fraction_of F) (whole_leap x) * E) F (2 ^ 52) W E
near F h = even-exact (fraction_of F) F (fraction-fits F) (fraction-exact F h) h

pub even-good : GoodForm half_even_form even_promise
even-good = record { near = near; reads = Read.reads_back; form = form01 }

pub even-demand-3 : (t : AnnouncedRows) (rows : List Row) → table_of t ≡ answer rows → (x y : Float) → T (fits binary64 x) → T (fits binary64 y)
    → (a : OnGrid x) (b : OnGrid y) → GridSumInRange (grid_sum a b)
    → TextDemand even_promise rows (grid_sum a b) (iso_text_half_even rows (julian x y))
even-demand-3 t rows p = demand_3_by rows (table-leaps t rows p) half_even_form even_promise even-good

pub even-for-every-buffer : (t : AnnouncedRows) (rows : List Row) → table_of t ≡ answer rows → (sum : ℤ) → GridSumInRange sum
    → OneText half_even_form even_promise rows sum
even-for-every-buffer t rows p = text-for-every-buffer-by rows (table-leaps t rows p) half_even_form even_promise even-good

-- ---- over all floats: 23 to 26 bytes, the numbers 6, 1 and 11, and 6 and 1 exactly where document 01's text has them
pub even-text-length : (rows : List Row) (jd : JulianDate) (t : List ℕ) → iso_text_half_even rows jd ≡ answer t → (23 ≤ length t) × (length t ≤ 26)
even-text-length = every_text half_even_form (λ t. Length01 (length t)) Read.written-length

pub even-call-length : (rows : List Row) (jd : JulianDate) (l out : List ℕ) (n : ℕ) → TextCall (iso_text_half_even rows jd) l (Ok n) out → (23 ≤ n) ×
    (n ≤ 26)
even-call-length rows jd = every_call half_even_form (λ t. Length01 (length t)) Read.written-length rows jd Length01 (λ t h. h)

pub even-numbers : (rows : List Row) (jd : JulianDate) (l out : List ℕ) (k : Refusal) → TextCall (iso_text_half_even rows jd) l (Err k) out →
    (refusal_number k ≡ 6)
    ⊎ ((refusal_number k ≡ 1) ⊎ (refusal_number k ≡ 11))
even-numbers = call-numbers-by half_even_form

pub even-not-finite : (rows : List Row) (jd : JulianDate) → finite jd.jd1 && finite jd.jd2 ≡ false → iso_text_half_even rows jd ≡ refusal 6
even-not-finite = not_finite_by half_even_form

pub even-refused : (rows : List Row) (jd : JulianDate) (k : ℕ) → iso_text rows jd ≡ refusal k → iso_text_half_even rows jd ≡ refusal k
even-refused = refused-alike standard_form half_even_form

pub refused-as-even : (rows : List Row) (jd : JulianDate) (k : ℕ) → iso_text_half_even rows jd ≡ refusal k → iso_text rows jd ≡ refusal k
refused-as-even = refused-alike half_even_form standard_form
