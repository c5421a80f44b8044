-- The forms of text are good: what demand 3 needs of document 01's. Assumes nothing.
use Prim.Native.Nat.{ℕ, ◌*◌, ◌^◌, ◌<◌}
use mathlib.Core.Bool.{Bool}
use lib.Dec.{lit<}
use lib.Ieee.{Float}
use Rattle.floats.specs.Whole.{away}
use Rattle.calendar.specs.declared.CalendarDate.{CalendarDate}
use Rattle.julian.specs.day_number.ExactDay.{fraction_of}
use Rattle.julian.proofs.day_number.ExactDay.{fraction-exact}
use Rattle.time_of_day.specs.declared.TimeOfDay.{TimeOfDay}
use Rattle.time_of_day.specs.Milliseconds.{whole_leap}
use Rattle.time_of_day.specs.TimeShown.{count_by}
use Rattle.time_of_day.specs.Nearest.{Nearest}
use Rattle.time_of_day.specs.ExactTime.{Leap, DayLength, TimeWithin}
use Rattle.time_of_day.proofs.Rounded.{away-nearest}
use Rattle.time_of_day.proofs.Fractions.{fraction-of}
use Rattle.time_of_day.proofs.Close.{close_501}
use Rattle.time_of_day.proofs.Shows.{count-near}
use Rattle.utc.specs.text.Text.{utc_text}
use Rattle.utc.specs.text.ReadBack.{Writable}
use Rattle.utc.proofs.text.ReadBack.{reads_back, written-length}
use Rattle.utc.proofs.text.Form.{well_formed}
use Rattle.utc.proofs.text.YearZeros.{year-filled-to-four}
use Rattle.utc.specs.iso_texts.IsoText.{standard_form}
use Rattle.utc.specs.laws.Shows.{Form01, promise01}
use Rattle.utc.specs.laws.GoodForm.{GoodForm}
use Rattle.utc.proofs.laws.Sums.{fraction-fits}

-- ---- a count by any rule that rounds to a nearest whole number is within 0.501 ms
pub near-501 : (how : Bool → ℕ → ℕ → ℕ) → Nearest how → (F : ℕ) → F < 2 ^ 52 → (x : Float) → Leap x → (W E : ℕ) → 0 < E → DayLength x W E
    → TimeWithin 1000 501 (count_by how (fraction_of F) (whole_leap x) * E) F (2 ^ 52) W E
near-501 how rule F h x s W E G d =
    let v = fraction-exact F h in
    close_501 (count_by how (fraction_of F) (whole_leap x) * E) F (2 ^ 52) W E
    (count-near how rule (fraction_of F) x (fraction-fits F) (fraction-of (fraction_of F) F (2 ^ 52) (lit< tt) v h) s F (2 ^ 52) W E G v d)

-- ---- document 01's
pub form01 : (d : CalendarDate) (u : TimeOfDay) → Writable d u → Form01 (utc_text d u)
form01 d u w = record { form = well_formed d u; year_filled = year-filled-to-four d u w; shortest = (written-length d u).0; longest = (written-length d u).1 }

pub good01 : GoodForm standard_form promise01
good01 = record { near = near-501 away away-nearest; reads = reads_back; form = form01 }
