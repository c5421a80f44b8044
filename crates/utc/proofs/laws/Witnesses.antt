-- Each number does occur: the table's three whatever is called, and the others with no announced rows. 4 of `UTC::new` and 11 of the text are computed cases of
-- worked_cases. Assumes nothing.
use mathlib.Core.Path.{◌≡◌, refl, sym, ap, ◌∙◌}
use mathlib.Core.Bool.{Bool, true, false, true≢false}
use mathlib.Core.Logic.{inl, inr}
use mathlib.Core.List.{List}
use Prim.Native.Nat.{ℕ, ◌-◌, ◌*◌, ◌≤◌}
use native.Mathlib.Omega.{arith}
use lib.IntN.{ℤ, pos, negsuc}
use lib.Signed.{lt_z}
use lib.Ieee.{Float, of_bits, nan, add, lt, le, eq}
use Rattle.refusals.specs.Outcome.{Outcome, answer, refusal, onward}
use Rattle.refusals.proofs.Onward.{stopped}
use Rattle.floats.specs.Whole.{nought}
use Rattle.calendar.specs.Calendar.{days_in_month, lengths, leap_size, date, next}
use Rattle.calendar.specs.Refusals.{valid_date, next_of}
use Rattle.calendar.specs.Gregorian.{gregorian_date}
use Rattle.calendar.proofs.Years.{year-before-first}
use Rattle.julian.specs.day_number.DayNumber.{accepted, in_julian_range, day_of}
use Rattle.julian.specs.declared.day_number.DayNumber.{DayNumber}
use Rattle.julian.proofs.day_number.Answer.{answer-is}
use Rattle.julian.proofs.day_number.Ends.{lowest, exact-at-lowest}
use Rattle.julian.specs.JulianDate.{julian}
use Rattle.julian.specs.DayFraction.{time_in_day}
use Rattle.julian.specs.declared.JulianDate.{JulianDate}
use Rattle.leap_table.specs.declared.rows.AnnouncedRows.{AnnouncedRows}
use Rattle.leap_table.specs.declared.offsets.Rule.{Rule}
use Rattle.leap_table.specs.rows.Table.{Row, fixed}
use Rattle.leap_table.specs.rows.Announced.{rows_of, table_of}
use Rattle.leap_table.specs.offsets.Offset.{in_day}
use Rattle.leap_table.specs.offsets.Leap.{leap_at_end_of_day}
use Rattle.leap_table.specs.offsets.Rule.{offset_by_rule}
use Rattle.leap_table.proofs.offsets.Days.{leap-given}
use Rattle.leap_table.proofs.rows.NoRows.{none-announced, fixed-taken}
use Rattle.leap_table.proofs.rows.Cases.{unequal_sizes, last-month-again, no_second}
use Rattle.utc.specs.FromCalendar.{utc_from_calendar}
use Rattle.utc.specs.UnixTime.{unix_day, utc_new}
use Rattle.utc.specs.iso_texts.TextForm.{TextForm}
use Rattle.utc.specs.iso_texts.ByRule.{text_by_rule}
use Rattle.utc.specs.laws.Ladder.{Ladder, Decided}
use Rattle.utc.specs.laws.Ladders.{table_first}
use Rattle.utc.proofs.laws.Ladders.{after_table}
use Rattle.utc.proofs.laws.Decided.{offset-decided, leap-decided, from-calendar-decided}
use Rattle.utc.proofs.laws.NewDecided.{new_decided}
use Rattle.utc.proofs.laws.TextDecided.{text-decided}

-- ---- 20, 21 and 22, whatever is called
pub table-numbers-occur : {A : Type 0} (call : List Row → Outcome A) → ((t : AnnouncedRows) × (onward (table_of t) call ≡ refusal 20))
    × ((t : AnnouncedRows) × (onward (table_of t) call ≡ refusal 21)) × ((t : AnnouncedRows) × (onward (table_of t) call ≡ refusal 22))
table-numbers-occur call = ((_, stopped call unequal_sizes), (_, stopped call last-month-again), (_, stopped call no_second))

-- ---- the others, with no announced rows
abbrev plain : {A : Type 0} → (List Row → Outcome A) → Outcome A
plain call = onward (table_of none-announced) call

decided : {A : Type 0} {o : Outcome A} {l : Ladder} → Decided o (table_first none-announced l) → Decided o l
decided d = after_table none-announced fixed fixed-taken d

no : ◌≡◌ {A = Bool} false true → ⊥
no e = true≢false (sym e)

-- -4800-12-31, 2000-13-01, 1900-02-29, and the last date
abbrev offset : ℤ → ℤ → ℤ → Float → Outcome (Float × Rule)
offset y m d f = plain (λ rows. offset_by_rule rows y m d f)

pub offset-numbers-occur : (offset (pos 2000) (pos 13) (pos 1) nan ≡ refusal 7) × (offset (negsuc 4799) (pos 12) (pos 31) nought ≡ refusal 1)
    × (offset (pos 2000) (pos 13) (pos 1) nought ≡ refusal 2) × (offset (pos 1900) (pos 2) (pos 29) nought ≡ refusal 3)
unfolding in_day le lt eq days_in_month lengths leap_size
offset-numbers-occur =
    let f = offset-decided none-announced in (
      (decided (f (pos 2000) (pos 13) (pos 1) nan)).refuses 7 (inl (refl, refl)),
      (decided (f (negsuc 4799) (pos 12) (pos 31) nought)).refuses 1 (inr (true≢false, inl (refl, refl))),
      (decided (f (pos 2000) (pos 13) (pos 1) nought)).refuses 2 (inr (true≢false, inr (no, inl (refl, refl)))),
      (decided (f (pos 1900) (pos 2) (pos 29) nought)).refuses 3 (inr (true≢false, inr (no, inr (no, inl (refl, refl))))),
    )

abbrev leap : ℤ → ℤ → ℤ → Outcome Float
leap y m d = plain (λ rows. leap_at_end_of_day rows y m d)

pub leap-numbers-occur : (leap (negsuc 4799) (pos 12) (pos 31) ≡ refusal 1) × (leap (pos 2000) (pos 13) (pos 1) ≡ refusal 2)
    × (leap (pos 1900) (pos 2) (pos 29) ≡ refusal 3) × (leap (pos 2147483647) (pos 12) (pos 31) ≡ refusal 5)
unfolding days_in_month lengths leap_size
leap-numbers-occur =
    let f = leap-decided none-announced in (
      (decided (f (negsuc 4799) (pos 12) (pos 31))).refuses 1 (inl (refl, refl)),
      (decided (f (pos 2000) (pos 13) (pos 1))).refuses 2 (inr (no, inl (refl, refl))),
      (decided (f (pos 1900) (pos 2) (pos 29))).refuses 3 (inr (no, inr (no, inl (refl, refl)))),
      (decided (f (pos 2147483647) (pos 12) (pos 31))).refuses 5 (inr (no, inr (no, inr (no, inl (refl, refl))))),
    )

abbrev from_calendar : ℤ → ℕ → ℕ → ℕ → Outcome JulianDate
from_calendar y m d hour = plain (λ rows. utc_from_calendar rows y m d hour 0 nought)

leap-on-2000 : (x : Float) × (leap_at_end_of_day (rows_of none-announced) (pos 2000) (pos 1) (pos 1) ≡ answer x)
unfolding next_of next valid_date days_in_month lengths leap_size onward
leap-on-2000 = (_, leap-given (rows_of none-announced) (pos 2000) (pos 1) (pos 1) (date (pos 2000) 1 2) refl)

-- 4 at hour 24 of 2000-01-01
pub from-calendar-numbers-occur : (from_calendar (negsuc 4799) 12 31 0 ≡ refusal 1) × (from_calendar (pos 2000) 13 1 0 ≡ refusal 2)
    × (from_calendar (pos 1900) 2 29 0 ≡ refusal 3) × (from_calendar (pos 2147483647) 12 31 0 ≡ refusal 5) × (from_calendar (pos 2000) 1 1 24 ≡ refusal 4)
unfolding days_in_month lengths leap_size time_in_day
from-calendar-numbers-occur =
    let f = from-calendar-decided none-announced in (
      (decided (f (negsuc 4799) 12 31 0 0 nought)).refuses 1 (inl (refl, refl)),
      (decided (f (pos 2000) 13 1 0 0 nought)).refuses 2 (inr (no, inl (refl, refl))),
      (decided (f (pos 1900) 2 29 0 0 nought)).refuses 3 (inr (no, inr (no, inl (refl, refl)))),
      (decided (f (pos 2147483647) 12 31 0 0 nought)).refuses 5 (inr (no, inr (no, inr (no, inl (refl, refl))))),
      (decided (f (pos 2000) 1 1 24 0 nought)).refuses 4 (inr (no, inr (no, inr (no, inr (no, inl ((leap-on-2000.0, leap-on-2000.1, refl), refl)))))),
    )

-- the day after the last, the last before -4799-01-01
abbrev new : ℤ → ℕ → Outcome JulianDate
new seconds nanos = plain (λ rows. utc_new rows seconds nanos)

abbrev after_last : ℤ
after_last = pos (997559413 * 86400)

abbrev too-early : ℤ
too-early = negsuc (2472327 * 86400 - 1)

pub new_numbers_occur : (new (pos 0) 1000000000 ≡ refusal 8) × (new after_last 0 ≡ refusal 6) × (new too-early 0 ≡ refusal 1)
unfolding unix_day
new_numbers_occur = (
  (decided (new_decided none-announced (pos 0) 1000000000 (record { sfits = omega arith }))).refuses 8 (inl (omega arith, refl)),
  (decided (new_decided none-announced after_last 0 (record { sfits = omega arith }))).refuses 6 (inr (few, inl (refl, refl))),
  (decided (new_decided none-announced too-early 0 (record { sfits = omega arith }))).refuses 1
      (inr (few, inr (no, inl (year-before-first (negsuc 31738) refl, refl)))),
)
  where
    few : 1000000000 ≤ 0 → ⊥
    few h = omega arith

-- in every form: a NaN, and -68569.5, the midnight of -4900-03-01
abbrev text : TextForm → Float → Float → Outcome (List ℕ × Rule)
text textForm x y = plain (λ rows. text_by_rule textForm rows (julian x y))

nan_outside : accepted nan nought ≡ false
unfolding accepted in_julian_range of_bits add le lt eq
nan_outside = refl

lowest_inside : accepted lowest nought ≡ false → ⊥
lowest_inside e = true≢false (sym (answer-is lowest nought _ exact-at-lowest).0 ∙ e)

lowest_early : lt_z (gregorian_date (day_of lowest nought).day).year (negsuc 4798) ≡ true
unfolding gregorian_date
lowest_early = ap (λ (d : DayNumber). lt_z (gregorian_date d.day).year (negsuc 4798)) (answer-is lowest nought _ exact-at-lowest).1
    ∙ year-before-first (negsuc 68568) refl

pub text-numbers-occur : (textForm : TextForm) → (text textForm nan nought ≡ refusal 6) × (text textForm lowest nought ≡ refusal 1)
text-numbers-occur textForm = (
  (decided (text-decided none-announced textForm (julian nan nought))).refuses 6 (inl (nan_outside, refl)),
  (decided (text-decided none-announced textForm (julian lowest nought))).refuses 1 (inr (lowest_inside, inl (lowest_early, refl))),
)
