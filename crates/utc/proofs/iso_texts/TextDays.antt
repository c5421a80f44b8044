-- A text with its rule, by the calendar's day that every form of text is written by. Assumes nothing.
use Prim.Native.Nat.{ℕ, ◌≤◌}
use native.Mathlib.Omega.{arith}
use mathlib.Core.Path.{◌≡◌, refl, ap, ◌∙◌, subst}
use mathlib.Core.List.{List}
use lib.IntN.{pos}
use lib.Ieee.{Float}
use Rattle.refusals.specs.Outcome.{Outcome, answer, refusal, onward}
use Rattle.calendar.specs.declared.CalendarDate.{CalendarDate}
use Rattle.julian.specs.declared.JulianDate.{JulianDate}
use Rattle.julian.specs.declared.CalendarFields.{CalendarFields}
use Rattle.julian.specs.Calendar.{julian_to_calendar}
use Rattle.julian.proofs.Dates.{date-in-range}
use Rattle.leap_table.specs.declared.offsets.Rule.{Rule}
use Rattle.leap_table.specs.rows.Table.{Row}
use Rattle.leap_table.specs.offsets.Leap.{leap_at_end_of_day}
use Rattle.leap_table.specs.offsets.Rule.{with_rule}
use Rattle.time_of_day.specs.TimeShown.{shown_by}
use Rattle.utc.specs.iso_texts.TextForm.{TextForm}
use Rattle.utc.specs.iso_texts.IsoText.{shown_text_by, day_text_by}
use Rattle.utc.specs.iso_texts.ByRule.{rule_on, text_by_rule}
use Rattle.utc.specs.declared.iso_texts.TextDay.{TextDay}
use Rattle.utc.specs.iso_texts.TextDay.{day_with_leap, text_day}

module _ (textForm : TextForm) (rows : List Row) (jd : JulianDate) where
  -- the text and the rule of a day
  abbrev on_day : TextDay → Outcome (List ℕ × Rule)
  on_day d = with_rule (shown_text_by textForm.write d.date (shown_by textForm.count d.fraction d.leap)) d.rule

  by_day : text_by_rule textForm rows jd ≡ onward (text_day rows jd) on_day
  unfolding text_by_rule day_text_by text_day day_with_leap onward with_rule
  by_day = go (julian_to_calendar jd.jd1 jd.jd2)
    where
      leap : (d : CalendarDate) (f : Float) (w : Outcome Float)
          → with_rule (onward w (λ l. shown_text_by textForm.write d (shown_by textForm.count f l))) (rule_on rows d)
          ≡ onward (onward w (λ l. answer (record { date = d; fraction = f; leap = l; rule = rule_on rows d }))) on_day
      leap d f (answer l) = refl
      leap d f (refusal k) = refl

      go : (w : Outcome CalendarFields) → onward w (λ c. with_rule (day_text_by textForm rows c.date c.fraction) (rule_on rows c.date))
          ≡ onward (onward w (λ c. day_with_leap rows c.date c.fraction)) on_day
      go (answer c) = leap c.date c.fraction (leap_at_end_of_day rows c.date.year (pos c.date.month) (pos c.date.day))
      go (refusal k) = refl

  pub day-refused : (k : ℕ) → text_day rows jd ≡ refusal k → text_by_rule textForm rows jd ≡ refusal k
  unfolding onward
  day-refused k e = by_day ∙ ap (λ (o : Outcome TextDay). onward o on_day) e

  pub day-given : (d : TextDay) → text_day rows jd ≡ answer d
      → text_by_rule textForm rows jd ≡ with_rule (shown_text_by textForm.write d.date (shown_by textForm.count d.fraction d.leap)) d.rule
  unfolding onward
  day-given d e = by_day ∙ ap (λ (o : Outcome TextDay). onward o on_day) e

-- the month and the day are those of the calendar
pub day-in-range : (rows : List Row) (jd : JulianDate) (d : TextDay) → text_day rows jd ≡ answer d → (d.date.month ≤ 12) × (d.date.day ≤ 31)
unfolding text_day day_with_leap onward
day-in-range rows jd d e = go (julian_to_calendar jd.jd1 jd.jd2) refl e
  where
    In : CalendarDate → Type 0
    In x = (x.month ≤ 12) × (x.day ≤ 31)

    leap : (x : CalendarDate) (f : Float) (w : Outcome Float) → In x
        → onward w (λ l. answer (record { date = x; fraction = f; leap = l; rule = rule_on rows x })) ≡ answer d → In d.date
    leap x f (answer l) h q =
        let same : ◌≡◌ {A = TextDay} (record { date = x; fraction = f; leap = l; rule = rule_on rows x }) d = cc in
        subst In (ap (λ (y : TextDay). y.date) same) h
    leap x f (refusal k) h q = let z : ◌≡◌ {A = ℕ} 0 1 = cc in absurd (omega arith)

    go : (w : Outcome CalendarFields) → julian_to_calendar jd.jd1 jd.jd2 ≡ w → onward w (λ c. day_with_leap rows c.date c.fraction) ≡ answer d
        → In d.date
    go (answer c) p q =
        let r = date-in-range _ _ c p in
        leap c.date c.fraction (leap_at_end_of_day rows c.date.year (pos c.date.month) (pos c.date.day))
        (omega (arith, r.month-high), omega (arith, r.day-high)) q
    go (refusal k) p q = let z : ◌≡◌ {A = ℕ} 0 1 = cc in absurd (omega arith)
