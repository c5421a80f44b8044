-- THE TEXTS AND THE CALLS ON UTC AS ASKED, each by the theorems that it rests on, for every table that is taken. Assumes nothing.
use mathlib.Core.Path.{◌≡◌, ap, refl, ◌∙◌}
use mathlib.Core.Bool.{Bool, false, true}
use mathlib.Core.List.{List}
use Prim.Native.Nat.{ℕ, ◌*◌, ◌+◌, ◌<◌}
use native.Mathlib.Omega.{arith}
use lib.Dec.{ltb}
use lib.IntN.{ℤ}
use lib.Ieee.{Float, lt, of_bits}
use borrow.Author.Tests.{ltb-false, ltb-true}
use Rattle.std.specs.Prelude.{Err}
use Rattle.refusals.specs.Outcome.{Outcome, answer, onward, outcome}
use Rattle.refusals.proofs.Onward.{came, went}
use Rattle.calendar.specs.declared.CalendarDate.{CalendarDate}
use Rattle.julian.specs.declared.CalendarFields.{CalendarFields}
use Rattle.julian.specs.declared.JulianDate.{JulianDate}
use Rattle.julian.specs.Calendar.{julian_to_calendar}
use Rattle.leap_table.specs.declared.offsets.Rule.{Rule}
use Rattle.leap_table.specs.declared.rows.AnnouncedRows.{AnnouncedRows}
use Rattle.leap_table.specs.rows.Table.{Row}
use Rattle.leap_table.specs.offsets.Rule.{forget, rule_on, with_rule}
use Rattle.time_of_day.specs.declared.TimeOfDay.{TimeOfDay}
use Rattle.time_of_day.specs.ExactTime.{GoodTime, minus_one_f}
use Rattle.utc.specs.iso_texts.TextForm.{TextForm}
use Rattle.utc.specs.iso_texts.IsoText.{day_text_by}
use Rattle.utc.specs.iso_texts.ByRule.{text_by_rule}
use Rattle.utc.specs.laws.Calls.{CallsDecided, ExpandedLike01, HalvesAway, RefusedTextStays, ShortDay, TextsPassOn, TextsRefuse}
use Rattle.utc.proofs.text.ExpandedLaws.{expanded-1-before, expanded-12000, expanded-rest, expanded-same}
use Rattle.utc.proofs.iso_texts.TextRules.{rule-call-forgets, text-forgets}
use Rattle.utc.proofs.laws.Numbers as Text
use Rattle.utc.proofs.laws.HalfEvenTexts.{even-not-finite}
use Rattle.utc.proofs.laws.ExpandedTexts.{beside, expanded-not-finite}
use Rattle.utc.proofs.laws.Alike.{nothing_written}
use Rattle.utc.proofs.laws.Decided.{from-calendar-decided, leap-decided, offset-decided}
use Rattle.utc.proofs.laws.NewDecided.{new_decided}
use Rattle.utc.proofs.laws.TextDecided.{text-call-decided}
use Rattle.utc.proofs.laws.ShortDays.{short-day-refused, short-day-taken}

pub texts_refuse : (rows : List Row) (j : JulianDate) → TextsRefuse rows j
texts_refuse rows j h = (Text.not_finite rows j h, even-not-finite rows j h, expanded-not-finite rows j h)

pub calls_decided : (t : AnnouncedRows) (j : JulianDate) (x : Float) (y m d : ℤ) (n : ℕ) (before after : List ℕ) → CallsDecided t j x y m d n before after
calls_decided t j x y m d n before after = record {
  texts = λ form. text-call-decided t form j before after;
  offset = offset-decided t y m d x;
  leap = leap-decided t y m d;
  from_fields = λ m d hour minute. from-calendar-decided t y m d hour minute x;
  from_unix = new_decided t y n;
}

pub refused-text-stays : (before after : List ℕ) → RefusedTextStays before after
unfolding outcome forget onward
refused-text-stays before after o k c = nothing_written (forget o) before after k (rule-call-forgets o before after (Err k) (Err k) refl c)

pub halves_away : HalvesAway
halves_away f l = refl

-- ---- the rule that a text passes on
rule-passed : (form : TextForm) (rows : List Row) (d : JulianDate) (s : List ℕ) (r : Rule) → text_by_rule form rows d ≡ answer (s, r)
    → onward (julian_to_calendar d.jd1 d.jd2) (λ c. answer (rule_on rows c.date)) ≡ answer r
unfolding text_by_rule with_rule onward
rule-passed form rows d s r e =
    let (c, p, q) =
    came (julian_to_calendar d.jd1 d.jd2) (λ c. with_rule (day_text_by form rows c.date c.fraction) (rule_on rows c.date)) (s, r) e in
    let (a, u, v) = came (day_text_by form rows c.date c.fraction) (λ a. answer (a, rule_on rows c.date)) (s, r) q in
    went (λ (f : CalendarFields). answer (rule_on rows f.date)) p ∙ ap (λ (o : Outcome (List ℕ × Rule)). onward o (λ w. answer w.1)) v

pub texts-pass-on : (form : TextForm) (rows : List Row) (j : JulianDate) → TextsPassOn form rows j
texts-pass-on form rows j = (text-forgets form rows j, rule-passed form rows j)

pub expanded-like-01 : (rows : List Row) (j : JulianDate) (d : CalendarDate) (u : TimeOfDay) → ExpandedLike01 rows j d u
expanded-like-01 rows j d u = record {
  beside = beside rows j;
  to_9999 = expanded-same d u;
  after-year = expanded-rest d u;
  minus_1 = expanded-1-before;
  year_12000 = expanded-12000;
}

-- ---- a day that ends a second early
short-day-ends : (u : TimeOfDay) → GoodTime u minus_one_f → 3600000 * u.hour + 60000 * u.minute + 1000 * u.second + u.milli < 86399000
unfolding lt of_bits
short-day-ends u g = go (ltb u.hour 23) refl (ltb u.minute 59) refl
  where
    go : (a : Bool) → ltb u.hour 23 ≡ a → (b : Bool) → ltb u.minute 59 ≡ b
        → 3600000 * u.hour + 60000 * u.minute + 1000 * u.second + u.milli < 86399000
    go true e b f =
        let n = ltb-true u.hour 23 e in
        let m = g.minute in
        let s = g.second in
        let l = g.milli in
        omega arith
    go false e true f =
        let n = ltb-true u.minute 59 f in
        let h = g.hour in
        let s = g.second in
        let l = g.milli in
        omega arith
    go false e false f =
        let p = ltb-false u.hour 23 e in
        let q = ltb-false u.minute 59 f in
        let h = g.hour in
        let m = g.minute in
        let l = g.milli in
        let k = g.shorter tt (omega arith) (omega arith) in
        omega arith

pub short_day : (rows : List Row) (y : ℤ) (m d : ℕ) (second : Float) → ShortDay rows y m d second
short_day rows y m d second = record {
  text_ends = short-day-ends;
  refused = λ h. short-day-refused rows y m d h.0 h.1 second;
  taken = λ h b. (_, short-day-taken rows y m d h.0 h.1 second b);
}
