-- Each UTC text is answered as its reading deserves under the table, and as nothing else: the verdict is the answer, both ways, and only 15, 16, 2, 3 and 4 are
-- refusals. Assumes nothing.
use Prim.Native.Nat.{ℕ, ◌^◌, ◌<◌}
use native.Mathlib.Omega.{arith}
use mathlib.Core.Path.{◌≡◌, refl, sym, ap, ◌∙◌, subst}
use mathlib.Core.List.{List}
use mathlib.Core.Bool.{Bool, true, false}
use lib.IntN.{pos}
use lib.Signed.{lt_z}
use lib.Ieee.{Float}
use borrow.Author.Tests.{le-ltb}
use Rattle.refusals.specs.Outcome.{Outcome, answer, refusal, onward}
use Rattle.numerals.specs.digits.Decimal.{number}
use Rattle.numerals.proofs.digits.Decimal.{number-below}
use Rattle.calendar.specs.declared.CalendarDate.{CalendarDate}
use Rattle.calendar.specs.Refusals.{valid_date}
use Rattle.julian.specs.declared.JulianDate.{JulianDate}
use Rattle.julian.specs.DayFraction.{time_in_day, day_fraction}
use Rattle.leap_table.specs.rows.Table.{Row}
use Rattle.utc.specs.FromCalendar.{midnight_plus, utc_from_calendar}
use Rattle.utc.proofs.laws.FromCalendars.{on-date, time-given}
use Rattle.utc.proofs.laws.DayTexts.{has-leap}
use Rattle.utc.proofs.laws.Numbers.{not_both}
use Rattle.parsing.specs.declared.ParsedDateTime.{ParsedDateTime}
use Rattle.parsing.specs.declared.ParsedUtc.{ParsedUtc}
use Rattle.parsing.specs.scan.Written.{Written}
use Rattle.parsing.specs.Grammar.{Reads}
use Rattle.parsing.specs.Parsed.{fields_of, parsed, dated, parsed_utc}
use Rattle.parsing_laws.specs.Shown.{with_date}
use Rattle.parsing_laws.specs.Verdict.{Verdict, outside, too_many_digits, bad_date, bad_time, fields}
use Rattle.parsing_laws.specs.UtcVerdict.{LeapOfDate, UtcVerdict, no_fields, not_in_day, dated_so}
use Rattle.parsing_laws.proofs.Ladder.{deserved, verdict, ReaderNumber, four, only-numbers}

-- fields that are answered have a valid date
answered-date : (t : List ℕ) (o : Outcome ParsedDateTime) (p : ParsedDateTime) → Verdict true t o → o ≡ answer p
    → valid_date p.year (pos p.month) (pos p.day) ≡ answer tt
answered-date t _ p (outside n) e = absurd (not_both (answer p) p 15 refl (sym e))
answered-date t _ p (too_many_digits w r h) e = absurd (not_both (answer p) p 16 refl (sym e))
answered-date t _ p (bad_date w k r h d) e = absurd (not_both (answer p) p k refl (sym e))
answered-date t _ p (bad_time w r h d n) e = absurd (not_both (answer p) p 4 refl (sym e))
answered-date t _ p (fields w r h d s) e = let i : fields_of w ≡ p =
    cc in subst (λ (q : ParsedDateTime). valid_date q.year (pos q.month) (pos q.day) ≡ answer tt) i d

-- ---- fields by their time
module _ (rows : List Row) (p : ParsedDateTime) (v : valid_date p.year (pos p.month) (pos p.day) ≡ answer tt) (x : Float)
    (leap : LeapOfDate rows p x) where
  -- a time that the day does not have is 4
  late : time_in_day p.hour p.minute p.second x ≡ false → dated rows p ≡ refusal 4
  unfolding dated midnight_plus day_fraction onward
  late h = rw (on-date rows p.year p.month p.day p.hour p.minute p.second v x leap, h)

date-beside : (rows : List Row) (p : ParsedDateTime) (jd : JulianDate)
    → utc_from_calendar rows p.year p.month p.day p.hour p.minute p.second ≡ answer jd
    → dated rows p ≡ answer (with_date p jd)
unfolding dated onward
date-beside rows p jd e = rw e

-- a case of the verdict is the answer
pub utc-deserved : (rows : List Row) (t : List ℕ) (o : Outcome ParsedUtc) → UtcVerdict rows t o → parsed_utc rows t ≡ o
unfolding parsed_utc onward
utc-deserved rows t _ (no_fields k w) = ap (λ (o : Outcome ParsedDateTime). onward o (dated rows)) (deserved true t (refusal k) w)
utc-deserved rows t _ (not_in_day p x w l h) = ap (λ (o : Outcome ParsedDateTime). onward o (dated rows)) (deserved true t (answer p) w)
    ∙ late rows p (answered-date t (answer p) p w refl) x l h
utc-deserved rows t _ (dated_so p x jd w l h e) = ap (λ (o : Outcome ParsedDateTime). onward o (dated rows)) (deserved true t (answer p) w)
    ∙ date-beside rows p jd e

-- ---- the answer is a case of the verdict
-- a year of four digits has a next day
year-four : (t : List ℕ) (w : Written) → Reads true t w → lt_z (pos 2733194) (pos w.year) ≡ false
year-four t w r =
    let b : number r.pieces.year < 10 ^ 4 =
    subst (λ (n : ℕ). number r.pieces.year < 10 ^ n) r.year.many (number-below r.pieces.year r.year.all) in
    let i : w.year ≡ number r.pieces.year = r.year_is in
    le-ltb 2733194 w.year (omega arith)

module _ (rows : List Row) (t : List ℕ) (w : Written) (r : Reads true t w) (v : valid_date (pos w.year) (pos w.month) (pos w.day) ≡ answer tt)
    (said : Verdict true t (answer (fields_of w))) where
  by_time : (x : Float) → LeapOfDate rows (fields_of w) x → (b : Bool) → time_in_day w.hour w.minute (fields_of w).second x ≡ b
      → UtcVerdict rows t (dated rows (fields_of w))
  by_time x l true h =
      let e = time-given rows (pos w.year) w.month w.day w.hour w.minute (fields_of w).second v x l h in
      subst (UtcVerdict rows t) (sym (date-beside rows (fields_of w) _ e)) (dated_so (fields_of w) x _ said l h e)
  by_time x l false h = subst (UtcVerdict rows t) (sym (late rows (fields_of w) v x l h)) (not_in_day (fields_of w) x said l h)

  abbrev date : CalendarDate
  date = record { year = pos w.year; month = w.month; day = w.day }

  by-leap : UtcVerdict rows t (dated rows (fields_of w))
  by-leap = by_time _ (has-leap rows date v (year-four t w r)) _ refl

pub utc-verdict : (rows : List Row) (t : List ℕ) → UtcVerdict rows t (parsed_utc rows t)
unfolding parsed_utc onward
utc-verdict rows t = of (parsed true t) (verdict true t)
  where
    of : (o : Outcome ParsedDateTime) → Verdict true t o → UtcVerdict rows t (onward o (dated rows))
    of _ (outside n) = no_fields 15 (outside n)
    of _ (too_many_digits w r h) = no_fields 16 (too_many_digits w r h)
    of _ (bad_date w k r h e) = no_fields k (bad_date w k r h e)
    of _ (bad_time w r h e n) = no_fields 4 (bad_time w r h e n)
    of _ (fields w r h e s) = by-leap rows t w r e (fields w r h e s)

-- ---- so only five numbers occur: 5 can't, since a year of four digits has a next day
utc-number-of : (rows : List Row) (t : List ℕ) (o : Outcome ParsedUtc) (k : ℕ) → UtcVerdict rows t o → o ≡ refusal k → ReaderNumber k
utc-number-of rows t _ k (no_fields j w) e = let i : j ≡ k = cc in subst ReaderNumber i (only-numbers true t j (deserved true t (refusal j) w))
utc-number-of rows t _ k (not_in_day p x w l h) e = let i : 4 ≡ k = cc in subst ReaderNumber i four
utc-number-of rows t _ k (dated_so p x jd w l h d) e = absurd (not_both (answer (with_date p jd)) (with_date p jd) k refl e)

pub utc-only-numbers : (rows : List Row) (t : List ℕ) (k : ℕ) → parsed_utc rows t ≡ refusal k → ReaderNumber k
utc-only-numbers rows t k e = utc-number-of rows t (parsed_utc rows t) k (utc-verdict rows t) e
