-- What a text deserves, case by case, by its reading in the grammar. Written from document 02, item 1: 15 first, then 16, then the date's number, then 4, where
-- "hour above 23, minute above 59 or second from 61 up are 4". Assumes nothing.
use Rattle.std.specs.Prelude.{ℕ, ◌*◌, ◌^◌, ◌≤◌, ◌<◌, ◌≡◌, List, Bool, pos}
use Rattle.refusals.specs.Outcome.{Outcome, answer, refusal}
use Rattle.calendar.specs.Refusals.{valid_date}
use Rattle.parsing.specs.declared.ParsedDateTime.{ParsedDateTime}
use Rattle.parsing.specs.scan.Written.{Written}
use Rattle.parsing.specs.Grammar.{Reads}
use Rattle.parsing.specs.Parsed.{fields_of}

-- a time that no minute has
pub data NoTime (w : Written) : Type 0 where
  hour_over : 23 < w.hour → NoTime w
  minute_over : 59 < w.minute → NoTime w
  second_over : 61 * 10 ^ w.places ≤ w.whole → NoTime w

-- a time that some minute has
pub record SomeTime (w : Written) : Type 0 where
  pub hour : w.hour ≤ 23
  pub minute : w.minute ≤ 59
  pub second : w.whole < 61 * 10 ^ w.places

pub data Verdict (utc : Bool) (t : List ℕ) : Outcome ParsedDateTime → Type 0 where
  outside : ((w : Written) → Reads utc t w → ⊥) → Verdict utc t (refusal 15)
  too_many_digits : (w : Written) → Reads utc t w → 13 < w.places → Verdict utc t (refusal 16)
  bad_date : (w : Written) (k : ℕ) → Reads utc t w → w.places ≤ 13 → valid_date (pos w.year) (pos w.month) (pos w.day) ≡ refusal k
      → Verdict utc t (refusal k)
  bad_time : (w : Written) → Reads utc t w → w.places ≤ 13 → valid_date (pos w.year) (pos w.month) (pos w.day) ≡ answer tt → NoTime w
      → Verdict utc t (refusal 4)
  fields : (w : Written) → Reads utc t w → w.places ≤ 13 → valid_date (pos w.year) (pos w.month) (pos w.day) ≡ answer tt → SomeTime w
      → Verdict utc t (answer (fields_of w))
