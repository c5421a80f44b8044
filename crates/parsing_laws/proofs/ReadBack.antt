-- A text that we write reads back as its fields, where its year has four digits. Assumes nothing.
use Prim.Native.Nat.{ℕ, ◌+◌, ◌*◌, ◌≤◌}
use native.Mathlib.Omega.{arith}
use mathlib.Core.Path.{◌≡◌, refl, sym, ap, ◌∙◌, subst}
use mathlib.Core.List.{List, [], ◌∷◌, ◌++◌}
use mathlib.Core.Bool.{Bool, false, cond}
use lib.Dec.{ltb}
use lib.IntN.{ℤ, pos}
use borrow.Author.Tests.{lt-ltb}
use Rattle.refusals.specs.Outcome.{answer}
use Rattle.calendar.specs.declared.CalendarDate.{CalendarDate}
use Rattle.calendar.specs.Refusals.{valid_date}
use Rattle.time_of_day.specs.declared.TimeOfDay.{TimeOfDay}
use Rattle.numerals.specs.digits.Decimal.{number, Digits}
use Rattle.numerals.proofs.digits.Decimal.{value-append, value-split}
use Rattle.utc.proofs.text.ReadBack.{two_is, three-is, four_is}
use Rattle.utc.proofs.text.Form.{two_digits, three-digits, four-digits}
use Rattle.utc.specs.text.Text.{two, three, four, five, six, seven, after_year, year_text, utc_text}
use Rattle.parsing.specs.scan.Written.{Written}
use Rattle.parsing.specs.Grammar.{Pieces, text_of, Reads, AllBlank, letter, some, plain}
use Rattle.parsing.specs.Parsed.{fields_of, parsed}
use Rattle.parsing_laws.specs.Verdict.{fields}
use Rattle.parsing_laws.proofs.Ladder.{deserved}

-- ---- the digits that are written
digits-two : (n : ℕ) → Digits 2 (two n)
digits-two n = record { many = refl; all = two_digits n }

-- the second's two digits and the three behind the point
number-five : (s m : ℕ) → s ≤ 99 → m ≤ 999 → number (two s ++ three m) ≡ 1000 * s + m
number-five s m h k =
    value-append 0 (two s) (three m) ∙ value-split (number (two s)) (three m)
    ∙ (λ i. two_is s (omega arith) i * 1000 + three-is m (omega arith) i) ∙ (let e : s * 1000 + m ≡ 1000 * s + m = omega arith in e)

-- the fields as what was written: no Z, and three places
unfoldable pub as_written : ℕ → CalendarDate → TimeOfDay → Written
as_written y d u = record {
  year = y;
  month = d.month;
  day = d.day;
  hour = u.hour;
  minute = u.minute;
  whole = 1000 * u.second + u.milli;
  places = 3;
  zulu = false;
}

-- ---- the text in the grammar
module _ (d : CalendarDate) (u : TimeOfDay) (y : ℕ) (year : d.year ≡ pos y) (few : y ≤ 9999) (month : d.month ≤ 99) (day : d.day ≤ 99) (hour : u.hour ≤ 99)
    (minute : u.minute ≤ 99) (second : u.second ≤ 99) (milli : u.milli ≤ 999) where
  pieces : Pieces
  pieces = record {
    before = [];
    year = four y;
    month = two d.month;
    day = two d.day;
    separator = 84;
    hour = two u.hour;
    minute = two u.minute;
    second = two u.second;
    fraction = 46 ∷ three u.milli;
    digits = three u.milli;
    zone = [];
    after = [];
  }

  year-text : year_text d.year ≡ four y
  unfolding year_text
  year-text = ap year_text year ∙ ap (λ (b : Bool). cond b (four y) (cond (ltb y 100000) (five y) (cond (ltb y 1000000) (six y) (seven y))))
      (lt-ltb y 10000 (omega arith))

  spelled : utc_text d u ≡ text_of pieces
  unfolding utc_text pieces
  spelled = ap (λ (l : List ℕ). l ++ after_year d u) year-text

  pub text-reads : (utc : Bool) → Reads utc (utc_text d u) (as_written y d u)
  unfolding pieces as_written AllBlank
  text-reads utc = record {
    pieces = pieces;
    is = spelled;
    before = tt;
    year = (record { many = refl; all = four-digits y });
    month = digits-two d.month;
    day = digits-two d.day;
    separator = letter;
    hour = digits-two u.hour;
    minute = digits-two u.minute;
    second = digits-two u.second;
    fraction = some (three-digits u.milli) (omega arith);
    zone = plain;
    after = tt;
    year_is = sym (four_is y (omega arith));
    month_is = sym (two_is d.month (omega arith));
    day_is = sym (two_is d.day (omega arith));
    hour_is = sym (two_is u.hour (omega arith));
    minute_is = sym (two_is u.minute (omega arith));
    whole_is = sym (number-five u.second u.milli second milli);
    places_is = refl;
  }

-- ---- and what is answered: the six fields, by either call
pub reads_back : (utc : Bool) (d : CalendarDate) (u : TimeOfDay) (y : ℕ) → d.year ≡ pos y → y ≤ 9999
    → valid_date d.year (pos d.month) (pos d.day) ≡ answer tt
    → d.month ≤ 12 → d.day ≤ 31 → u.hour ≤ 23 → u.minute ≤ 59 → u.second ≤ 60 → u.milli ≤ 999
    → parsed utc (utc_text d u) ≡ answer (fields_of (as_written y d u))
unfolding as_written
reads_back utc d u y e few v m n h i s k =
    deserved utc (utc_text d u) (answer (fields_of (as_written y d u)))
    (fields (as_written y d u) (text-reads d u y e few (omega arith) (omega arith) (omega arith) (omega arith) (omega arith) k utc) (omega arith)
    (subst (λ (z : ℤ). valid_date z (pos d.month) (pos d.day) ≡ answer tt) e v)
    (record { hour = h; minute = i; second = omega arith }))
