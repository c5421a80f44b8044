-- Document 01's sixteen starred cases as a table: a call with its inputs, and what the paper says that it gives. Written from the starred lines of document 01,
-- "Stamps on each side", in their order. Assumes nothing.
use Rattle.std.specs.Prelude.{ℕ, ◌-◌, ◌^◌, false, List, [], ◌∷◌, map, ℤ, pos, neg_ℤ, Float}
use Prim.Native.Char.{code}
use Prim.Native.String.{String}
use Prim.Native.String as Native
use Rattle.std.specs.Float.{binary64}
use Rattle.std.specs.Float.Ieee.{round, neg}
use Rattle.refusals.specs.Outcome.{Outcome, answer, refusal}
use Rattle.constants.specs.Constants.{decimal}
use Rattle.worked_cases.specs.Calls.{Call, calendar-to-julian, julian-to-calendar, get_tai_utc_offset, utc, to_iso8601}
use Rattle.worked_cases.specs.Calls.{UtcCall, utc-from-calendar, Value, parts, date_fields, float, bytes, call_outcome}

pub record Case : Type 0 where
  pub call : Call
  pub expected : Outcome Value

abbrev pub case : Call → Outcome Value → Case
case c e = record { call = c; expected = e }

-- what the calls of a table answer, and what the paper says that they give
abbrev pub answers : List Case → List (Outcome Value)
answers cases = map (λ (c : Case). call_outcome c.call) cases

abbrev pub expectations : List Case → List (Outcome Value)
expectations cases = map (λ (c : Case). c.expected) cases

-- a year before year 0
abbrev pub year_below0 : ℕ → ℤ
year_below0 n = neg_ℤ (pos n)

-- a / b, rounded once
abbrev pub ratio_of : ℕ → ℕ → Float
ratio_of a b = round binary64 false a b

-- the bytes of a text
abbrev pub ascii : String → List ℕ
ascii Native.[] = []
ascii (Native.◌∷◌ c s) = code c ∷ ascii s

-- the fraction of the leap second at the end of 2016-12-31: "86400/86401 rounded once"
unfoldable pub leap_second : Float
leap_second = ratio_of 86400 86401

-- 2016-12-31 23:59 and so many seconds
abbrev pub last_minute_of2016 : Float → UtcCall
last_minute_of2016 second = utc-from-calendar (pos 2016) 12 31 23 59 second

unfoldable pub starred : List Case
starred =
    -- 1 to 3: dates to 2400000.5 and the MJD
    (case (calendar-to-julian (pos 2000) (pos 1) (pos 1)) (answer (parts (decimal 24000005 1) (decimal 51544 0)))) ∷
    (case (calendar-to-julian (pos 2000) (pos 2) (pos 29)) (answer (parts (decimal 24000005 1) (decimal 51603 0)))) ∷
    (case (calendar-to-julian (year_below0 4799) (pos 1) (pos 1)) (answer (parts (decimal 24000005 1) (neg (decimal 2431739 0))))) ∷
    -- 4 to 6: three divisions of the noon of 2000-01-01
    (case (julian-to-calendar (decimal 24515450 1) (decimal 0 0)) (answer (date_fields (pos 2000) 1 1 (decimal 5 1)))) ∷
    (case (julian-to-calendar (decimal 245154475 2) (decimal 25 2)) (answer (date_fields (pos 2000) 1 1 (decimal 5 1)))) ∷
    (case (julian-to-calendar (decimal 0 0) (decimal 24515450 1)) (answer (date_fields (pos 2000) 1 1 (decimal 5 1)))) ∷
    -- 7: the lowest sum
    (case (julian-to-calendar (neg (decimal 685695 1)) (decimal 0 0)) (answer (date_fields (year_below0 4900) 3 1 (decimal 0 0)))) ∷
    -- 8: 2^-52 below it, which passes since the sum rounds (docs/DIFFERENCES.md); the fraction is 1 - 2^-52
    (case (julian-to-calendar (neg (decimal 685695 1)) (neg (ratio_of 1 (2 ^ 52))))
    (answer (date_fields (year_below0 4900) 2 30 (ratio_of (2 ^ 52 - 1) (2 ^ 52))))) ∷
    -- 9 to 12: offsets at 0h
    (case (get_tai_utc_offset (pos 1959) (pos 12) (pos 31) (decimal 0 0)) (answer (float (decimal 0 0)))) ∷
    (case (get_tai_utc_offset (pos 1972) (pos 1) (pos 1) (decimal 0 0)) (answer (float (decimal 100 1)))) ∷
    (case (get_tai_utc_offset (pos 2016) (pos 12) (pos 31) (decimal 0 0)) (answer (float (decimal 360 1)))) ∷
    (case (get_tai_utc_offset (pos 2017) (pos 1) (pos 1) (decimal 0 0)) (answer (float (decimal 370 1)))) ∷
    -- 13 and 14: the second 60.0 as a date and as text
    (case (utc (last_minute_of2016 (decimal 600 1))) (answer (parts (decimal 24577535 1) leap_second))) ∷
    (case (to_iso8601 (last_minute_of2016 (decimal 600 1)) 23) (answer (bytes (ascii "2016-12-31T23:59:60.000")))) ∷
    -- 15: the second 61.0
    (case (utc (last_minute_of2016 (decimal 610 1))) (refusal 4)) ∷
    -- 16: the second 60.9996 as text
    (case (to_iso8601 (last_minute_of2016 (decimal 609996 4)) 23) (answer (bytes (ascii "2017-01-01T00:00:00.000")))) ∷
    []
