-- Document 01's other worked cases, in the same form. Written from the lines of "Stamps on each side" that bear no star, its listing's three stamps, and the
-- examples of "Refusals by number". Assumes nothing.
use Rattle.std.specs.Prelude.{◌+◌, ◌*◌, ◌^◌, true, false, List, [], ◌∷◌, pos}
use Rattle.std.specs.Float.{nan, inf}
use Rattle.std.specs.Float.Ieee.{neg}
use Rattle.refusals.specs.Outcome.{answer, refusal}
use Rattle.constants.specs.Constants.{decimal}
use Rattle.scales.specs.Conversions.{gps-tai, tcb-tdb}
use Rattle.worked_cases.specs.Calls.{utc-from-calendar, utc-new, utc_parts, convert, utc-to-ut1, block_stamps, parts, date_fields, float, bytes}
use Rattle.worked_cases.specs.Calls.{calendar-to-julian, julian-to-calendar, get_tai_utc_offset, utc, to_iso8601, nearest-int}
use Rattle.worked_cases.specs.Cases.{Case, case, year_below0, ascii}

unfoldable pub others : List Case
others =
    -- Unix (-1, 0)
    (case (to_iso8601 (utc-new (year_below0 1) 0) 23) (answer (bytes (ascii "1969-12-31T23:59:59.000")))) ∷
    -- 1961-07-31 ends in a step of -0.05 s
    (case (utc (utc-from-calendar (pos 1961) 7 31 23 59 (decimal 5996 2))) (refusal 4)) ∷
    -- casts to 64 bits saturate (docs/DIFFERENCES.md)
    (case (julian-to-calendar (decimal (2 ^ 63) 0) (neg (decimal (2 ^ 63) 0))) (answer (date_fields (year_below0 4713) 11 23 (decimal 5 1)))) ∷
    (case (nearest-int (decimal (2 ^ 52 + 1) 0)) (answer (float (decimal (2 ^ 52 + 2) 0)))) ∷
    -- huge finite TCB parts: 1.7e308 twice
    (case (convert tcb-tdb (decimal (17 * 10 ^ 307) 0) (decimal (17 * 10 ^ 307) 0)) (answer (parts (inf true) (decimal (17 * 10 ^ 307) 0)))) ∷
    -- the listing's stamps
    (case (to_iso8601 (utc_parts (decimal 24515450 1) (decimal 0 0)) 23) (answer (bytes (ascii "2000-01-01T12:00:00.000")))) ∷
    (case (to_iso8601 (utc_parts (decimal 24000005 1) (decimal 515440 1)) 23) (answer (bytes (ascii "2000-01-01T00:00:00.000")))) ∷
    (case (to_iso8601 (utc_parts nan (decimal 0 0)) 23) (refusal 6)) ∷
    -- the examples of refusals 1 to 14
    (case (calendar-to-julian (year_below0 4800) (pos 12) (pos 31)) (refusal 1)) ∷
    (case (calendar-to-julian (pos 2000) (pos 13) (pos 1)) (refusal 2)) ∷
    (case (calendar-to-julian (pos 1900) (pos 2) (pos 29)) (refusal 3)) ∷
    (case (utc (utc-from-calendar (pos 2015) 12 31 23 59 (decimal 60 0))) (refusal 4)) ∷
    (case (utc (utc-from-calendar (pos 2147483647) 12 31 0 0 (decimal 0 0))) (refusal 5)) ∷
    (case (julian-to-calendar nan (decimal 0 0)) (refusal 6)) ∷
    (case (get_tai_utc_offset (pos 2000) (pos 1) (pos 1) (decimal 15 1)) (refusal 7)) ∷
    (case (utc (utc-new (pos 0) 1000000000)) (refusal 8)) ∷
    (case (convert gps-tai (inf false) (decimal 0 0)) (refusal 9)) ∷
    (case (utc-to-ut1 (decimal 24515450 1) (decimal 0 0) nan) (refusal 10)) ∷
    (case (to_iso8601 (utc-from-calendar (pos 2000) 1 1 0 0 (decimal 0 0)) 22) (refusal 11)) ∷
    (case (block_stamps (1 ∷ 0 ∷ 0 ∷ 0 ∷ 2 ∷ 0 ∷ 0 ∷ 0 ∷ [])) (refusal 12)) ∷
    (case (block_stamps (161 ∷ 15 ∷ 0 ∷ 0 ∷ 161 ∷ 15 ∷ 0 ∷ 0 ∷ [])) (refusal 13)) ∷
    (case (block_stamps (0 ∷ 0 ∷ 0 ∷ 0 ∷ 0 ∷ 0 ∷ 0 ∷ [])) (refusal 14)) ∷
    []
