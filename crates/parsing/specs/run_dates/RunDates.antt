-- The dates of a run of UTC texts in one call: what is answered and what the three lent slices hold. Each date is the single call's: document 02, item 1, and
-- the Rust's `FromStr` (scales/utc/mod.rs). This project's own, for the customer's nine million stamps of one recorder: the texts stand at equal distances of
-- 27 bytes, as the texts of a run are written (`utc::run_texts`), and what the slices hold is `run_written` (`runs::by_formula`). Refusals by documents 01's
-- and
-- 02's numbers: 14 a broken length, 12 sizes that differ, 11 too few places. Assumes nothing.
use Rattle.std.specs.Prelude.{ℕ, ◌*◌, ◌/◌, ◌%◌, cond, ◌&&◌, List, eqb, leb, length, get_or, take, drop}
use Rattle.refusals.specs.Outcome.{Outcome, answer, refusal, onward}
use Rattle.julian.specs.declared.JulianDate.{JulianDate}
use Rattle.leap_table.specs.rows.Table.{Row}
use Rattle.runs.specs.by_formula.Run.{RunCall, run_call, run_written}
use Rattle.parsing.specs.Parsed.{parsed_utc}

-- ---- one text

-- the date that the single call reads in a text, without its fields
unfoldable pub date_read : List Row → List ℕ → Outcome JulianDate
date_read rows t = onward (parsed_utc rows t) (λ r. answer r.date.0)

-- text i: its bytes from byte 27 i on, as many as byte i of the lengths says
abbrev pub text_in_place : List ℕ → List ℕ → ℕ → List ℕ
text_in_place texts lengths i = take (get_or lengths i 0) (drop (27 * i) texts)

-- its date; 15 where it is longer than its place
unfoldable pub text_date : List Row → List ℕ → List ℕ → ℕ → Outcome JulianDate
text_date rows texts lengths i = cond (leb (get_or lengths i 0) 27) (date_read rows (text_in_place texts lengths i)) (refusal 15)

-- ---- the call

-- the refusal of the lengths in bytes: of the texts and of their lengths, and of the places for the two parts and the numbers; 0 for none
unfoldable pub dates_refusal : ℕ → ℕ → ℕ → ℕ → ℕ → ℕ
dates_refusal size1 size2 room1 room2 room3 =
    cond (eqb (size1 % 27) 0)
    (cond (eqb (size1 / 27) size2)
    (cond (leb (8 * size2) room1 && (leb (8 * size2) room2 && leb size2 room3)) 0 11)
    12)
    14

-- by the rows of a table
unfoldable pub dates_by : List Row → List ℕ → List ℕ → List ℕ → List ℕ → List ℕ → RunCall
dates_by rows texts lengths out1 out2 numbers =
    cond (eqb (dates_refusal (length texts) (length lengths) (length out1) (length out2) (length numbers)) 0)
    (run_written (text_date rows texts lengths) (length lengths) out1 out2 numbers)
    (run_call (refusal (dates_refusal (length texts) (length lengths) (length out1) (length out2) (length numbers))) out1 out2 numbers)

-- by a table that may be refused, before all else
unfoldable pub dates_of_texts : Outcome (List Row) → List ℕ → List ℕ → List ℕ → List ℕ → List ℕ → RunCall
dates_of_texts (answer rows) texts lengths out1 out2 numbers = dates_by rows texts lengths out1 out2 numbers
dates_of_texts (refusal k) texts lengths out1 out2 numbers = run_call (refusal k) out1 out2 numbers
