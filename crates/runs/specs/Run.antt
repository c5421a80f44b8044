-- A run of stamps from one scale to another: the way of each stamp, and what is refused whole. This project's own, for the customer's nine million stamps of
-- one recorder. What the three lent slices hold is `run_written` (`runs::by_formula`). Refusals by documents 01's and 02's numbers: 18 an unknown scale, 14 a
-- broken length, 12 sizes that differ, 11 too few places. Assumes nothing.
use Rattle.std.specs.Prelude.{ℕ, ◌/◌, ◌%◌, cond, ◌&&◌, List, eqb, leb, length}
use Rattle.refusals.specs.Outcome.{Outcome, answer, refusal}
use Rattle.julian.specs.declared.JulianDate.{JulianDate}
use Rattle.leap_table.specs.rows.Table.{Row}
use Rattle.julian.specs.stamp_lists.Stamps.{stamp_of}
use Rattle.runs.specs.by_formula.Run.{RunCall, run_call, run_written}
use Rattle.runs.specs.ways.Ways.{is_run_scale, way_of}

-- ---- one stamp

-- the answer of the stamp at place i: eight bytes of each part. The refusals of a way are 1, 6 and 9 (`way_refusals`)
abbrev pub stamp_answer : List Row → ℕ → ℕ → List ℕ → List ℕ → ℕ → Outcome JulianDate
stamp_answer rows from to js ks i = way_of rows from to (stamp_of js ks i)

-- ---- the call

-- the refusal of the scales and of the lengths in bytes: of the parts, of the places for the parts, and of the numbers; 0 for none
unfoldable pub run_refusal : ℕ → ℕ → ℕ → ℕ → ℕ → ℕ → ℕ → ℕ
run_refusal from to size1 size2 room1 room2 room =
    cond (is_run_scale from && is_run_scale to)
    (cond (eqb (size1 % 8) 0 && eqb (size2 % 8) 0)
    (cond (eqb size1 size2)
    (cond (leb size1 room1 && (leb size1 room2 && leb (size1 / 8) room)) 0 11)
    12)
    14)
    18

-- by the rows of a table
unfoldable pub run_by : List Row → ℕ → ℕ → List ℕ → List ℕ → List ℕ → List ℕ → List ℕ → RunCall
run_by rows from to js ks out1 out2 numbers =
    cond (eqb (run_refusal from to (length js) (length ks) (length out1) (length out2) (length numbers)) 0)
    (run_written (stamp_answer rows from to js ks) (length js / 8) out1 out2 numbers)
    (run_call (refusal (run_refusal from to (length js) (length ks) (length out1) (length out2) (length numbers))) out1 out2 numbers)

-- by a table that may be refused, before all else
unfoldable pub converted_run : Outcome (List Row) → ℕ → ℕ → List ℕ → List ℕ → List ℕ → List ℕ → List ℕ → RunCall
converted_run (answer rows) from to js ks out1 out2 numbers = run_by rows from to js ks out1 out2 numbers
converted_run (refusal k) from to js ks out1 out2 numbers = run_call (refusal k) out1 out2 numbers
