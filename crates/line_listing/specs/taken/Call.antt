-- What is answered of a recorder's run: how large it is, and its stamps' TAI and numbers. Written from include/celestial_time.h, ct_run_size and ct_take_run.
-- Refusals by documents 01's and 02's numbers: 18 an unknown scale, 11 too few places, and those of the table. Assumes nothing.
use Rattle.std.specs.Prelude.{ℕ, ◌*◌, cond, ◌&&◌, List, ◌++◌, length, drop, ◌==◌, nat_le}
use Rattle.refusals.specs.Outcome.{Outcome, answer, refusal}
use Rattle.leap_table.specs.rows.Table.{Row}
use Rattle.runs.specs.by_formula.Run.{RunCall, run_call}
use Rattle.runs.specs.ways.Ways.{is_run_scale}
use Rattle.line_listing.specs.declared.taken.RunSize.{RunSize}
use Rattle.line_listing.specs.taken.Run.{Blocks, run_blocks, stamps_of, blocks_bytes, taken_run}

-- how large the blocks of a run are
unfoldable pub size_of : Blocks → RunSize
size_of b = record { stamps = stamps_of b.sizes; blocks = length b.sizes; bytes = blocks_bytes b.sizes; refused = b.refused }

-- the refusal of the scale and of the lengths in bytes, for so many stamps: eight bytes of each part, one of each number; 0 for none
unfoldable pub take_refusal : ℕ → ℕ → ℕ → ℕ → ℕ → ℕ
take_refusal scale n room1 room2 room =
    cond (is_run_scale scale) (cond (nat_le (8 * n) room1 && (nat_le (8 * n) room2 && nat_le n room)) 0 11) 18

-- what is written of n stamps, and what stood behind it
abbrev pub taken_written : ℕ → RunCall → List ℕ → List ℕ → List ℕ → RunCall
taken_written n c out1 out2 numbers = run_call c.answer (c.out1 ++ drop (8 * n) out1) (c.out2 ++ drop (8 * n) out2) (c.numbers ++ drop n numbers)

-- by the rows of a table
unfoldable pub taken_by : List Row → ℕ → List ℕ → List ℕ → List ℕ → List ℕ → List ℕ → RunCall
taken_by rows scale ns s out1 out2 numbers =
    cond (take_refusal scale (stamps_of ns) (length out1) (length out2) (length numbers) == 0)
    (taken_written (stamps_of ns) (taken_run rows scale ns s) out1 out2 numbers)
    (run_call (refusal (take_refusal scale (stamps_of ns) (length out1) (length out2) (length numbers))) out1 out2 numbers)

-- by a table that may be refused, before all else
unfoldable pub taken_call : Outcome (List Row) → ℕ → List ℕ → List ℕ → List ℕ → List ℕ → RunCall
taken_call (answer rows) scale s out1 out2 numbers = taken_by rows scale (run_blocks s).sizes s out1 out2 numbers
taken_call (refusal k) scale s out1 out2 numbers = run_call (refusal k) out1 out2 numbers
