-- The summary of three lined up runs, and what to look at, for C. Written from the header, ct_line_summary and ct_line_look: of each run a record of 32 bytes,
-- its stamps, its blocks, the number of the block that was refused, and 1 where it is named. Refusals by documents 01's and 02's numbers: 14 records of another
-- length, 12 lists that do not agree with each other or with the stamps of the runs. Assumes nothing.
use Rattle.std.specs.Prelude.{ℕ, ◌+◌, ◌/◌, ◌%◌, List, Bool, cond, ◌&&◌, eqb, length}
use Rattle.refusals.specs.Outcome.{Outcome}
use Rattle.numerals.specs.little_endian.LittleEndian.{u32_at, u64_at}
use Rattle.leap_table.specs.rows.Table.{Row}
use Rattle.leap_table.specs.rows.Announced.{unless_refused}
use Rattle.line_listing.specs.declared.head.RunEnd.{RunEnd}
use Rattle.line_listing.specs.lines.StampLine.{stamps}
use Rattle.line_listing.specs.summary.Look.{look_of}
use Rattle.line_listing.specs.summary.Summary.{summary_text}

-- the record from `at` on
unfoldable pub run_record : List ℕ → ℕ → RunEnd
run_record b at = record { named = eqb (u64_at b (at + 24)) 1; block = u64_at b (at + 8); refused = u32_at b (at + 16) }

-- eight bytes for each of n
unfoldable pub eight_for_each : ℕ → ℕ → Bool
eight_for_each size n = eqb (size % 8) 0 && eqb (size / 8) n

-- by the records and the lengths of the three lists; 0 for none
unfoldable pub runs_refusal : List ℕ → ℕ → ℕ → ℕ → ℕ
runs_refusal b size1 size2 n =
    cond (eqb (length b) 96)
    (cond (eight_for_each size1 n && (eight_for_each size2 n && eqb (u64_at b 0 + u64_at b 32 + u64_at b 64) n)) 0 12)
    14

unfoldable pub summary_of : ℕ → List ℕ → List ℕ → List ℕ → List ℕ → List Row → Outcome (List ℕ)
summary_of known b js ks ns rows =
    unless_refused (runs_refusal b (length js) (length ks) (length ns))
    (summary_text rows known (run_record b 0) (run_record b 32) (run_record b 64) (stamps js ks ns (u64_at b 0) (u64_at b 32)))

unfoldable pub look_at : ℕ → List ℕ → List ℕ → List ℕ → List ℕ → List Row → Outcome ℕ
look_at known b js ks ns rows =
    unless_refused (runs_refusal b (length js) (length ks) (length ns))
    (look_of rows known (run_record b 0) (run_record b 32) (run_record b 64) (stamps js ks ns (u64_at b 0) (u64_at b 32)))
