-- What the functions below the calls ask and ensure. Assumes nothing.
use Rattle.std.specs.Prelude.{◌≡◌, ℕ, ◌+◌, ◌*◌, ◌≤◌, true, List, length, replicate}
use Rattle.std.proofs.Math.Seq.{slice}
use Rattle.leap_table.specs.rows.Table.{Row}
use Rattle.constants.specs.scale_numbers.Scales.{TAI}
use Rattle.runs.specs.by_formula.Run.{RunCall}
use Rattle.runs.specs.ways.Ways.{is_run_scale}
use Rattle.runs.specs.Run.{run_by}
use Rattle.line_listing.specs.taken.Run.{block_length, run_blocks, stamps_of}

-- the stamps of the block at the start of s, which has n
unfoldable pub block_run : List Row → ℕ → ℕ → List ℕ → RunCall
block_run rows scale n s =
    run_by rows scale TAI (slice 8 (8 + 8 * n) s) (slice (8 + 8 * n) (8 + 16 * n) s) (slice 8 (8 + 8 * n) s) (slice (8 + 8 * n) (8 + 16 * n) s)
    (replicate n 0)

-- a block of n stamps is there, and as many places as it needs
pub record BlockRoom (scale n : ℕ) (s out1 out2 numbers : List ℕ) : Type 0 where
  pub known : is_run_scale scale ≡ true
  pub few : n ≤ 4000
  pub there : block_length n ≤ length s
  pub places1 : length out1 ≡ 8 * n
  pub places2 : length out2 ≡ 8 * n
  pub bytes : length numbers ≡ n

-- there is room for the stamps of a run
pub record RunRoom (scale : ℕ) (s out1 out2 numbers : List ℕ) : Type 0 where
  pub known : is_run_scale scale ≡ true
  pub places1 : 8 * stamps_of (run_blocks s).sizes ≤ length out1
  pub places2 : 8 * stamps_of (run_blocks s).sizes ≤ length out2
  pub bytes : stamps_of (run_blocks s).sizes ≤ length numbers
