-- A recorder's run as bytes, and what is taken of it. Written from the comment at the head of programs/line_up.c: "stamp blocks one after the other", "Where a
-- block is refused, the run ends before it"; the parts are those of each stamp's TAI, or as they were recorded where it has none. A block is as document 01 has
-- it; how long it is, its first size says. Assumes nothing.
use Rattle.std.specs.Prelude.{ℕ, zero, suc, ◌+◌, ◌*◌, cond, List, [], ◌∷◌, ◌++◌, length, take, drop, replicate, ◌==◌}
use Rattle.std.proofs.Math.Seq.{slice}
use Rattle.refusals.specs.Outcome.{Outcome, answer, refusal}
use Rattle.numerals.specs.little_endian.LittleEndian.{u32_at}
use Rattle.leap_table.specs.rows.Table.{Row}
use Rattle.constants.specs.scale_numbers.Scales.{TAI}
use Rattle.stamps.specs.Block.{block_of}
use Rattle.runs.specs.by_formula.Run.{RunCall}
use Rattle.runs.specs.Run.{run_by}

-- how many stamps each block has up to the first that is refused, and the number of its refusal, 0 where none is
pub record Blocks : Type 0 where
  pub sizes : List ℕ
  pub refused : ℕ

-- the bytes of a block of n stamps
abbrev pub block_length : ℕ → ℕ
block_length n = 8 + 16 * n

-- the block at the start of the bytes s
unfoldable pub first_block : List ℕ → Outcome ℕ
first_block s = block_of (take (block_length (u32_at s 0)) s)

unfoldable pub with_block : Outcome ℕ → (ℕ → Blocks) → Blocks
with_block (answer n) behind = record { sizes = n ∷ (behind n).sizes; refused = (behind n).refused }
with_block (refusal k) behind = record { sizes = []; refused = k }

-- the blocks of s, at most so many
unfoldable pub blocks_in : ℕ → List ℕ → Blocks
blocks_in zero s = record { sizes = []; refused = 0 }
blocks_in (suc most) s =
    cond (length s == 0) (record { sizes = []; refused = 0 }) (with_block (first_block s) (λ (n : ℕ). blocks_in most (drop (block_length n) s)))

-- THE BLOCKS of a run: each has a byte at least, so that there are not more than bytes
unfoldable pub run_blocks : List ℕ → Blocks
run_blocks s = blocks_in (length s) s

-- how many stamps, and how many bytes, blocks of these sizes have
unfoldable pub stamps_of : List ℕ → ℕ
stamps_of [] = 0
stamps_of (n ∷ ns) = n + stamps_of ns

unfoldable pub blocks_bytes : List ℕ → ℕ
blocks_bytes [] = 0
blocks_bytes (n ∷ ns) = block_length n + blocks_bytes ns

-- the first parts of all stamps, one after the other, and the second parts
unfoldable pub first_parts : List ℕ → List ℕ → List ℕ
first_parts [] s = []
first_parts (n ∷ ns) s = slice 8 (8 + 8 * n) s ++ first_parts ns (drop (block_length n) s)

unfoldable pub second_parts : List ℕ → List ℕ → List ℕ
second_parts [] s = []
second_parts (n ∷ ns) s = slice (8 + 8 * n) (8 + 16 * n) s ++ second_parts ns (drop (block_length n) s)

-- THE RUN: the parts of the blocks' stamps converted from its scale to TAI over themselves, and their numbers
unfoldable pub taken_run : List Row → ℕ → List ℕ → List ℕ → RunCall
taken_run rows scale ns s = run_by rows scale TAI (first_parts ns s) (second_parts ns s) (first_parts ns s) (second_parts ns s) (replicate (stamps_of ns) 0)
