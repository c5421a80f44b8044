-- The listing by line numbers, and the part of it that a scratch holds. Written from document 01, "The program that lists a block" ("It writes through a
-- 4,096-byte scratch"), for a scratch of any length, and document 02, item 8, for a table that may be refused. Assumes nothing.
use Rattle.std.specs.Prelude.{ℕ, zero, suc, ◌+◌, ◌-◌, ◌≡◌, List, [], ◌++◌, cond, length, drop, leb, eqb, Result}
use Rattle.refusals.specs.declared.Refusal.{Refusal}
use Rattle.refusals.specs.Outcome.{Outcome, answer, refusal, onward, outcome}
use Rattle.leap_table.specs.rows.Table.{Row}
use Rattle.stamps.specs.declared.Reporting.{Reporting}
use Rattle.stamps.specs.declared.Part.{Part}
use Rattle.stamps.specs.Block.{block_of}
use Rattle.stamps.specs.Listing.{line_room, header, block_refused, refused_in, stamp_line}

-- the line with this number: line 0 is the header or the refusal, line i + 1 is stamp i's
unfoldable pub line_of : Reporting → List Row → Outcome ℕ → List ℕ → ℕ → List ℕ
line_of how rows (answer n) s line = cond (eqb line 0) (header n (refused_in rows s n n)) (stamp_line how rows s n (line - 1))
line_of how rows (refusal k) s line = block_refused how s k

unfoldable pub lines_in : Outcome ℕ → ℕ
lines_in (answer n) = n + 1
lines_in (refusal k) = 1

-- k lines from line `line` on
unfoldable pub lines_from : Reporting → List Row → List ℕ → ℕ → ℕ → List ℕ
lines_from how rows s line zero = []
lines_from how rows s line (suc k) = lines_from how rows s line k ++ line_of how rows (block_of s) s (line + k)

-- how many of the `left` lines from `line` on go into `room` bytes, where a line is begun only if the room of a line is left
unfoldable pub held_lines : Reporting → List Row → List ℕ → ℕ → ℕ → ℕ → ℕ
held_lines how rows s line room zero = 0
held_lines how rows s line room (suc left) =
    cond (leb (line_room how) room) (1 + held_lines how rows s (line + 1) (room - length (line_of how rows (block_of s) s line)) left) 0

-- the number of lines in the part from `line` on, and its bytes
unfoldable pub part_lines : Reporting → List Row → List ℕ → ℕ → ℕ → ℕ
part_lines how rows s line room = held_lines how rows s line room (lines_in (block_of s) - line)

unfoldable pub part_text : Reporting → List Row → List ℕ → ℕ → ℕ → List ℕ
part_text how rows s line room = lines_from how rows s line (part_lines how rows s line room)

-- the answer for a scratch of `room` bytes: how many are written, the next line, and whether that is past the last
unfoldable pub part_of : Reporting → List Row → List ℕ → ℕ → ℕ → Part
part_of how rows s line room = record {
  written = length (part_text how rows s line room);
  line = line + part_lines how rows s line room;
  done = leb (lines_in (block_of s)) (line + part_lines how rows s line room);
}

-- r answers the part of the listing of s from `line` on, and the scratch, which held `before`, holds `after`: the part and then what stood there
pub record PartPlaced (how : Reporting) (rows : List Row) (s : List ℕ) (line : ℕ) (before : List ℕ) (r : Part) (after : List ℕ) : Type 0 where
  pub says : r ≡ part_of how rows s line (length before)
  pub holds : after ≡ part_text how rows s line (length before) ++ drop (length (part_text how rows s line (length before))) before

unfoldable pub scratch_holds : Outcome (List ℕ) → List ℕ → List ℕ
scratch_holds (answer t) before = t ++ drop (length t) before
scratch_holds (refusal k) before = before

pub record PartCall (how : Reporting) (table : Outcome (List Row)) (s : List ℕ) (line : ℕ) (before : List ℕ) (r : Result Part Refusal)
    (after : List ℕ) : Type 0 where
  pub says : outcome r ≡ onward table (λ rows. answer (part_of how rows s line (length before)))
  pub holds : after ≡ scratch_holds (onward table (λ rows. answer (part_text how rows s line (length before)))) before

-- what a caller writes that asks for parts from line 0 on, each from the line that the part before it named: the line after k parts, and the k parts
unfoldable pub line_after : Reporting → List Row → List ℕ → ℕ → ℕ → ℕ
line_after how rows s room zero = 0
line_after how rows s room (suc k) = line_after how rows s room k + part_lines how rows s (line_after how rows s room k) room

unfoldable pub parts_joined : Reporting → List Row → List ℕ → ℕ → ℕ → List ℕ
parts_joined how rows s room zero = []
parts_joined how rows s room (suc k) = parts_joined how rows s room k ++ part_text how rows s (line_after how rows s room k) room
