-- When a part of the listing of three recorders is answered. Written from include/celestial_time.h, ct_line_listing_part. Assumes nothing.
use Rattle.std.specs.Prelude.{ℕ, ◌+◌, ◌-◌, ◌*◌, ◌≤◌, ◌<◌, ◌≡◌, Bool, true, false, List, ℤ, pos, length, take, drop}
use Rattle.refusals.specs.Outcome.{Outcome, answer, refusal}
use Rattle.numerals.specs.little_endian.LittleEndian.{u32_at, u64_at}
use Rattle.leap_table.specs.rows.Table.{Row}
use Rattle.line_listing.specs.lines.StampLine.{stamps}
use Rattle.line_listing.specs.lines.Parts.{listed_count}
use Rattle.line_listing.specs.listing.Part.{Step, part_from}
use Rattle.capi.specs.SummaryDelivery.{run_record}
use Rattle.capi.specs.laws.Summary.{ListsFit}

-- with reasons 1 the sentence of a number follows it, with 0 none
pub data ToldBy : ℕ → Bool → Type 0 where
  numbers_alone : ToldBy 0 false
  with_sentences : ToldBy 1 true

-- arguments that fit each other
pub record Fitting (reasons : ℕ) (s : Bool) (runs js ks ns cursor : List ℕ) : Type 0 where
  pub told : ToldBy reasons s
  pub cursor_long : length cursor ≡ 16
  pub records : length runs ≡ 96
  pub lists : ListsFit runs js ks ns

-- a line of the part names none of n stamps: lines of stamps begin with line 1, which is the first of the order
pub record StampGone (s : Bool) (n : ℕ) (order : List ℕ) (line room : ℕ) : Type 0 where
  pub behind_head : 1 ≤ line
  pub which : ℕ
  pub in_part : which < listed_count s order (line - 1) room
  pub gone : n ≤ u32_at order (4 * (line - 1 + which))

-- what becomes of a call with `room` bytes for the part: the cases shut each other out, so each number comes exactly there
pub data PartDecision (reasons : ℕ) (runs js ks ns order cursor : List ℕ) (room : ℕ) (table : Outcome (List Row)) (o : Outcome Step) : Type 0 where
  table-first : (k : ℕ) → table ≡ refusal k → o ≡ refusal k → PartDecision reasons runs js ks ns order cursor room table o
  other_reasons : (rows : List Row) → table ≡ answer rows → 2 ≤ reasons → o ≡ refusal 18 → PartDecision reasons runs js ks ns order cursor room table o
  other_cursor : (rows : List Row) → table ≡ answer rows → reasons ≤ 1 → (length cursor ≡ 16 → ⊥) → o ≡ refusal 14
      → PartDecision reasons runs js ks ns order cursor room table o
  other_records : (rows : List Row) → table ≡ answer rows → reasons ≤ 1 → length cursor ≡ 16 → (length runs ≡ 96 → ⊥) → o ≡ refusal 14
      → PartDecision reasons runs js ks ns order cursor room table o
  other_lists : (rows : List Row) → table ≡ answer rows → reasons ≤ 1 → length cursor ≡ 16 → length runs ≡ 96 → (ListsFit runs js ks ns → ⊥)
      → o ≡ refusal 12 → PartDecision reasons runs js ks ns order cursor room table o
  stamp_gone : (rows : List Row) (s : Bool) → table ≡ answer rows → Fitting reasons s runs js ks ns cursor
      → StampGone s (length ns) order (u64_at cursor 0) room → o ≡ refusal 18 → PartDecision reasons runs js ks ns order cursor room table o
  no_room : (rows : List Row) (s : Bool) → table ≡ answer rows → Fitting reasons s runs js ks ns cursor
      → (StampGone s (length ns) order (u64_at cursor 0) room → ⊥) → room < 550 → o ≡ refusal 11
      → PartDecision reasons runs js ks ns order cursor room table o
  part_told : (rows : List Row) (s : Bool) → table ≡ answer rows → Fitting reasons s runs js ks ns cursor
      → (StampGone s (length ns) order (u64_at cursor 0) room → ⊥) → 550 ≤ room
      → o ≡ answer (part_from s rows (run_record runs 0) (run_record runs 32) (run_record runs 64) (stamps js ks ns (u64_at runs 0) (u64_at runs 32)) order
      (u64_at cursor 0) (u64_at cursor 8) room)
      → PartDecision reasons runs js ks ns order cursor room table o

-- ---- what a program has of a part that is answered, of n bytes: they stand at the start of the buffer, the rest stays, and the cursor is behind them
pub record PartRead (part : Step) (before : List ℕ) (r : ℤ) (cursor' after : List ℕ) : Type 0 where
  pub many : r ≡ pos (length part.bytes)
  pub bytes : take (length part.bytes) after ≡ part.bytes
  pub rest : drop (length part.bytes) after ≡ drop (length part.bytes) before
  pub line : u64_at cursor' 0 ≡ part.line
  pub textless : u64_at cursor' 8 ≡ part.textless
