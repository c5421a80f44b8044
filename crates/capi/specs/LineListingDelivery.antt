-- A part of the listing of three recorders for C: the refusals in order, the part, the cursor behind it, and what a caller gets. Written from
-- include/celestial_time.h, ct_line_listing_part, and docs/DECISIONS.md 24. Assumes nothing.
use Rattle.std.specs.Prelude.{ℕ, ◌≡◌, List, cond, eqb, leb, ℤ, length}
use Rattle.refusals.specs.Outcome.{Outcome, answer, refusal, onward}
use Rattle.numerals.specs.little_endian.LittleEndian.{u64_at, with_nth64}
use Rattle.leap_table.specs.rows.Table.{Row}
use Rattle.leap_table.specs.rows.Announced.{unless_refused}
use Rattle.utc.specs.iso_texts.TextCall.{buffer_holds}
use Rattle.c_answers.specs.Delivery.{code}
use Rattle.line_listing.specs.lines.StampLine.{stamps}
use Rattle.line_listing.specs.listing.Part.{Step, part_from, listing_refusal}
use Rattle.capi.specs.SummaryDelivery.{run_record, runs_refusal}

-- the refusal of the arguments before the part's own, or 0: the records and lists as those of the summary
unfoldable pub asked_refusal : ℕ → List ℕ → ℕ → ℕ → ℕ → ℕ → ℕ
asked_refusal reasons runs size1 size2 n cursor = cond (leb reasons 1) (cond (eqb cursor 16) (runs_refusal runs size1 size2 n) 14) 18

-- THE PART that a call asks for, by a table that may be refused
unfoldable pub part_asked : ℕ → List ℕ → List ℕ → List ℕ → List ℕ → List ℕ → List ℕ → ℕ → Outcome (List Row) → Outcome Step
part_asked reasons runs js ks ns order cursor room table =
    onward table (λ rows.
    onward (unless_refused (asked_refusal reasons runs (length js) (length ks) (length ns) (length cursor)) rows) (λ same.
    unless_refused (listing_refusal (eqb reasons 1) (length ns) order (u64_at cursor 0) room)
    (part_from (eqb reasons 1) same (run_record runs 0) (run_record runs 32) (run_record runs 64) (stamps js ks ns (u64_at runs 0) (u64_at runs 32)) order
    (u64_at cursor 0) (u64_at cursor 8) room)))

-- the cursor behind it; where it is refused, as it was
unfoldable pub cursor_moved : Outcome Step → List ℕ → List ℕ
cursor_moved (answer s) cursor = with_nth64 (with_nth64 cursor 0 s.line) 1 s.textless
cursor_moved (refusal k) cursor = cursor

-- the call returned r, the cursor and the buffer, which held `before`, are as o says: all their bytes
pub record PartDelivered (o : Outcome Step) (cursor before : List ℕ) (r : ℤ) (cursor' after : List ℕ) : Type 0 where
  pub returned : r ≡ code (onward o (λ s. answer (length s.bytes)))
  pub moved : cursor' ≡ cursor_moved o cursor
  pub written : after ≡ buffer_holds (onward o (λ s. answer s.bytes)) before
