-- A C caller that lists a block by counting line ends is never refused, makes at most 4,001 calls that return bytes, and has then written the block's listing
-- by the table's rows, whatever they are; by either way of reporting, where `InWidth` asks nothing of numbers, and of sentences what every block of bytes has
-- (`bytes-width`). 11 is returned exactly where the buffer has not the room of a line. Assumes nothing.
use Prim.Native.Nat.{ℕ, zero, suc, ◌+◌, ◌-◌, ◌<◌, ◌≤◌}
use native.Mathlib.Omega.{arith}
use native.Mathlib.Nat.{zero-add}
use mathlib.Core.Path.{◌≡◌, refl, sym, ap, ◌∙◌}
use mathlib.Core.Bool.{Bool, true, false}
use mathlib.Core.List.{List, ◌++◌}
use lib.ListN.{length, take, drop, get_or}
use lib.Seq.{take_at}
use lib.Dec.{ltb, leb}
use lib.IntN.{ℤ, pos, negsuc}
use borrow.Author.Tests.{le-leb, lt-leb, leb-true, leb-false, ltb-true, ltb-false}
use Rattle.refusals.specs.Outcome.{answer, onward}
use Rattle.utc.specs.text.Answer.{text_written, buffer_after}
use Rattle.utc.specs.iso_texts.TextCall.{written, buffer_holds}
use Rattle.leap_table.specs.rows.Table.{Row}
use Rattle.stamps.specs.Block.{block_of}
use Rattle.stamps.specs.declared.Reporting.{Reporting}
use Rattle.stamps.specs.declared.Reporting.TheVariants.{Numbers, Sentences}
use Rattle.stamps.specs.Listing.{line_room, listing}
use Rattle.stamps.specs.Widths.{Wide, InWidth}
use Rattle.stamps.specs.Parts.{lines_in, lines_from, part_lines, part_text}
use Rattle.stamps.specs.listing_laws.LineEnds.{line_ends}
use Rattle.stamps.proofs.Blocks.{few-lines}
use Rattle.stamps.proofs.Parts.{held-few}
use Rattle.stamps.proofs.Reportings.{bytes-width}
use Rattle.stamps.proofs.listing_laws.Whole.{all_lines}
use Rattle.stamps.proofs.Lengths.{part-fits, lines-add}
use Rattle.stamps.proofs.listing_laws.LineEnds.{ends-most, part-ends, part-some}
use Rattle.c_answers.specs.table.TableBytes.{table_bytes}
use Rattle.c_answers.specs.Delivery.{code, Delivered}
use Rattle.capi.specs.ListingPart.{listing_part, first_listing, second_listing}
use Rattle.capi.specs.laws.ListingCalls.{Listed, begun, next}

-- ---- what one call delivers to a buffer that holds a line
module _ (how : Reporting) (rows : List Row) (s : List ℕ) (line : ℕ) (w : InWidth how s) {before after : List ℕ} {r : ℤ}
    (enough : line_room how ≤ length before)
    (d : Delivered (listing_part how rows s line (length before)) before r after) where
  -- the number of the part's bytes: never a refusal
  pub returns_count : r ≡ pos (length (part_text how rows s line (length before)))
  unfolding listing_part written onward text_written code
  returns_count = d.returned ∙ simp (le-leb _ _ enough, le-leb _ _ (part-fits how rows s line (length before) w))

  -- and the part at the buffer's start
  part-read : take (length (part_text how rows s line (length before))) after ≡ part_text how rows s line (length before)
  unfolding listing_part buffer_holds onward buffer_after
  part-read =
      let e : after ≡ part_text how rows s line (length before) ++ drop (length (part_text how rows s line (length before))) before =
      d.holds ∙ simp (le-leb _ _ enough, le-leb _ _ (part-fits how rows s line (length before) w)) in
      ap (take (length (part_text how rows s line (length before)))) e ∙ take_at (part_text how rows s line (length before)) _ _ refl

-- ---- 11 is returned exactly where the buffer has not a line's room, and leaves it, as far as the table is taken, which is tested first
module _ (how : Reporting) (table s : List ℕ) (rows : List Row) (line : ℕ) (w : InWidth how s) {before after : List ℕ} {r : ℤ}
    (taken : table_bytes table ≡ answer rows)
    (d : Delivered (onward (table_bytes table) (λ rows. listing_part how rows s line (length before))) before r after) where
  by_rows : Delivered (listing_part how rows s line (length before)) before r after
  unfolding onward
  by_rows = rw taken at d

  too_short : length before < line_room how → (r ≡ negsuc 10) × (after ≡ before)
  unfolding listing_part written onward buffer_holds code
  too_short h = (by_rows.returned ∙ simp (lt-leb _ _ h), by_rows.holds ∙ simp (lt-leb _ _ h))

  only-short : r ≡ negsuc 10 → length before < line_room how
  only-short e = go (leb (line_room how) (length before)) refl
    where
      go : (b : Bool) → leb (line_room how) (length before) ≡ b → length before < line_room how
      go false t = leb-false _ _ t
      go true t = let c = returns_count how rows s line w (leb-true _ _ t) by_rows in let z : ◌≡◌ {A = ℕ} 0 1 = cc in absurd (omega (arith, z))

-- 33 bytes where numbers are reported
pub listing-room : (table s : List ℕ) (rows : List Row) (line : ℕ) {before after : List ℕ} {r : ℤ} → table_bytes table ≡ answer rows
    → Delivered (first_listing table s line (length before)) before r after
    → (length before < 33 → (r ≡ negsuc 10) × (after ≡ before)) × (r ≡ negsuc 10 → length before < 33)
unfolding line_room Wide
listing-room table s rows line taken d = (too_short Numbers table s rows line tt taken d, only-short Numbers table s rows line tt taken d)

-- and 64 where sentences are reported, of every block of bytes and however many of 64 bits came
pub reported-room : (n : ℕ) → n < 18446744073709551616 → (table s : List ℕ) → ((k : ℕ) → get_or s k 0 < 256)
    → (rows : List Row) (line : ℕ) {before after : List ℕ} {r : ℤ}
    → table_bytes table ≡ answer rows → Delivered (second_listing n table s line (length before)) before r after
    → (length before < 64 → (r ≡ negsuc 10) × (after ≡ before)) × (r ≡ negsuc 10 → length before < 64)
unfolding line_room
reported-room n h table s bytes rows line taken d =
    let w = bytes-width n s h bytes in
    (too_short (Sentences n) table s rows line w taken d, only-short (Sentences n) table s rows line w taken d)

-- a part with bytes has a line
some-by : (how : Reporting) (rows : List Row) (s : List ℕ) (line k : ℕ) → 0 < length (lines_from how rows s line k) → 1 ≤ k
unfolding lines_from
some-by how rows s line zero h = omega arith
some-by how rows s line (suc k) h = omega arith

some-lines : (how : Reporting) (rows : List Row) (s : List ℕ) (line room : ℕ) → 0 < length (part_text how rows s line room)
    → 1 ≤ part_lines how rows s line room
unfolding part_text
some-lines how rows s line room h = some-by how rows s line (part_lines how rows s line room) h

lines_left : (how : Reporting) (rows : List Row) (s : List ℕ) (line room : ℕ) → part_lines how rows s line room ≤ lines_in (block_of s) - line
unfolding part_lines
lines_left how rows s line room = held-few how rows s line room (lines_in (block_of s) - line)

-- ---- what the caller has after its calls: all lines before the one that it asks for next
record Before (how : Reporting) (rows : List Row) (s : List ℕ) (calls line : ℕ) (text : List ℕ) : Type 0 where
  wrote : text ≡ lines_from how rows s 0 line
  within : line ≤ lines_in (block_of s)
  few : calls ≤ line

so_far : {how : Reporting} {rows : List Row} {s text : List ℕ} {calls line : ℕ} → InWidth how s → Listed how rows s calls line text
    → Before how rows s calls line text
unfolding lines_from part_text
so_far w begun = record { wrote = refl; within = omega arith; few = omega arith }
so_far {how} {rows} {s} w (next {calls} {line} {n} {text} {before} {after} l enough some d) =
    let b = so_far w l in
    let room = length before in
    let n-is : n ≡ length (part_text how rows s line room) = cc (returns_count how rows s line w enough d) in
    let read : take n after ≡ part_text how rows s line room = ap (λ (k : ℕ). take k after) n-is ∙ part-read how rows s line w enough d in
    let ends : line_ends (take n after) ≡ part_lines how rows s line room = ap line_ends read ∙ part-ends how rows s line room in
    let one = some-lines how rows s line room (omega arith) in
    let left = lines_left how rows s line room in
    record {
      wrote = ap (λ (t : List ℕ). t ++ take n after) b.wrote
          ∙ ap (λ (t : List ℕ). lines_from how rows s 0 line ++ t)
          (read ∙ ap (λ (i : ℕ). lines_from how rows s i (part_lines how rows s line room)) (sym (zero-add line)))
          ∙ lines-add how rows s 0 line (part_lines how rows s line room)
          ∙ ap (λ (k : ℕ). lines_from how rows s 0 (line + k)) (sym ends);
      within = omega (arith, b.within);
      few = omega (arith, b.few);
    }

-- ---- what the caller learns
-- its loop ends: every call that returns bytes brings it on by a line at least, to line 4,001 at most, which 32 bits hold
pub listed-few : {how : Reporting} {rows : List Row} {s text : List ℕ} {calls line : ℕ} → InWidth how s → Listed how rows s calls line text → (calls ≤ line)
    × (line ≤ 4001)
listed-few {how} {rows} {s} w l = let b = so_far w l in (b.few, omega (arith, b.within, few-lines s))

-- and where a call returns 0, what it has written is the whole listing
pub listed-whole : {how : Reporting} {rows : List Row} {s text before after : List ℕ} {calls line : ℕ} → InWidth how s → Listed how rows s calls line text
    → line_room how ≤ length before
    → Delivered (listing_part how rows s line (length before)) before (pos 0) after → text ≡ listing how rows s
listed-whole {how} {rows} {s} {text} {before} {after} {calls} {line} w l enough d =
    let b = so_far w l in
    let none : 0 ≡ length (part_text how rows s line (length before)) = cc (returns_count how rows s line w enough d) in
    let ends = ends-most (part_text how rows s line (length before)) in
    let same = part-ends how rows s line (length before) in
    let all : line ≡ lines_in (block_of s) = by (ltb line (lines_in (block_of s))) refl b.within none ends same in
    b.wrote ∙ ap (lines_from how rows s 0) all ∙ all_lines how rows s
  where
    by : (t : Bool) → ltb line (lines_in (block_of s)) ≡ t → line ≤ lines_in (block_of s) → 0 ≡ length (part_text how rows s line (length before))
        → line_ends (part_text how rows s line (length before)) ≤ length (part_text how rows s line (length before))
        → line_ends (part_text how rows s line (length before)) ≡ part_lines how rows s line (length before) → line ≡ lines_in (block_of s)
    by true e h none ends same = let one = part-some how rows s line (length before) (ltb-true _ _ e) enough in absurd (omega arith)
    by false e h none ends same = let g : lines_in (block_of s) ≤ line = ltb-false _ _ e in omega arith
